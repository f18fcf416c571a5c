use Rattle.blocks.proofs.Agreement.{reads_back, reads_only_blocks}
use Rattle.blocks.proofs.laws.block_laws.Goals as goal

pub returns : goal.returns
returns c = record { back = reads_back; only = reads_only_blocks }
