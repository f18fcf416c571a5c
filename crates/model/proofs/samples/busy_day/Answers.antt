use Rattle.std.proofs.Common.{refl}
use Rattle.model.proofs.samples.busy_day.Goals as goal

pub returns : goal.returns
returns c = record { events = refl; tables = refl; arrival = refl; makers_account = refl; firms_account = refl; noted = refl }
