use Rattle.std.proofs.Common.{refl}
use Rattle.model.proofs.refusing.refused_in_order.Goals as goal

pub returns : goal.returns
returns c =
    record { enters = refl; reduces = refl; withdraws = refl; quotes = refl; trades = refl; tallies = refl; makes = refl; while_shut = λ call. refl }
