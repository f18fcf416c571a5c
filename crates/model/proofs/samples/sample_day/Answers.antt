use Rattle.std.proofs.Common.{refl}
use Rattle.model.proofs.samples.sample_day.Goals as goal

pub returns : goal.returns
returns c =
    record { make = refl; events = refl; tables = refl; turn = refl; read = refl; unread = refl; standing = refl; accounts = refl; noted = refl }
