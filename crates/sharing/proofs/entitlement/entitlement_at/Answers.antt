use Rattle.sharing.specs.Asking.{inputs_of}
use Rattle.sharing.proofs.Finding.{entitlement_is}
use Rattle.sharing.proofs.entitlement.entitlement_at.Goals as goal

pub returns : goal.returns
returns c =
    entitlement_is c.args.specialist c.args.at (inputs_of c.args.asked) c.args.asked.valid c.requires.0 c.requires.1
    c.percentage-percent.result c.part.result c.min.result c.percentage-percent.ensures c.part.ensures c.min.ensures
