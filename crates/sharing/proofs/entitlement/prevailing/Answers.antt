use Rattle.std.proofs.Common.{◌∙◌}
use Rattle.std.proofs.lemmas.Bool.{lt-ltb, le-ltb}
use Rattle.sharing.specs.Asking.{inputs_of}
use Rattle.sharing.proofs.Finding.{prevails_is}
use Rattle.sharing.proofs.entitlement.prevailing.Goals as goal

pub returns-then-takes-plain : goal.returns-then-takes-plain
returns-then-takes-plain c =
    let found = c.in_ok-at.ensures in
    let e = prevails_is c.args.specialist c.in_ok-at.at (inputs_of c.args.asked) c.args.asked.valid found.1.0 found.1.1
    c.args.total c.entitlement_at-takes.result c.part-plain.result c.requires.0 found.0 c.entitlement_at-takes.ensures c.part-plain.ensures in
    (e ∙ lt-ltb c.part-plain.result c.entitlement_at-takes.result c.if-takes-plain.true, found.1, c.entitlement_at-takes.ensures)

pub returns-else-takes-plain : goal.returns-else-takes-plain
returns-else-takes-plain c =
    let found = c.in_ok-at.ensures in
    let e = prevails_is c.args.specialist c.in_ok-at.at (inputs_of c.args.asked) c.args.asked.valid found.1.0 found.1.1
    c.args.total c.entitlement_at-takes.result c.part-plain.result c.requires.0 found.0 c.entitlement_at-takes.ensures c.part-plain.ensures in
    e ∙ le-ltb c.part-plain.result c.entitlement_at-takes.result c.if-takes-plain.false
