use Rattle.std.proofs.Common.{arith}
use Rattle.sharing.specs.Asking.{inputs_of}
use Rattle.sharing.proofs.Finding.{leaves, first_is}
use Rattle.sharing.proofs.entitlement.share_base.Goals as goal

pub overflow_sub-others : goal.overflow_sub-others
overflow_sub-others c =
    let found = c.in-Some.ensures in
    (leaves c.args.specialist c.in-Some.entitlement.at (inputs_of c.args.asked) c.args.asked.valid found.1.0 found.1.1
    c.args.total c.in-Some.entitlement.takes c.requires.short.0 c.requires.short.1 found.0 found.2).0

pub plain_shares-requires : goal.plain_shares-requires
plain_shares-requires c =
    let found = c.in-Some.ensures in
    let l = leaves c.args.specialist c.in-Some.entitlement.at (inputs_of c.args.asked) c.args.asked.valid found.1.0 found.1.1
    c.args.total c.in-Some.entitlement.takes c.requires.short.0 c.requires.short.1 found.0 found.2 in
    (omega arith, (omega arith, c.requires.room))

pub returns-in-Some : goal.returns-in-Some
returns-in-Some c =
    let found = c.in-Some.ensures in
    first_is c.args.specialist c.in-Some.entitlement.at (inputs_of c.args.asked) c.args.asked.valid found.1.0 found.1.1
    c.args.total c.in-Some.entitlement.takes c.plain_shares.new.out c.requires.short.0 found.0 found.2 c.plain_shares.ensures
