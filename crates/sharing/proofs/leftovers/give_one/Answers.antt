use Rattle.std.proofs.Common.{sym, refl, inl, inr}
use Rattle.terms.proofs.Rows.{found_at, found_nowhere}
use Rattle.sharing.specs.Counts.{distinct_single}
use Rattle.sharing.proofs.Handing.{unspent_there, unspent_gone, gives_there}
use Rattle.sharing.proofs.leftovers.give_one.Goals as goal

pub returns-in-Some-clause-gave : goal.returns-in-Some-clause-gave
returns-in-Some-clause-gave c =
    let v = c.args.asked.valid in
    let found = found_at c.args.asked.holders.now c.args.party c.in-Some.at c.in-Some.ensures.found in
    sym (unspent_there c.args.party c.in-Some.at c.args.asked.holders.now c.args.asked.sizes.now c.args.shares.now v.paired c.requires (distinct_single c.args.asked.holders.now v.once)
    found.0 found.1 c.if-shares-at.true)

pub returns-in-Some-clause-shares : goal.returns-in-Some-clause-shares
returns-in-Some-clause-shares c =
    let v = c.args.asked.valid in
    let found = found_at c.args.asked.holders.now c.args.party c.in-Some.at c.in-Some.ensures.found in
    gives_there c.args.party c.in-Some.at c.args.asked.holders.now c.args.asked.sizes.now c.args.shares.now v.paired c.requires (distinct_single c.args.asked.holders.now v.once) found.0 found.1

pub returns-in_default-clause-gave : goal.returns-in_default-clause-gave
returns-in_default-clause-gave c =
    let v = c.args.asked.valid in
    let found = found_at c.args.asked.holders.now c.args.party c.in-Some.at c.in-Some.ensures.found in
    sym (unspent_gone c.args.party c.in-Some.at c.args.asked.holders.now c.args.asked.sizes.now c.args.shares.now v.paired c.requires (distinct_single c.args.asked.holders.now v.once)
    found.0 (inr c.if-shares-at.false))

pub returns-in_default-2-clause-gave : goal.returns-in_default-2-clause-gave
returns-in_default-2-clause-gave c =
    let v = c.args.asked.valid in
    sym (unspent_gone c.args.party _ c.args.asked.holders.now c.args.asked.sizes.now c.args.shares.now v.paired c.requires (distinct_single c.args.asked.holders.now v.once)
    refl (inl (found_nowhere c.args.asked.holders.now c.args.party c.in_default.ensures.found)))
