use Rattle.std.proofs.Common.{◌≡◌, ℕ, ◌<◌, ◌≤◌, List, map, length, get_or, ap, ◌∙◌, subst, arith}
use Rattle.sharing.specs.Rule.{EachWithin}
use Rattle.kept.specs.Standing.{Interest}
use Rattle.model.specs.Tables.{sizes_of}
use Rattle.serving.proofs.Mapped.{lowered_is, within_at}
use Rattle.serving.proofs.fills.lower_each.Goals as goal

may : {X : Type 0} (shown : X → Interest) (xs : List X) (ss : List ℕ) (k : ℕ) (x : X) → EachWithin ss (sizes_of (map shown xs)) → k < length xs → x ≡ get_or xs k x → get_or ss k 0 ≤ (shown x).left
may shown xs ss k x w h e = let a = within_at shown xs ss w k x h in let b : (shown x).left ≡ (shown (get_or xs k x)).left = ap (λ y. (shown y).left) e in omega arith

pub lowered-requires : goal.lowered-requires
lowered-requires g c =
    let allowed = may g.R.Standing.shown c.args.records.now c.args.shares.now c.loop-i.i c.index-records-i.result c.requires.inside (omega arith)
    (c.index-records-i.is ∙ c.loop-i.invariant.1 c.loop-i.i c.index-records-i.result (omega arith)) in
    subst (λ x. get_or c.args.shares.now c.loop-i.i 0 ≤ (g.R.Standing.shown x).left) c.index-records-i.is allowed

pub returns : goal.returns
returns g c =
    lowered_is g.R.Standing.lower c.args.records.now c.loop-i.records c.args.shares.now (omega arith) (omega arith) (λ k d h. c.loop-i.invariant.0 k d (omega arith))
