use Rattle.std.proofs.Common.{◌≡◌, ℕ, ◌<◌, get_or}
use Rattle.serving.proofs.gather.gather.Given as goal

abbrev pub invariant-loop-i : goal.invariant-loop-i
invariant-loop-i g l =
    ((k : ℕ) (d : _) → k < l.i → get_or l.holders k 0 ≡ (g.R.Standing.shown (get_or l.records k d)).holder)
    × ((k : ℕ) (d : _) → k < l.i → get_or l.sizes k 0 ≡ (g.R.Standing.shown (get_or l.records k d)).left)
