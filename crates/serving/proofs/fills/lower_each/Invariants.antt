use Rattle.std.proofs.Common.{◌≡◌, ℕ, ◌<◌, ◌≤◌, get_or}
use Rattle.serving.proofs.fills.lower_each.Given as goal

abbrev pub invariant-loop-i : goal.invariant-loop-i
invariant-loop-i g l =
    ((k : ℕ) (d : _) → k < l.i → get_or l.records k d ≡ g.R.Standing.lower (get_or l.initial.records k d) (get_or l.shares k 0))
    × ((k : ℕ) (d : _) → l.i ≤ k → get_or l.records k d ≡ get_or l.initial.records k d)
