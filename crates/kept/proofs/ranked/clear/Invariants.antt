use Rattle.std.proofs.Common.{◌≡◌, ℕ, ◌<◌, get_or}
use Rattle.kept.proofs.ranked.clear.Given as goal

abbrev pub invariant-loop-place : goal.invariant-loop-place
invariant-loop-place g l = (k : ℕ) (d : g.row.R.Denot) → k < l.place-index → get_or l.places k d ≡ g.R.Ranked.cleared
