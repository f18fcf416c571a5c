use Rattle.std.proofs.Common.{◌≡◌, ◌≤◌, List, ℕ, length, nat_lt, take, vec_len}
use Rattle.std.specs.Io.KnownBytes.{Consumes}
use Rattle.lines.specs.Reading.{Endless}
use Rattle.lines.proofs.reading.next_line.Given as goal

-- the bytes that have come of the line, without its end, and what is kept of them
abbrev pub invariant-loop : goal.invariant-loop
invariant-loop g l = (done : List ℕ) × (vec_len l.line ≤ l.most) × (l.line.items ≡ take l.most done) × (l.some ≡ nat_lt 0 (length done))
    × Endless done × Consumes (g.R.Read.remaining l.initial.input) (g.R.Read.remaining l.input) done
