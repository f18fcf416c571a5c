use Rattle.std.proofs.Common.{◌≡◌, ◌-◌, ◌≤◌, map, length}
use Rattle.terms.specs.Numbers.{sum}
use Rattle.model.specs.Fills.{fills}
use Rattle.serving.specs.Filling.{Roomy, all_filled_in}
use Rattle.serving.proofs.fills.enter_fills.Given as goal

-- what is still to be entered comes to what was to be entered at first
abbrev pub invariant-loop-record : goal.invariant-loop-record
invariant-loop-record g l =
    let records = l.record-iterator.a.rest.now in
    let shares = l.record-iterator.b.rest.now in
    (all_filled_in l.places (fills (map g.R.Standing.shown records) shares) l.block
    ≡ all_filled_in l.places (fills (map g.R.Standing.shown l.records) l.shares) l.initial.block)
    × (l.left - sum shares ≡ l.number - sum l.shares)
    × (sum shares ≤ l.left)
    × (length shares ≡ length records)
    × Roomy l.places (length records) l.left l.block
