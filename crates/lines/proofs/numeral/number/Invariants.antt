use Rattle.std.proofs.Common.{◌≡◌, ◌^◌, ◌<◌, drop}
use Rattle.lines.specs.Numbers as spelled
use Rattle.lines.proofs.numeral.number.Given as goal

-- what is left spells the rest, and what was read is short
abbrev pub invariant-loop-digit : goal.invariant-loop-digit
invariant-loop-digit l =
    (spelled.digits (drop l.digit-index l.text) ≡ spelled.digits l.text)
    × (spelled.value l.value (drop l.digit-index l.text) ≡ spelled.value 0 l.text)
    × (l.value < 10 ^ l.digit-index)
