-- What a reader over a line's fields hands out.
use Rattle.std.specs.Prelude.{◌≡◌, ℕ, ◌+◌, ◌-◌, length, MatchOption, Some, None, Option, option_and_then, option_map, unwrap_or}
use Rattle.lines.specs.Split.{field, start_behind}
use Rattle.lines.specs.declared.fields.Fields.{Fields}
use Rattle.lines.specs.declared.fields.Part.{Part}

-- `next` at the fields s gave r and left t: the field that begins where s says, none behind the last
pub record GivesField (s : Fields) (r : Option Part) (t : Fields) : Type 0 where
  pub part : MatchOption r (s.start ≡ None) (λ p. (s.start ≡ Some p.column) × (p.text.now ≡ field s.line.now p.column))
  pub line : t.line.now ≡ s.line.now
  pub start : t.start ≡ option_and_then (start_behind s.line.now) s.start

-- no more fields than this are left
abbrev pub most_left : Fields → ℕ
most_left s = unwrap_or (option_map (λ at. length s.line.now + 1 - at) s.start) 0
