-- A line and its fields: one blank stands between two fields.
use Rattle.std.specs.Prelude.{ℕ, ◌+◌, not, List, length, take, drop, ◌==◌, nat_lt, if◌then◌else◌, Some, None, Option}
use Rattle.std.specs.List.{prefix_len}

-- how many bytes come before the one that stops them
abbrev pub before : (stop : ℕ) → List ℕ → ℕ
before stop = prefix_len (λ b. not (b == stop))

-- the column behind the field that begins at a column: before the next blank, byte 32, or at the line's end
abbrev pub end_of : (line : List ℕ) → (column : ℕ) → ℕ
end_of line at = at + before 32 (drop at line)

-- that field
abbrev pub field : (line : List ℕ) → (column : ℕ) → List ℕ
field line at = take (before 32 (drop at line)) (drop at line)

-- the column where the field behind that one begins, none where that one is the last
abbrev pub start_behind : (line : List ℕ) → (column : ℕ) → Option ℕ
start_behind line at = if nat_lt (end_of line at) (length line) then Some (end_of line at + 1) else None
