-- What one look at an input brings of a line, whose end is byte 10.
use Rattle.std.specs.Prelude.{◌≡◌, ◌≢◌, ℕ, Bool, true, List, ◌++◌, All, OnSome, Option, length, take}
use Rattle.std.specs.Io.{StopsAt, IsEmptyOrEndsWith}
use Rattle.std.specs.Io.BufRead.{strip_last}
use Rattle.std.specs.Io.KnownBytes.{Consumes, IsAtEnd}

-- none of the bytes is a line's end
abbrev pub Endless : List ℕ → Type 0
Endless bytes = All (λ b. b ≢ 10) bytes

-- a look at an input that had the bytes `old` left and then has `new`, for a line that held `line` and then holds `line'`
pub record Took (old new : Option (List ℕ)) (most : ℕ) (line line' : List ℕ) (taken : ℕ) (done : Bool) : Type 0 where
  -- the bytes that it took, which are gone from the input; none but the last is the line's end
  pub part : List ℕ
  pub count : length part ≡ taken
  pub moved : Consumes old new part
  pub stops : StopsAt part 10
  -- the line goes on where its end did not come
  pub goes_on : done ≢ true → Endless part
  -- it is done where its end came, or where nothing was left
  pub ends : done ≡ true → IsEmptyOrEndsWith part 10
  pub at_end : done ≡ true → length part ≡ 0 → OnSome old (IsAtEnd new)
  -- its bytes are added to the line, of which so many are kept at the most
  pub kept : line' ≡ take most (line ++ strip_last 10 part)
