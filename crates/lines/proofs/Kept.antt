-- What is kept of a line, and where its end stands among the bytes that an input shows.
use Rattle.std.proofs.Common.{◌≡◌, ◌≢◌, ◌==◌, ◌+◌, ◌-◌, ◌<◌, ◌≤◌, ◌||◌, ℕ, nat_lt, suc, zero, false, true≢false, Bool, Option, Some, None, IfSome, List, [], ◌∷◌, ◌++◌, length, take, refl, ap, sym, ◌∙◌, arith, length-append, length-take-le, append-nil, get_or, get_or-take, eq-eqb, eqb-true, ne_eqb}
use Rattle.std.specs.Io.{IsEmptyOrEndsWith}
use Rattle.std.specs.Io.BufRead.{take_through, strip_last, first_piece}
use Rattle.std.specs.List.{position, position_or_len}
use Rattle.std.proofs.BufReadLemmas.{take_through-nil, take_through_nonempty}
use Rattle.std.proofs.lemmas.Grind.{common_steps}
use Rattle.std.proofs.lemmas.Bool.Decides.{nat_tests}
use Rattle.std.proofs.lemmas.List.{take_more}
use Rattle.std.proofs.lemmas.List.Elements.{All-from_get_or, All-head, All-tail}
use Rattle.std.proofs.lemmas.List.Quantifiers.{position-Some}
use Rattle.std.proofs.lemmas.List.Sums.{fails_before_first}
use Rattle.lines.specs.Reading.{Endless}

no_end : (b : ℕ) → (b == 10) ≡ false → b ≢ 10
no_end b f e = true≢false (sym (eq-eqb b 10 e) ∙ f)

-- the end that stands first, and the bytes before it
pub end_at : (xs : List ℕ) (k : ℕ) → Some k ≡ position (λ b. b == 10) xs → (k < length xs) × (get_or xs k 0 ≡ 10) × Endless (take k xs)
end_at xs k e =
    let at = position-Some (λ b. b == 10) xs k 0 (sym e) in (
      at.0,
      eqb-true _ _ at.1,
      All-from_get_or (λ b. b ≢ 10) (take k xs) 0 (λ i lt.
          let within : i < k = omega (arith, lt, length-take-le k xs (omega (arith, at.0))) in
          no_end _ (ap (λ b. b == 10) (get_or-take k xs i 0 within) ∙ at.2 i within)),
    )

-- the bytes up to it end with it
pub end_last : (xs : List ℕ) (k : ℕ) → k < length xs → get_or xs k 0 ≡ 10 → IsEmptyOrEndsWith (take (k + 1) xs) 10
end_last xs k lt e some =
    let last : length (take (k + 1) xs) - 1 ≡ k = omega (arith, length-take-le (k + 1) xs (omega arith)) in
    ap (λ n. get_or (take (k + 1) xs) n 0) last ∙ get_or-take (k + 1) xs k 0 (omega arith) ∙ e

-- where no end stands, no byte is one
pub end_nowhere : (xs : List ℕ) → None ≡ position (λ b. b == 10) xs → Endless xs
end_nowhere xs e =
    let past : length xs ≤ position_or_len (λ b. b == 10) xs = grind (arith, common_steps) in
    All-from_get_or (λ b. b ≢ 10) xs 0 (λ i lt. no_end _ (fails_before_first (λ b. b == 10) xs i 0 (omega arith)))

strip_more : (x : ℕ) (xs : List ℕ) → (x == 10) ≡ false → strip_last 10 (x ∷ xs) ≡ x ∷ strip_last 10 xs
strip_more x [] e = rw e refl
strip_more x (y ∷ ys) e = grind (arith, common_steps, nat_tests)

-- an end is taken off behind bytes that are none
strip_behind : (xs ys : List ℕ) → Endless xs → strip_last 10 (xs ++ ys) ≡ xs ++ strip_last 10 ys
strip_behind [] ys h = refl
strip_behind (x ∷ xs) ys h =
    strip_more x (xs ++ ys) (ne_eqb x 10 (All-head (λ b. b ≢ 10) x xs h)) ∙ ap (λ l. x ∷ l) (strip_behind xs ys (All-tail (λ b. b ≢ 10) x xs h))

pub strip_none : (xs : List ℕ) → Endless xs → strip_last 10 xs ≡ xs
strip_none xs h = ap (strip_last 10) (sym (append-nil xs)) ∙ strip_behind xs [] h ∙ append-nil xs

pub strip_end : (xs : List ℕ) (k : ℕ) → k < length xs → get_or xs k 0 ≡ 10 → Endless (take k xs) → strip_last 10 (take (k + 1) xs) ≡ take k xs
strip_end xs k lt e h =
    ap (strip_last 10) (take_more xs k 0 lt ∙ ap (λ b. take k xs ++ b ∷ []) e) ∙ strip_behind (take k xs) (10 ∷ []) h ∙ append-nil (take k xs)

-- of what is kept and what comes, the first so many are those of all that came
pub kept_more : (n : ℕ) (xs ys : List ℕ) → take n (take n xs ++ ys) ≡ take n (xs ++ ys)
kept_more zero xs ys = refl
kept_more (suc n) [] ys = refl
kept_more (suc n) (x ∷ xs) ys = ap (λ l. x ∷ l) (kept_more n xs ys)

-- what is added to a line is a part without its end
pub kept_part : (most : ℕ) (line line' bytes part : List ℕ) → line' ≡ take most (line ++ bytes) → strip_last 10 part ≡ bytes → line' ≡ take most (line ++ strip_last 10 part)
kept_part most line line' bytes part kept stripped = kept ∙ ap (λ b. take most (line ++ b)) (sym stripped)

module _ (most : ℕ) (done part line line' : List ℕ) (kept : line ≡ take most done) (next : line' ≡ take most (line ++ strip_last 10 part)) where
  with_part : line' ≡ take most (done ++ strip_last 10 part)
  with_part = next ∙ ap (λ front. take most (front ++ strip_last 10 part)) kept ∙ kept_more most done (strip_last 10 part)

  -- a part without an end has come
  pub part_kept : Endless part → line' ≡ take most (done ++ part)
  part_kept none = with_part ∙ ap (λ l. take most (done ++ l)) (strip_none part none)

  -- the last part has come
  pub line_kept : (known : Option (List ℕ)) → Endless done → IfSome known (λ xs. done ++ part ≡ take_through 10 xs) → IfSome known (λ xs. line' ≡ take most (first_piece 10 xs))
  line_kept None none all = tt
  line_kept (Some xs) none all = with_part ∙ ap (take most) (sym (strip_behind done part none) ∙ ap (strip_last 10) all)

either_some : (m n : ℕ) → (nat_lt 0 m || nat_lt 0 n) ≡ nat_lt 0 (m + n)
either_some m n = grind (arith, nat_tests)

both_some : (a b : ℕ) → (a ≡ 0 → b ≡ 0) → (0 < a → 0 < b) → nat_lt 0 a ≡ nat_lt 0 b
both_some zero b n s = let e = n refl in rw e
both_some (suc a) b n s = let l = s (omega arith) in grind (arith, nat_tests)

pub some_more : (m : ℕ) (done part : List ℕ) → m ≡ length part → (nat_lt 0 (length done) || nat_lt 0 m) ≡ nat_lt 0 (length (done ++ part))
some_more m done part e = ap (λ k. nat_lt 0 (length done) || nat_lt 0 k) e ∙ either_some (length done) (length part) ∙ ap (nat_lt 0) (sym (length-append done part))

-- something came where something was left
pub some_left : (known : Option (List ℕ)) (some : Bool) (all : List ℕ) → some ≡ nat_lt 0 (length all) → IfSome known (λ xs. all ≡ take_through 10 xs) → IfSome known (λ xs. some ≡ nat_lt 0 (length xs))
some_left None some all e h = tt
some_left (Some xs) some all e h =
    e ∙ ap (λ l. nat_lt 0 (length l)) h
    ∙ both_some (length (take_through 10 xs)) (length xs) (λ z. ap length (take_through-nil 10 xs z)) (take_through_nonempty 10 xs)
