-- Leftovers handed out one by one, as the code does it.
use Rattle.std.proofs.Common.{◌≡◌, ℕ, zero, suc, ◌+◌, ◌-◌, ◌<◌, ◌≤◌, true, false, cond, ◌&&◌, eqb, ltb, ◌⊎◌, List, [], ◌∷◌, length, get_or, take, set, sym, refl, ap, ◌∙◌, inl, inr, add-one, arith}
use Rattle.std.proofs.lemmas.Bool.{cases_Bool, lt-ltb}
use Rattle.std.proofs.lemmas.Bool.Decides.{eqb_tells, nat_tests}
use Rattle.terms.specs.Numbers.{listed, place}
use Rattle.sharing.specs.Draw.{unspent, among, with_leftovers}
use Rattle.sharing.specs.Counts.{count, Single, listed_tells, single_rest, single_first, count_among, count_take}
use Rattle.sharing.specs.Remaining.{count_unspent}

-- ---- one contract to one party ----

-- nobody receives
pub to_nobody : (holders shares : List ℕ) → length shares ≡ length holders → with_leftovers [] holders shares ≡ shares
to_nobody [] [] e = refl
to_nobody [] (share ∷ shares) e = absurd (omega arith)
to_nobody (holder ∷ holders) [] e = absurd (omega arith)
to_nobody (holder ∷ holders) (share ∷ shares) e =
    let more = to_nobody holders shares (omega arith) in
    let same : share + 0 ≡ share = omega arith in rw (same, more)

-- a party that is not there receives nothing
to_stranger : (party : ℕ) (holders shares : List ℕ) → length shares ≡ length holders → count party holders ≡ 0 → with_leftovers (party ∷ []) holders shares ≡ shares
to_stranger party [] [] e n = refl
to_stranger party [] (share ∷ shares) e n = absurd (omega arith)
to_stranger party (holder ∷ holders) [] e n = absurd (omega arith)
to_stranger party (holder ∷ holders) (share ∷ shares) e n =
    let more = to_stranger party holders shares (omega arith) (omega arith) in
    let other : eqb holder party ≡ false = grind (arith, nat_tests) in
    let same : share + 0 ≡ share = omega arith in rw (other, same, more)

-- a write at a party's place gives it one
pub gives_one : (party : ℕ) (holders shares : List ℕ) → length shares ≡ length holders → Single holders → place holders party < length holders →
    set shares (place holders party) (get_or shares (place holders party) 0 + 1) ≡ with_leftovers (party ∷ []) holders shares
gives_one party [] shares e o l = absurd (omega arith)
gives_one party (holder ∷ holders) [] e o l = absurd (omega arith)
gives_one party (holder ∷ holders) (share ∷ shares) e o l =
    elim (eqb_tells party holder) [
      | inl k ↦
          let none : count party holders ≡ 0 = rw k.1 (single_first holder holders o) in
          let same : eqb holder party ≡ true = grind (arith, nat_tests) in
          rw (k.0, same) (ap (λ zs. (share + 1) ∷ zs) (sym (to_stranger party holders shares (omega arith) none)))
      | inr k ↦
          let other : eqb holder party ≡ false = grind (arith, nat_tests) in
          let none : share + 0 ≡ share = omega arith in
          rw (k.0, add-one, other, none) (ap (λ zs. share ∷ zs) (gives_one party holders shares (omega arith) (single_rest holder holders o) (omega (arith, rw k.0 at l))))
    ]

ltb_suc : (m n : ℕ) → ltb (suc m) (suc n) ≡ ltb m n
ltb_suc m n = grind (arith, nat_tests)

-- a party with size unspent is one whose share at its place is below its size there
pub unspent_at : (party : ℕ) (holders sizes shares : List ℕ) → length sizes ≡ length holders → length shares ≡ length sizes → Single holders →
    listed party (unspent holders sizes shares)
    ≡ (ltb (place holders party) (length holders) && ltb (get_or shares (place holders party) 0) (get_or sizes (place holders party) 0))
unspent_at party [] [] [] e f o = refl
unspent_at party [] [] (share ∷ shares) e f o = absurd (omega arith)
unspent_at party [] (size ∷ sizes) shares e f o = absurd (omega arith)
unspent_at party (holder ∷ holders) [] shares e f o = absurd (omega arith)
unspent_at party (holder ∷ holders) (size ∷ sizes) [] e f o = absurd (omega arith)
unspent_at party (holder ∷ holders) (size ∷ sizes) (share ∷ shares) e f o =
    let more = unspent_at party holders sizes shares (omega arith) (omega arith) (single_rest holder holders o) in
    elim (eqb_tells party holder) [
      | inl k ↦
          let none : count party holders ≡ 0 = rw k.1 (single_first holder holders o) in
          let gone : listed party (unspent holders sizes shares) ≡ false =
          grind (arith, listed_tells party (unspent holders sizes shares), count_unspent party holders sizes shares) in
          let some = lt-ltb 0 (length (holder ∷ holders)) (omega arith) in
          elim (cases_Bool (ltb share size)) [ inl t ↦ rw (k.0, t, some, k.0) | inr t ↦ rw (k.0, t, some, gone) ]
      | inr k ↦
          let on = ltb_suc (place holders party) (length holders) in
          elim (cases_Bool (ltb share size)) [ inl t ↦ rw (k.0, t, k.0, add-one, on) more | inr t ↦ rw (k.0, t, add-one, on) more ]
    ]

-- the same, at a place that was looked up
module _ (party at : ℕ) (holders sizes shares : List ℕ) (e : length sizes ≡ length holders) (f : length shares ≡ length sizes) (o : Single holders) (p : at ≡ place holders party) where
  pub unspent_there : at < length holders → get_or shares at 0 < get_or sizes at 0 → listed party (unspent holders sizes shares) ≡ true
  unspent_there l m = unspent_at party holders sizes shares e f o ∙ rw (← p, lt-ltb at (length holders) l, lt-ltb (get_or shares at 0) (get_or sizes at 0) m)

  pub unspent_gone : (length holders ≤ at) ⊎ (get_or sizes at 0 ≤ get_or shares at 0) → listed party (unspent holders sizes shares) ≡ false
  unspent_gone n =
      let none : (ltb at (length holders) && ltb (get_or shares at 0) (get_or sizes at 0)) ≡ false = grind (arith, nat_tests) in
      unspent_at party holders sizes shares e f o ∙ rw (← p, none)

  pub gives_there : at < length holders → set shares at (get_or shares at 0 + 1) ≡ with_leftovers (party ∷ []) holders shares
  gives_there l = rw p (gives_one party holders shares (f ∙ e) o (rw p at l))

-- what one party receives changes nothing for another
unspent_other : (x party : ℕ) (holders sizes shares : List ℕ) → eqb x party ≡ false →
    listed x (unspent holders sizes (with_leftovers (party ∷ []) holders shares)) ≡ listed x (unspent holders sizes shares)
unspent_other x party [] sizes shares n = refl
unspent_other x party (holder ∷ holders) [] shares n = refl
unspent_other x party (holder ∷ holders) (size ∷ sizes) [] n = refl
unspent_other x party (holder ∷ holders) (size ∷ sizes) (share ∷ shares) n =
    let more = unspent_other x party holders sizes shares n in grind (arith, nat_tests)

among_other : (party : ℕ) (xs holders sizes shares : List ℕ) → listed party xs ≡ false →
    among xs (unspent holders sizes (with_leftovers (party ∷ []) holders shares)) ≡ among xs (unspent holders sizes shares)
among_other party [] holders sizes shares n = refl
among_other party (x ∷ xs) holders sizes shares n =
    let other : eqb x party ≡ false = grind (arith, nat_tests) in
    let more = among_other party xs holders sizes shares (grind arith) in
    rw (unspent_other x party holders sizes shares other, more)

-- one receiver and then the others
receivers_cons : (party : ℕ) (xs holders shares : List ℕ) → listed party xs ≡ false →
    with_leftovers xs holders (with_leftovers (party ∷ []) holders shares) ≡ with_leftovers (party ∷ xs) holders shares
receivers_cons party xs [] shares n = refl
receivers_cons party xs (holder ∷ holders) [] n = refl
receivers_cons party xs (holder ∷ holders) (share ∷ shares) n =
    let more = receivers_cons party xs holders shares n in
    let here : share + cond (listed holder (party ∷ [])) 1 0 + cond (listed holder xs) 1 0 ≡ share + cond (listed holder (party ∷ xs)) 1 0 = grind (arith, nat_tests) in
    rw (here, more)

length_given : (xs holders shares : List ℕ) → length shares ≡ length holders → length (with_leftovers xs holders shares) ≡ length shares
length_given xs [] [] e = refl
length_given xs [] (share ∷ shares) e = absurd (omega arith)
length_given xs (holder ∷ holders) [] e = absurd (omega arith)
length_given xs (holder ∷ holders) (share ∷ shares) e = let more = length_given xs holders shares (omega arith) in omega arith

-- ---- one party after another ----

-- what is left, the turn, and the shares
pub record Handed : Type 0 where
  pub left : ℕ
  pub turn : ℕ
  pub shares : List ℕ

abbrev pub handed : (left turn : ℕ) (shares : List ℕ) → Handed
handed left turn shares = record { left = left; turn = turn; shares = shares }

-- the turn after some receivers, where `move` says how one moves it
abbrev pub moved : (move : ℕ → ℕ → ℕ) → ℕ → List ℕ → ℕ
moved move turn [] = turn
moved move turn (x ∷ xs) = moved move (move turn x) xs

-- each of the parties in turn receives one if it has size unspent, while leftovers last
abbrev pub hand_out : (move : ℕ → ℕ → ℕ) (holders sizes xs : List ℕ) (left turn : ℕ) (shares : List ℕ) → Handed
hand_out move holders sizes [] left turn shares = handed left turn shares
hand_out move holders sizes (x ∷ xs) left turn shares =
    cond (ltb 0 left && listed x (unspent holders sizes shares))
    (hand_out move holders sizes xs (left - 1) (move turn x) (with_leftovers (x ∷ []) holders shares))
    (hand_out move holders sizes xs left turn shares)

pub take_nil : (n : ℕ) → take {A = ℕ} n [] ≡ []
take_nil zero = refl
take_nil (suc n) = refl

-- it comes to one more each for the first of those with size unspent
module _ (move : ℕ → ℕ → ℕ) (holders sizes : List ℕ) where
  abbrev pub open_of : (xs shares : List ℕ) → List ℕ
  open_of xs shares = among xs (unspent holders sizes shares)

  pub hand_out_is : (xs : List ℕ) (left turn : ℕ) (shares : List ℕ) → Single xs → length shares ≡ length holders →
      hand_out move holders sizes xs left turn shares
      ≡ handed (left - length (open_of xs shares)) (moved move turn (take left (open_of xs shares))) (with_leftovers (take left (open_of xs shares)) holders shares)
  hand_out_is [] left turn shares o e = let all : left - 0 ≡ left = omega arith in rw (take_nil left, to_nobody holders shares e, all)
  hand_out_is (x ∷ xs) zero turn shares o e =
      let more = hand_out_is xs zero turn shares (single_rest x xs o) e in
      let none : 0 - length (open_of xs shares) ≡ 0 - length (open_of (x ∷ xs) shares) = omega arith in
      more ∙ ap (λ n. handed n turn (with_leftovers [] holders shares)) none
  hand_out_is (x ∷ xs) (suc left) turn shares o e =
      let some : ltb 0 (suc left) ≡ true = lt-ltb 0 (suc left) (omega arith) in
      let gone = single_first x xs o in
      let apart : listed x xs ≡ false = grind (arith, listed_tells x xs) in
      let apart_taken : (n : ℕ) → listed x (take n (open_of xs shares)) ≡ false =
      λ n. grind (arith, listed_tells x (take n (open_of xs shares)), count_take x n (open_of xs shares), count_among x xs (unspent holders sizes shares)) in
      elim (cases_Bool (listed x (unspent holders sizes shares))) [
        | inl t ↦
            let more = hand_out_is xs left (move turn x) (with_leftovers (x ∷ []) holders shares) (single_rest x xs o) (length_given (x ∷ []) holders shares e ∙ e) in
            let same = among_other x xs holders sizes shares apart in
            let last = receivers_cons x (take left (open_of xs shares)) holders shares (apart_taken left) in
            let one : suc left - 1 ≡ left = omega arith in
            let count_down : left - length (open_of xs shares) ≡ suc left - length (x ∷ open_of xs shares) = omega arith in
            rw (some, t, one) (rw same at more ∙ rw (last, count_down))
        | inr t ↦ rw (some, t) (hand_out_is xs (suc left) turn shares (single_rest x xs o) e)
      ]
