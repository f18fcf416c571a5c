-- The two rounds of leftovers together: one queue, the roster's by turn and then the others.
use Rattle.std.proofs.Common.{◌≡◌, ℕ, zero, suc, ◌+◌, ◌-◌, Bool, true, false, cond, ltb, leb, ◌⊎◌, List, [], ◌∷◌, ◌++◌, length, take, sym, refl, ap, ◌∙◌, inl, inr, arith}
use Rattle.std.proofs.lemmas.Bool.{cases_Bool}
use Rattle.terms.specs.Numbers.{sum, listed}
use Rattle.sharing.specs.Draw.{unspent, outside, round, takers, queue, with_leftovers, base_shares, draw_shares}
use Rattle.sharing.specs.Rule.{Inputs}
use Rattle.sharing.specs.Counts.{count, listed_tells, count_append, count_take, count_among, count_outside, count_round}
use Rattle.sharing.proofs.Handing.{take_nil}

-- so many of two rows, one behind the other
take_both : (n : ℕ) (xs ys : List ℕ) → take n (xs ++ ys) ≡ take n xs ++ take (n - length xs) ys
take_both n [] ys = let all : n - 0 ≡ n = omega arith in rw (take_nil n, all)
take_both zero (x ∷ xs) ys = let none : 0 - suc (length xs) ≡ 0 = omega arith in rw none
take_both (suc n) (x ∷ xs) ys = let one : suc n - suc (length xs) ≡ n - length xs = omega arith in rw one (ap (λ zs. x ∷ zs) (take_both n xs ys))

-- receivers one after another, nobody twice
receivers_both : (xs ys holders shares : List ℕ) → ((x : ℕ) → (count x xs ≡ 0) ⊎ (count x ys ≡ 0)) →
    with_leftovers ys holders (with_leftovers xs holders shares) ≡ with_leftovers (xs ++ ys) holders shares
receivers_both xs ys [] shares k = refl
receivers_both xs ys (holder ∷ holders) [] k = refl
receivers_both xs ys (holder ∷ holders) (share ∷ shares) k =
    let more = receivers_both xs ys holders shares k in
    let here : share + cond (listed holder xs) 1 0 + cond (listed holder ys) 1 0 ≡ share + cond (listed holder (xs ++ ys)) 1 0 =
    grind (arith, listed_tells holder xs, listed_tells holder ys, listed_tells holder (xs ++ ys), count_append holder xs ys, k holder) in
    rw (here, more)

-- one of the roster is not outside it, with size unspent or not
outside_drawn : (roster : List ℕ) (x : ℕ) (xs : List ℕ) (test : Bool) → listed x roster ≡ true → outside (cond test (x ∷ xs) xs) roster ≡ outside xs roster
outside_drawn roster x xs true r = rw r
outside_drawn roster x xs false r = refl

-- what the roster receives changes nothing outside it
outside_same : (xs roster holders sizes shares : List ℕ) → ((x : ℕ) → listed x roster ≡ false → listed x xs ≡ false) →
    outside (unspent holders sizes (with_leftovers xs holders shares)) roster ≡ outside (unspent holders sizes shares) roster
outside_same xs roster [] sizes shares k = refl
outside_same xs roster (holder ∷ holders) [] shares k = refl
outside_same xs roster (holder ∷ holders) (size ∷ sizes) [] k = refl
outside_same xs roster (holder ∷ holders) (size ∷ sizes) (share ∷ shares) k =
    let more = outside_same xs roster holders sizes shares k in
    elim (cases_Bool (listed holder roster)) [
      | inl r ↦ outside_drawn roster holder _ _ r ∙ more ∙ sym (outside_drawn roster holder _ _ r)
      | inr r ↦
          let same : share + 0 ≡ share = omega arith in
          elim (cases_Bool (ltb share size)) [
            | inl t ↦ rw (k holder r, same, t, r) (ap (λ zs. holder ∷ zs) more)
            | inr t ↦ rw (k holder r, same, t) more
          ]
    ]

-- both rounds come to the queue's
module _ (roster : List ℕ) (turn : ℕ) (holders sizes base : List ℕ) where
  by_turn_drawn : (n x : ℕ) → listed x roster ≡ false → listed x (take n (takers roster turn holders sizes base)) ≡ false
  by_turn_drawn n x r =
      grind (
        arith,
        listed_tells x roster,
        listed_tells x (take n (takers roster turn holders sizes base)),
        count_take x n (takers roster turn holders sizes base),
        count_among x (round turn roster) (unspent holders sizes base),
        count_round x turn roster,
      )

  apart : (n m x : ℕ) →
      (count x (take n (takers roster turn holders sizes base)) ≡ 0) ⊎ (count x (take m (outside (unspent holders sizes base) roster)) ≡ 0)
  apart n m x =
      grind (
        arith,
        listed_tells x roster,
        count_take x n (takers roster turn holders sizes base),
        count_among x (round turn roster) (unspent holders sizes base),
        count_round x turn roster,
        count_take x m (outside (unspent holders sizes base) roster),
        count_outside x (unspent holders sizes base) roster,
      )

  pub both_rounds : (number left : ℕ) (first both : List ℕ) → left ≡ number - length (takers roster turn holders sizes base) →
      first ≡ with_leftovers (take number (takers roster turn holders sizes base)) holders base →
      both ≡ with_leftovers (take left (outside (unspent holders sizes first) roster)) holders first →
      both ≡ with_leftovers (take number (queue roster turn (unspent holders sizes base))) holders base
  both_rounds number left first both l f b =
      let xs : List ℕ = take number (takers roster turn holders sizes base) in
      let ys : List ℕ = take left (outside (unspent holders sizes base) roster) in
      let same = outside_same xs roster holders sizes base (by_turn_drawn number) in
      let one : both ≡ with_leftovers ys holders (with_leftovers xs holders base) = rw (f, same) at b in
      one ∙ receivers_both xs ys holders base (apart number left)
      ∙ ap (λ zs. with_leftovers zs holders base) (ap (λ m. xs ++ take m (outside (unspent holders sizes base) roster)) l ∙ sym (take_both number (takers roster turn holders sizes base) (outside (unspent holders sizes base) roster)))

-- and so to the rule's shares
pub drawn_shares : (roster : List ℕ) (specialist turn : ℕ) (i : Inputs) (base : List ℕ) (number left : ℕ) (first both : List ℕ) →
    leb (sum i.sizes) i.number ≡ false → base ≡ base_shares specialist i → number ≡ i.number - sum base →
    left ≡ number - length (takers roster turn i.holders i.sizes base) →
    first ≡ with_leftovers (take number (takers roster turn i.holders i.sizes base)) i.holders base →
    both ≡ with_leftovers (take left (outside (unspent i.holders i.sizes first) roster)) i.holders first →
    both ≡ draw_shares roster specialist turn i
drawn_shares roster specialist turn i base number left first both e s n l f b =
    rw (e, ← s, ← n) (both_rounds roster turn i.holders i.sizes base number left first both l f b)
