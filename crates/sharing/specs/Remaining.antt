-- The draw rule is lawful: its leftovers find room, and all of them are given.
use Rattle.std.specs.Prelude.{◌≡◌, ℕ, suc, ◌+◌, ◌-◌, ◌<◌, ◌≤◌, true, ◌⊎◌, List, [], ◌∷◌, length, take, refl}
use Rattle.std.proofs.Common.{ap, ◌∙◌, inl, inr, arith}
use Rattle.std.proofs.lemmas.Bool.Decides.{leb_tells, nat_tests}
use Rattle.std.proofs.lemmas.List.{length-take, length-append, nil_from_length}
use Rattle.sharing.specs.Draw.{base_shares, unspent, among, outside, round, with_leftovers, queue, draw_shares, draw_next}
use Rattle.terms.specs.Numbers.{sum, listed}
use Rattle.sharing.specs.Rule.{Inputs, Valid, Fair, EachWithin}
use Rattle.sharing.specs.Counts.{count, Single, listed_tells, distinct_single, single_rest, single_first, count_append, count_take, count_round, count_among, count_outside, length_parts, among_swap, among_all, among_same}
use Rattle.sharing.specs.Entitled.{base_good}
use Rattle.sharing.specs.BySize.{whole, room, Base}

-- the holders with size unspent are as many as there is room, and each stands among the holders
length_unspent : (holders sizes shares : List ℕ) → length sizes ≡ length holders → EachWithin shares sizes →
    length (unspent holders sizes shares) ≡ room sizes shares
length_unspent [] [] [] e w = refl
length_unspent [] [] (share ∷ shares) e w = absurd w
length_unspent [] (size ∷ sizes) shares e w = absurd (omega arith)
length_unspent (holder ∷ holders) [] shares e w = absurd (omega arith)
length_unspent (holder ∷ holders) (size ∷ sizes) [] e w = absurd w
length_unspent (holder ∷ holders) (size ∷ sizes) (share ∷ shares) e w =
    let a = length_unspent holders sizes shares (omega arith) w.1 in grind arith

pub count_unspent : (x : ℕ) (holders sizes shares : List ℕ) → count x (unspent holders sizes shares) ≤ count x holders
count_unspent x [] sizes shares = omega arith
count_unspent x (holder ∷ holders) [] shares = omega arith
count_unspent x (holder ∷ holders) (size ∷ sizes) [] = omega arith
count_unspent x (holder ∷ holders) (size ∷ sizes) (share ∷ shares) =
    let a = count_unspent x holders sizes shares in grind arith

-- each receiver among the holders gets one more
leftovers_sum : (receivers holders shares : List ℕ) → length shares ≡ length holders →
    sum (with_leftovers receivers holders shares) ≡ sum shares + length (among holders receivers)
leftovers_sum receivers [] [] e = refl
leftovers_sum receivers [] (share ∷ shares) e = absurd (omega arith)
leftovers_sum receivers (holder ∷ holders) [] e = absurd (omega arith)
leftovers_sum receivers (holder ∷ holders) (share ∷ shares) e =
    let a = leftovers_sum receivers holders shares (omega arith) in grind arith

-- a receiver's share was below its size
leftovers_within : (receivers holders sizes shares : List ℕ) → length sizes ≡ length holders → EachWithin shares sizes → Single holders →
    ((x : ℕ) → listed x receivers ≡ true → 0 < count x holders → 0 < count x (unspent holders sizes shares)) →
    EachWithin (with_leftovers receivers holders shares) sizes
leftovers_within receivers [] [] [] e w o k = tt
leftovers_within receivers [] [] (share ∷ shares) e w o k = absurd w
leftovers_within receivers [] (size ∷ sizes) shares e w o k = absurd (omega arith)
leftovers_within receivers (holder ∷ holders) [] shares e w o k = absurd (omega arith)
leftovers_within receivers (holder ∷ holders) (size ∷ sizes) [] e w o k = absurd w
leftovers_within receivers (holder ∷ holders) (size ∷ sizes) (share ∷ shares) e w o k =
    let none = single_first holder holders o in
    let few = count_unspent holder holders sizes shares in (
      grind (arith, nat_tests, k holder),
      leftovers_within receivers holders sizes shares (omega arith) w.1 (single_rest holder holders o)
          (λ x r p. let there = k x r (omega arith) in grind (arith, nat_tests)),
    )

-- the queue has each of the open ones, once
module _ (roster open_to : List ℕ) (turn : ℕ) (r : Single roster) (o : Single open_to) where
  queue_count : (x : ℕ) → count x (queue roster turn open_to) ≡ count x open_to
  queue_count x =
      let a = count_append x (among (round turn roster) open_to) (outside open_to roster) in
      let b = count_among x (round turn roster) open_to in
      let c = count_outside x open_to roster in
      grind (arith, count_round x turn roster, listed_tells x open_to, listed_tells x roster, r x, o x)

  queue_length : length (queue roster turn open_to) ≡ length open_to
  queue_length =
      let a = length-append (among (round turn roster) open_to) (outside open_to roster) in
      let b = among_swap (round turn roster) open_to (λ x. omega (arith, count_round x turn roster, r x)) o in
      let c = ap length (among_same open_to (round turn roster) roster (λ x. count_round x turn roster)) in
      omega (arith, length_parts open_to roster)

  -- so many of them
  taken_count : (x n : ℕ) → count x (take n (queue roster turn open_to)) ≤ count x open_to
  taken_count x n = omega (arith, count_take x n (queue roster turn open_to), queue_count x)

  taken_length : (n : ℕ) → n ≤ length open_to → length (take n (queue roster turn open_to)) ≡ n
  taken_length n h = omega (arith, length-take n (queue roster turn open_to), queue_length)

pub same_length : (shares sizes : List ℕ) → EachWithin shares sizes → length shares ≡ length sizes
same_length [] [] w = refl
same_length [] (size ∷ sizes) w = absurd w
same_length (share ∷ shares) [] w = absurd w
same_length (share ∷ shares) (size ∷ sizes) w = ap suc (same_length shares sizes w.1)

-- shares and leftovers, over any good shares
leftovers_fair : (roster : List ℕ) (turn n : ℕ) (holders sizes shares : List ℕ) → Single roster → Single holders → length sizes ≡ length holders →
    n < sum sizes → Base n sizes shares →
    Fair n sizes (with_leftovers (take (n - sum shares) (queue roster turn (unspent holders sizes shares))) holders shares)
leftovers_fair roster turn n holders sizes shares r o e l b =
    let open_to : List ℕ = unspent holders sizes shares in
    let few : (x : ℕ) → count x open_to ≤ count x holders = λ x. count_unspent x holders sizes shares in
    let u : Single open_to = λ x. omega (arith, few x, o x) in
    let left : ℕ = n - sum shares in
    let takers : List ℕ = take left (queue roster turn open_to) in
    let among_open : (x : ℕ) → count x takers ≤ count x open_to = λ x. taken_count roster open_to turn r u x left in
    let k = length_unspent holders sizes shares e b.inside in
    let m = taken_length roster open_to turn r u left (omega arith) in
    let once : Single takers = λ x. omega (arith, among_open x, u x) in
    let s = among_swap holders takers o once in
    let all : among takers holders ≡ takers =
    among_all takers holders (λ x p. grind (arith, listed_tells x holders, among_open x, few x)) in
    let q = ap length all in
    let a = leftovers_sum takers holders shares (same_length shares sizes b.inside ∙ e) in
    record {
      inside = leftovers_within takers holders sizes shares e b.inside o (λ x y p. grind (arith, listed_tells x takers, among_open x));
      adds_up = omega arith;
    }

pub draw_fair : (roster : List ℕ) (specialist turn : ℕ) (i : Inputs) → Single roster → Valid i →
    Fair i.number i.sizes (draw_shares roster specialist turn i)
draw_fair roster specialist turn i r v =
    elim (leb_tells (sum i.sizes) i.number) [
      | inl e ↦ rw e.0 (record { inside = whole i.sizes; adds_up = omega arith })
      | inr e ↦ rw e.0
          (leftovers_fair roster turn i.number i.holders i.sizes (base_shares specialist i) r (distinct_single i.holders v.once)
          v.paired e.1 (base_good specialist i v e.1))
    ]

pub draw_still : (roster : List ℕ) (specialist turn : ℕ) (i : Inputs) → Valid i → (i.number ≡ 0) ⊎ (i.holders ≡ []) →
    draw_next roster specialist turn i ≡ turn
draw_still roster specialist turn i v k =
    elim (leb_tells (sum i.sizes) i.number) [
      | inl e ↦ rw e.0
      | inr e ↦ elim k [
        | inl z ↦ let none : i.number - sum (base_shares specialist i) ≡ 0 = omega arith in rw (e.0, none)
        | inr z ↦
            let none = ap sum (nil_from_length i.sizes (v.paired ∙ ap length z)) in absurd (omega arith)
      ]
    ]
