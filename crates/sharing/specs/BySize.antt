-- Pro rata is lawful: what plain shares come to, and that the leftovers find room.
use Rattle.std.specs.Prelude.{◌≡◌, ℕ, ◌+◌, ◌-◌, ◌*◌, ◌/◌, ◌<◌, ◌≤◌, min, true, cond, ◌⊎◌, List, [], ◌∷◌, ◌++◌, length, take, drop, set, nat_le, nat_lt, slice_index, slice_index_or, slice_set}
use Rattle.std.proofs.Common.{sym, ap, ◌∙◌, inl, inr, arith, mul-le-mul_left, div-mul-le_self, le_of_mul-le-mul_right}
use Rattle.std.proofs.Math.Nat.{div-le_of_le-mul, lt-div-mul-add, mul-lt-mul_of_pos_left}
use Rattle.std.proofs.lemmas.Nat.{div_below}
use Rattle.std.proofs.lemmas.List.{at_drop_more, append_assoc, drop-set-lt, take_more}
use Rattle.std.proofs.lemmas.Bool.{and_parts, leb-true, lt-ltb}
use Rattle.std.proofs.lemmas.Bool.Decides.{leb_tells, nat_tests}
use Rattle.terms.specs.Numbers.{sum, within, all_within}
use Rattle.sharing.specs.ProRata.{plain, one_each, pro_rata}
use Rattle.sharing.specs.Rule.{Fair, EachWithin}
use Rattle.sharing.specs.Writing.{wrote}

-- ---- the loops ----

-- a part of a number is no more than the size that has it
pub part_le : (size n total : ℕ) → n ≤ total → 0 < total → size * n / total ≤ size
part_le size n total l p = div-le_of_le-mul total (omega (arith, mul-le-mul_left size l))

-- one more plain share is written
pub plain_more : (n total : ℕ) (sizes out : List ℕ) (i share : ℕ) → i < length sizes → i < length out → share ≡ slice_index sizes i * n / total →
    take (i + 1) (slice_set out i share) ++ plain n total (drop (i + 1) sizes) ≡ take i out ++ plain n total (drop i sizes)
plain_more n total sizes out i share l m e =
    wrote out i share (plain n total (drop (i + 1) sizes)) m
    ∙ ap (λ z. take i out ++ (z ∷ plain n total (drop (i + 1) sizes))) e
    ∙ ap (λ l. take i out ++ l) (sym (at_drop_more (plain n total) sizes i 0 l))

-- one entry of a round of leftovers
ones_here : (left : ℕ) (sizes shares : List ℕ) (i : ℕ) → i < length sizes → i < length shares →
    let more : ℕ = cond (nat_lt (slice_index shares i) (slice_index sizes i)) (min left 1) 0 in
    one_each left (drop i sizes) (drop i shares) ≡ (slice_index shares i + more) ∷ one_each (left - more) (drop (i + 1) sizes) (drop (i + 1) shares)
ones_here left sizes shares i l m =
    at_drop_more (λ zs. one_each left zs (drop i shares)) sizes i 0 l
    ∙ at_drop_more (λ ss. one_each left (slice_index sizes i ∷ drop (i + 1) sizes) ss) shares i 0 m

-- it takes one more
pub gave_one : (left : ℕ) (sizes shares : List ℕ) (i : ℕ) → i < length sizes → i < length shares → 0 < left → slice_index shares i < slice_index sizes i →
    let after : List ℕ = set shares i (slice_index shares i + 1) in
    take (i + 1) after ++ one_each (left - 1) (drop (i + 1) sizes) (drop (i + 1) after) ≡ take i shares ++ one_each left (drop i sizes) (drop i shares)
gave_one left sizes shares i l m p q =
    let here = ones_here left sizes shares i l m in
    let more : cond (nat_lt (slice_index shares i) (slice_index sizes i)) (min left 1) 0 ≡ 1 = grind (arith, nat_tests) in
    let rest : drop (i + 1) (slice_set shares i (slice_index shares i + 1)) ≡ drop (i + 1) shares = drop-set-lt (i + 1) shares i _ (omega arith) in
    wrote shares i (slice_index shares i + 1) _ m
    ∙ ap (λ ss. take i shares ++ ((slice_index shares i + 1) ∷ one_each (left - 1) (drop (i + 1) sizes) ss)) rest
    ∙ ap (λ l. take i shares ++ l) (sym (rw more at here))

-- it takes none
pub gave_none : (left : ℕ) (sizes shares : List ℕ) (i : ℕ) → i < length sizes → i < length shares → (left ≡ 0) ⊎ (slice_index sizes i ≤ slice_index shares i) →
    take (i + 1) shares ++ one_each left (drop (i + 1) sizes) (drop (i + 1) shares) ≡ take i shares ++ one_each left (drop i sizes) (drop i shares)
gave_none left sizes shares i l m n =
    let here = ones_here left sizes shares i l m in
    let more : cond (nat_lt (slice_index shares i) (slice_index sizes i)) (min left 1) 0 ≡ 0 = grind (arith, nat_tests) in
    let front = take_more shares i 0 m in
    let none : slice_index_or shares i 0 + 0 ≡ slice_index_or shares i 0 = omega arith in
    let all : left - 0 ≡ left = omega arith in
    ap (λ l. l ++ one_each left (drop (i + 1) sizes) (drop (i + 1) shares)) front
    ∙ append_assoc (take i shares) (slice_index shares i ∷ []) _
    ∙ ap (λ l. take i shares ++ l) (sym (rw (more, none, all) at here))

-- ---- the rule ----

-- every entry takes its size
pub whole : (sizes : List ℕ) → EachWithin sizes sizes
whole [] = tt
whole (size ∷ sizes) = (omega arith, whole sizes)

-- how many entries have size unspent
abbrev pub room : (sizes shares : List ℕ) → ℕ
room [] shares = 0
room (size ∷ sizes) [] = 0
room (size ∷ sizes) (share ∷ shares) = cond (nat_lt share size) 1 0 + room sizes shares

-- what one_each gives
ones_within : (left : ℕ) (sizes shares : List ℕ) → EachWithin shares sizes → EachWithin (one_each left sizes shares) sizes
ones_within left [] [] w = tt
ones_within left [] (share ∷ shares) w = absurd w
ones_within left (size ∷ sizes) [] w = absurd w
ones_within left (size ∷ sizes) (share ∷ shares) w =
    let more : ℕ = cond (nat_lt share size) (min left 1) 0 in
    (grind (arith, nat_tests), ones_within (left - more) sizes shares w.1)

ones_sum : (left : ℕ) (sizes shares : List ℕ) → EachWithin shares sizes → sum (one_each left sizes shares) ≡ sum shares + min left (room sizes shares)
ones_sum left [] [] w = omega arith
ones_sum left [] (share ∷ shares) w = absurd w
ones_sum left (size ∷ sizes) [] w = absurd w
ones_sum left (size ∷ sizes) (share ∷ shares) w =
    let a = ones_sum (left - cond (nat_lt share size) (min left 1) 0) sizes shares w.1 in grind arith

-- shares before leftovers: a stands for a size that does not count, b for what its entry takes
pub record Floors (n total a b : ℕ) (sizes shares : List ℕ) : Type 0 where
  pub inside : EachWithin shares sizes
  pub low : sum shares * total + a ≤ sum sizes * n + b
  pub high : sum sizes * n + b ≤ (sum shares + room sizes shares) * total + a

pub floor_more : (n total a b size : ℕ) (sizes shares : List ℕ) → n < total → 0 < size → Floors n total a b sizes shares →
    Floors n total a b (size ∷ sizes) (size * n / total ∷ shares)
floor_more n total a b size sizes shares l p f =
    let q : ℕ = size * n / total in
    let below : q < size = div_below (size * n) total size (omega arith) (mul-lt-mul_of_pos_left l p) in
    let down = div-mul-le_self (size * n) total in
    let up : size * n < q * total + total = lt-div-mul-add (omega arith) in
    record { inside = (omega arith, f.inside); low = omega arith; high = rw (lt-ltb q size below) (omega arith) }

pub floors : (n total : ℕ) (sizes : List ℕ) → n < total → all_within 99999 sizes ≡ true → Floors n total 0 0 sizes (plain n total sizes)
floors n total [] l v = record { inside = tt; low = omega arith; high = omega arith }
floors n total (size ∷ sizes) l v =
    let w = and_parts (within 99999 size) (all_within 99999 sizes) v in
    let p = leb-true 1 size (and_parts (nat_le 1 size) (nat_le size 99999) w.0).0 in
    floor_more n total 0 0 size sizes (plain n total sizes) l p (floors n total sizes l w.1)

-- shares that leftovers can be handed out to
pub record Base (n : ℕ) (sizes shares : List ℕ) : Type 0 where
  pub inside : EachWithin shares sizes
  pub low : sum shares ≤ n
  pub high : n ≤ sum shares + room sizes shares

pub plain_base : (n : ℕ) (sizes : List ℕ) → n < sum sizes → all_within 99999 sizes ≡ true → Base n sizes (plain n (sum sizes) sizes)
plain_base n sizes l v =
    let total : ℕ = sum sizes in
    let f = floors n total sizes l v in
    let shares : List ℕ = plain n total sizes in
    let down : sum shares * total ≤ n * total = omega arith in
    let up : n * total ≤ (sum shares + room sizes shares) * total = omega arith in
    record { inside = f.inside; low = le_of_mul-le-mul_right down (omega arith); high = le_of_mul-le-mul_right up (omega arith) }

-- plain shares are no more than the number
pub plain_low : (n total : ℕ) (sizes shares : List ℕ) → shares ≡ plain n total sizes → total ≡ sum sizes → n < total → all_within 99999 sizes ≡ true → sum shares ≤ n
plain_low n total sizes shares e f l v =
    rw (e, f) (plain_base n sizes (rw f at l) v).low

-- pro rata is fair
pub pro_rata_fair : (n : ℕ) (sizes : List ℕ) → all_within 99999 sizes ≡ true → Fair n sizes (pro_rata n sizes)
pro_rata_fair n sizes v =
    elim (leb_tells (sum sizes) n) [
      | inl e ↦ rw e.0 (record { inside = whole sizes; adds_up = omega arith })
      | inr e ↦
          let base : List ℕ = plain n (sum sizes) sizes in
          let b = plain_base n sizes e.1 v in
          rw e.0 (record {
            inside = ones_within (n - sum base) sizes base b.inside;
            adds_up = ones_sum (n - sum base) sizes base b.inside ∙ omega arith;
          })
    ]
