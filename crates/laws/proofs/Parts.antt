-- The list of parts over all prices, best first, and what it says of a ladder.
use Rattle.std.proofs.Common.{◌≡◌, ℕ, zero, suc, ◌+◌, ◌<◌, ◌≤◌, true, false, eqb, List, [], ◌∷◌, ◌++◌, sym, refl, ◌∙◌, inl, inr, arith}
use Rattle.std.specs.List.{AllByRecursion as All}
use Rattle.std.proofs.ByRecursion.{All-weaker}
use Rattle.std.proofs.lemmas.Bool.Decides.{nat_tests, eqb_tells}
use Rattle.std.proofs.lemmas.Bool.{cond_both, ne_eqb, or_from, both_ways, lt-ltb}
use Rattle.terms.specs.Numbers.{listed}
use Rattle.blocks.specs.declared.Fill.{Fill}
use Rattle.kept.specs.Ranked.{better}
use Rattle.kept.specs.Standing.{Interest}
use Rattle.model.specs.Customers.{upward, downward, best_first, Part, parts_at}
use Rattle.laws.proofs.Arriving.{gives, flat, flat_none, gives_none}
use Rattle.laws.proofs.Ladder.{Sorted, better_apart, better_trans}
use Rattle.laws.proofs.Lists.{all_listed}

-- equal parts everywhere give equal lists
pub parts_ext : (f g : ℕ → ℕ) (ps : List ℕ) → ((p : ℕ) → f p ≡ g p) → parts_at f ps ≡ parts_at g ps
parts_ext f g [] e = refl
parts_ext f g (p ∷ ps) e = rw (e p, parts_ext f g ps e) refl

-- no parts at all
pub parts_none : (ps : List ℕ) → parts_at (λ p. 0) ps ≡ []
parts_none [] = refl
parts_none (p ∷ ps) = parts_none ps

-- ---- parts as fills ----

-- each part in time order at its price
abbrev pub fills_by : List Part → List Interest → List Fill
fills_by [] t = []
fills_by (x ∷ xs) t = gives t x.price x.number ++ fills_by xs t

pub fills_by_flat : (part : ℕ → ℕ) (ps : List ℕ) (t : List Interest) → fills_by (parts_at part ps) t ≡ flat (λ p. gives t p (part p)) ps
fills_by_flat part [] t = refl
fills_by_flat part (p ∷ ps) t = let a = fills_by_flat part ps t in let b = gives_none t p in grind (arith, nat_tests)

-- ---- two sorted lists, where the first leaves out only what gives nothing ----

-- not listed among those that are not it
all_not_listed : (k : ℕ) (ps : List ℕ) → All (λ p. p ≡ k → ⊥) ps → listed k ps ≡ false
all_not_listed k [] a = refl
all_not_listed k (p ∷ ps) a = or_from (eqb k p) (listed k ps) (ne_eqb k p (λ w. a.0 (sym w))) (all_not_listed k ps a.1)

-- listed further on, if not here
listed_on : (y : ℕ) (xs ys : List ℕ) → All (λ x. x ≡ y → ⊥) xs → All (λ x. listed x (y ∷ ys) ≡ true) xs → All (λ x. listed x ys ≡ true) xs
listed_on y [] ys a b = tt
listed_on y (x ∷ xs) ys a b = (rw (ne_eqb x y a.0) at b.0, listed_on y xs ys a.1 b.1)

pub same_flat : (side : ℕ) (g : ℕ → List Fill) (ys xs : List ℕ) → Sorted side xs → Sorted side ys → All (λ x. listed x ys ≡ true) xs →
    All (λ y. listed y xs ≡ false → g y ≡ []) ys → flat g ys ≡ flat g xs
same_flat side g [] [] s r a b = refl
same_flat side g [] (x ∷ xs) s r a b = absurd (both_ways false refl a.0)
same_flat side g (y ∷ ys) [] s r a b =
    flat_none g (y ∷ ys) (All-weaker (λ z. false ≡ false → g z ≡ []) (λ z. g z ≡ []) (λ z h. h refl) (y ∷ ys) b)
same_flat side g (y ∷ ys) (x ∷ xs) s r a b =
    elim (eqb_tells x y) [
      | inl e ↦ rw (e.1, same_flat side g ys xs s.1 r.1 (listed_on y xs ys (apart xs e.1 s.0) a.1) (behind e.1 ys r.0 b.1)) refl
      | inr e ↦
          let here : listed x ys ≡ true = rw e.0 at a.0 in
          let ahead : better side y x ≡ true = all_listed (λ z. better side y z ≡ true) ys x r.0 here in
          let off : All (λ z. z ≡ y → ⊥) (x ∷ xs) =
          (e.1, All-weaker (λ z. better side x z ≡ true) (λ z. z ≡ y → ⊥) (λ z w. better_apart side y z (better_trans side y x z ahead w)) xs s.0) in
          rw (b.0 (all_not_listed y (x ∷ xs) off)) (same_flat side g ys (x ∷ xs) s r.1 (listed_on y (x ∷ xs) ys off a) b.1)
    ]
  where
    apart : (zs : List ℕ) → x ≡ y → All (λ z. better side x z ≡ true) zs → All (λ z. z ≡ y → ⊥) zs
    apart zs e h = All-weaker (λ z. better side x z ≡ true) (λ z. z ≡ y → ⊥) (λ z w v. better_apart side x z w (v ∙ sym e)) zs h

    behind : x ≡ y → (zs : List ℕ) → All (λ z. better side y z ≡ true) zs → All (λ z. listed z (x ∷ xs) ≡ false → g z ≡ []) zs →
        All (λ z. listed z xs ≡ false → g z ≡ []) zs
    behind e [] h k = tt
    behind e (z ∷ zs) h k =
        ((λ v. k.0 (or_from (eqb z x) (listed z xs) (ne_eqb z x (λ w. better_apart side y z h.0 (w ∙ e))) v)), behind e zs h.1 k.1)

-- ---- all prices ----

upward_above : (p k m : ℕ) → m < p → All (λ q. m < q) (upward p k)
unfolding upward
upward_above p zero m l = tt
upward_above p (suc k) m l = (l, upward_above (p + 1) k m (omega arith))

downward_below : (p m : ℕ) → p < m → All (λ q. q < m) (downward p)
unfolding downward
downward_below zero m l = tt
downward_below (suc p) m l = (l, downward_below p m (omega arith))

upward_sorted : (side p k : ℕ) → eqb side 1 ≡ false → Sorted side (upward p k)
unfolding upward
upward_sorted side p zero e = tt
upward_sorted side p (suc k) e = (
  All-weaker (λ q. p < q) (λ q. better side p q ≡ true) (λ q l. rw e (lt-ltb p q l)) (upward (p + 1) k) (upward_above (p + 1) k p (omega arith)),
  upward_sorted side (p + 1) k e,
)

downward_sorted : (side p : ℕ) → eqb side 1 ≡ true → Sorted side (downward p)
unfolding downward
downward_sorted side zero e = tt
downward_sorted side (suc p) e = (
  All-weaker (λ q. q < suc p) (λ q. better side (suc p) q ≡ true) (λ q l. rw e (lt-ltb q (suc p) l)) (downward p) (downward_below p (suc p) (omega arith)),
  downward_sorted side p e,
)

pub best_first_sorted : (side : ℕ) → Sorted side (best_first side)
best_first_sorted side =
    cond_both (eqb side 1) (downward 999999) (upward 1 999999) (Sorted side) (λ e. downward_sorted side 999999 e) (λ e. upward_sorted side 1 999999 e)

upward_lists : (q p k : ℕ) → p ≤ q → q < p + k → listed q (upward p k) ≡ true
unfolding upward
upward_lists q p zero a b = absurd (omega arith)
upward_lists q p (suc k) a b = let c = upward_lists q (p + 1) k in grind (arith, nat_tests)

downward_lists : (q p : ℕ) → 0 < q → q ≤ p → listed q (downward p) ≡ true
unfolding downward
downward_lists q zero a b = absurd (omega arith)
downward_lists q (suc p) a b = let c = downward_lists q p a in grind (arith, nat_tests)

pub best_first_lists : (side q : ℕ) → 0 < q → q ≤ 999999 → listed q (best_first side) ≡ true
best_first_lists side q a b =
    cond_both (eqb side 1) (downward 999999) (upward 1 999999) (λ ps. listed q ps ≡ true)
    (λ e. downward_lists q 999999 a b) (λ e. upward_lists q 1 999999 a (omega arith))
