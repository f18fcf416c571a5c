-- The ladder of prices: the best first, each once, and those of the records.
use Rattle.std.proofs.Common.{◌≡◌, ℕ, Bool, true, false, ◌||◌, eqb, ◌⊎◌, List, [], ◌∷◌, sym, refl, ◌∙◌, subst, inl, inr, arith}
use Rattle.std.proofs.lemmas.Bool.{or_cases, or_left, or_right, cases_Bool, both_ways, eq-eqb, eqb-true, eqb-false}
use Rattle.std.proofs.lemmas.Bool.Decides.{nat_tests}
use Rattle.terms.specs.Numbers.{listed}
use Rattle.kept.specs.Ranked.{better}
use Rattle.kept.specs.Standing.{Interest}
use Rattle.model.specs.Prices.{rung, ladder}

-- ---- better ----

better_trans : (side p q r : ℕ) → better side p q ≡ true → better side q r ≡ true → better side p r ≡ true
better_trans side p q r a b = grind (arith, nat_tests)

pub self_not : (side p : ℕ) → better side p p ≡ false
self_not side p = grind (arith, nat_tests)

pub better_self : (side p : ℕ) → better side p p ≡ true → ⊥
better_self side p a = both_ways (better side p p) (self_not side p) a

pub better_not : (side p q : ℕ) → better side p q ≡ true → better side q p ≡ false
better_not side p q a = grind (arith, nat_tests)

pub better_else : (side p q : ℕ) → (p ≡ q → ⊥) → better side p q ≡ false → better side q p ≡ true
better_else side p q n a = grind (arith, nat_tests)

pub not_better_trans : (side q a p : ℕ) → better side q a ≡ false → better side a p ≡ false → better side q p ≡ false
not_better_trans side q a p x y = grind (arith, nat_tests)

-- ---- falling prices ----

-- each is better than all behind it
abbrev pub Falling : (side : ℕ) → List ℕ → Type 0
Falling side [] = Unit {0}
Falling side (p ∷ ps) = ((q : ℕ) → listed q ps ≡ true → better side p q ≡ true) × Falling side ps

listed_rung : (side p : ℕ) (qs : List ℕ) (x : ℕ) → listed x (rung side p qs) ≡ true → (x ≡ p) ⊎ (listed x qs ≡ true)
listed_rung side p [] x e = elim (or_cases (eqb x p) false e) [ inl w ↦ inl (eqb-true x p w) | inr w ↦ inr w ]
listed_rung side p (q ∷ qs) x e =
    elim (cases_Bool (eqb p q)) [
      | inl a ↦ inr (rw a at e)
      | inr a ↦
          elim (cases_Bool (better side p q)) [
            | inl b ↦ elim (or_cases (eqb x p) (listed x (q ∷ qs)) (rw (a, b) at e)) [ inl w ↦ inl (eqb-true x p w) | inr w ↦ inr w ]
            | inr b ↦
                elim (or_cases (eqb x q) (listed x (rung side p qs)) (rw (a, b) at e)) [
                  | inl w ↦ inr (or_left (eqb x q) (listed x qs) w)
                  | inr w ↦ elim (listed_rung side p qs x w) [ inl v ↦ inl v | inr v ↦ inr (or_right (eqb x q) (listed x qs) v) ]
                ]
          ]
    ]

falling_rung : (side p : ℕ) (qs : List ℕ) → Falling side qs → Falling side (rung side p qs)
falling_rung side p [] f = (λ q e. absurd (both_ways false refl e), tt)
falling_rung side p (q ∷ qs) f =
    elim (cases_Bool (eqb p q)) [
      | inl a ↦ rw a f
      | inr a ↦
          elim (cases_Bool (better side p q)) [
            | inl b ↦ rw (a, b) (
              (λ x e. elim (or_cases (eqb x q) (listed x qs) e) [ inl w ↦ rw (eqb-true x q w) b | inr w ↦ better_trans side p q x b (f.0 x w) ]),
              f,
            )
            | inr b ↦ rw (a, b) (
              (λ x e. elim (listed_rung side p qs x e) [ inl w ↦ rw w (better_else side p q (eqb-false p q a) b) | inr w ↦ f.0 x w ]),
              falling_rung side p qs f.1,
            )
          ]
    ]

pub falling_ladder : (side : ℕ) (t : List Interest) → Falling side (ladder side t)
falling_ladder side [] = tt
falling_ladder side (r ∷ rs) = falling_rung side r.price (ladder side rs) (falling_ladder side rs)

-- ---- two falling rows with the same prices ----

head_same : (side x y : ℕ) (a b : List ℕ) → Falling side (x ∷ a) → Falling side (y ∷ b) → listed x (y ∷ b) ≡ true → listed y (x ∷ a) ≡ true → x ≡ y
head_same side x y a b f g u v =
    elim (or_cases (eqb x y) (listed x b) u) [
      | inl e ↦ eqb-true x y e
      | inr e ↦
          elim (or_cases (eqb y x) (listed y a) v) [
            | inl d ↦ sym (eqb-true y x d)
            | inr d ↦ absurd (better_self side x (better_trans side x y x (f.0 y d) (g.0 x e)))
          ]
    ]

tail_listed : (side x y : ℕ) (a b : List ℕ) → Falling side (x ∷ a) → x ≡ y → ((z : ℕ) → listed z (x ∷ a) ≡ true → listed z (y ∷ b) ≡ true) →
    (z : ℕ) → listed z a ≡ true → listed z b ≡ true
tail_listed side x y a b f e u z l =
    elim (or_cases (eqb z y) (listed z b) (u z (or_right (eqb z x) (listed z a) l))) [
      | inl d ↦ absurd (better_self side x (subst (λ m. better side x m ≡ true) (eqb-true z y d ∙ sym e) (f.0 z l)))
      | inr d ↦ d
    ]

pub falling_same : (side : ℕ) (a b : List ℕ) → Falling side a → Falling side b →
    ((z : ℕ) → listed z a ≡ true → listed z b ≡ true) → ((z : ℕ) → listed z b ≡ true → listed z a ≡ true) → a ≡ b
falling_same side [] [] f g u v = refl
falling_same side [] (y ∷ b) f g u v = absurd (both_ways false refl (v y (or_left (eqb y y) (listed y b) (eq-eqb y y refl))))
falling_same side (x ∷ a) [] f g u v = absurd (both_ways false refl (u x (or_left (eqb x x) (listed x a) (eq-eqb x x refl))))
falling_same side (x ∷ a) (y ∷ b) f g u v =
    let e = head_same side x y a b f g (u x (or_left (eqb x x) (listed x a) (eq-eqb x x refl))) (v y (or_left (eqb y y) (listed y b) (eq-eqb y y refl))) in
    let t = falling_same side a b f.1 g.1 (tail_listed side x y a b f e u) (tail_listed side y x b a g (sym e) v) in
    cc

-- ---- the prices of records ----

-- some record is at the price
abbrev pub priced : (price : ℕ) → List Interest → Bool
priced p [] = false
priced p (r ∷ rs) = eqb p r.price || priced p rs

rung_self : (side p : ℕ) (qs : List ℕ) → listed p (rung side p qs) ≡ true
rung_self side p [] = or_left (eqb p p) false (eq-eqb p p refl)
rung_self side p (q ∷ qs) = let a = rung_self side p qs in grind (arith, nat_tests)

rung_keeps : (side p : ℕ) (qs : List ℕ) (x : ℕ) → listed x qs ≡ true → listed x (rung side p qs) ≡ true
rung_keeps side p [] x e = absurd (both_ways false refl e)
rung_keeps side p (q ∷ qs) x e = let a = rung_keeps side p qs x in grind (arith, nat_tests)

pub ladder_to : (side : ℕ) (t : List Interest) (x : ℕ) → listed x (ladder side t) ≡ true → priced x t ≡ true
ladder_to side [] x e = e
ladder_to side (r ∷ rs) x e =
    elim (listed_rung side r.price (ladder side rs) x e) [
      | inl w ↦ or_left (eqb x r.price) (priced x rs) (eq-eqb x r.price w)
      | inr w ↦ or_right (eqb x r.price) (priced x rs) (ladder_to side rs x w)
    ]

pub to_ladder : (side : ℕ) (t : List Interest) (x : ℕ) → priced x t ≡ true → listed x (ladder side t) ≡ true
to_ladder side [] x e = e
to_ladder side (r ∷ rs) x e =
    elim (or_cases (eqb x r.price) (priced x rs) e) [
      | inl w ↦ subst (λ z. listed z (rung side r.price (ladder side rs)) ≡ true) (sym (eqb-true x r.price w)) (rung_self side r.price (ladder side rs))
      | inr w ↦ rung_keeps side r.price (ladder side rs) x (to_ladder side rs x w)
    ]
