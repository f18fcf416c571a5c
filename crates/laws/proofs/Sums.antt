-- Sums over all holders and over a list of prices.
use Rattle.std.proofs.Common.{◌≡◌, ℕ, zero, suc, ◌+◌, ◌<◌, ◌≤◌, false, cond, eqb, List, [], ◌∷◌, sym, refl, inl, inr, arith}
use Rattle.std.specs.List.{AllByRecursion as All}
use Rattle.std.proofs.lemmas.Bool.Decides.{eqb_tells}
use Rattle.std.proofs.lemmas.Bool.{ne_eqb, eq-eqb, eqb-false, or_parts}
use Rattle.terms.specs.Numbers.{listed}
use Rattle.model.specs.Standing.{sum_to}
use Rattle.laws.proofs.Lists.{Once}

-- ---- over the numbers 1 to n ----

pub sum_ext : (n : ℕ) (f g : ℕ → ℕ) → ((h : ℕ) → 0 < h → h ≤ n → f h ≡ g h) → sum_to n f ≡ sum_to n g
unfolding sum_to
sum_ext zero f g e = refl
sum_ext (suc n) f g e =
    let a : sum_to n f ≡ sum_to n g = sum_ext n f g (λ h p q. e h p (omega arith)) in
    let b : f (suc n) ≡ g (suc n) = e (suc n) (omega arith) (omega arith) in
    rw (a, b)

pub sum_add : (n : ℕ) (f g : ℕ → ℕ) → sum_to n (λ h. f h + g h) ≡ sum_to n f + sum_to n g
unfolding sum_to
sum_add zero f g = refl
sum_add (suc n) f g = let a = sum_add n f g in omega arith

pub sum_none : (n : ℕ) (f : ℕ → ℕ) → ((h : ℕ) → 0 < h → h ≤ n → f h ≡ 0) → sum_to n f ≡ 0
unfolding sum_to
sum_none zero f e = refl
sum_none (suc n) f e =
    let a : sum_to n f ≡ 0 = sum_none n f (λ h p q. e h p (omega arith)) in
    let b : f (suc n) ≡ 0 = e (suc n) (omega arith) (omega arith) in omega arith

pub sum_one : (n k x : ℕ) → 0 < k → k ≤ n → sum_to n (λ h. cond (eqb h k) x 0) ≡ x
unfolding sum_to
sum_one zero k x p q = omega arith
sum_one (suc n) k x p q =
    elim (eqb_tells (suc n) k) [
      | inl e ↦
          let z : sum_to n (λ h. cond (eqb h k) x 0) ≡ 0 =
          sum_none n (λ h. cond (eqb h k) x 0) (λ h p q. rw (ne_eqb h k (λ w. omega arith)) refl) in
          rw (e.0, z) (omega arith)
      | inr e ↦ rw e.0 (let a = sum_one n k x p (omega arith) in omega arith)
    ]

-- ---- over a list of numbers ----

abbrev pub over : (ℕ → ℕ) → List ℕ → ℕ
over g [] = 0
over g (p ∷ ps) = g p + over g ps

pub over_ext : (f g : ℕ → ℕ) (ps : List ℕ) → All (λ p. f p ≡ g p) ps → over f ps ≡ over g ps
over_ext f g [] e = refl
over_ext f g (p ∷ ps) e = rw (e.0, over_ext f g ps e.1) refl

pub over_add : (f g : ℕ → ℕ) (ps : List ℕ) → over (λ p. f p + g p) ps ≡ over f ps + over g ps
over_add f g [] = refl
over_add f g (p ∷ ps) = let a = over_add f g ps in omega arith

pub over_none : (f : ℕ → ℕ) (ps : List ℕ) → All (λ p. f p ≡ 0) ps → over f ps ≡ 0
over_none f [] e = refl
over_none f (p ∷ ps) e = let a = e.0 in let b = over_none f ps e.1 in omega arith

pub all_of : {X : Type 0} (P : X → Type 0) (ps : List X) → ((p : X) → P p) → All P ps
all_of P [] e = tt
all_of P (p ∷ ps) e = (e p, all_of P ps e)

-- of numbers that stand once, one number is met once if it is listed, and else never
pub over_one : (k : ℕ) (g : ℕ → ℕ) (ps : List ℕ) → Once ps → over (λ q. cond (eqb q k) (g q) 0) ps ≡ cond (listed k ps) (g k) 0
over_one k g [] o = refl
over_one k g (p ∷ ps) o =
    elim (eqb_tells p k) [
      | inl e ↦ rw (e.0, eq-eqb k p (sym e.1), over_none (λ q. cond (eqb q k) (g q) 0) ps (apart ps (rw (← e.1) o.0)), e.1) (omega arith)
      | inr e ↦ rw (e.0, ne_eqb k p (λ w. e.1 (sym w)), over_one k g ps o.1) (omega arith)
    ]
  where
    apart : (ps : List ℕ) → listed k ps ≡ false → All (λ q. cond (eqb q k) (g q) 0 ≡ 0) ps
    apart [] a = tt
    apart (q ∷ qs) a =
        let w = or_parts (eqb k q) (listed k qs) a in
        (rw (ne_eqb q k (λ z. eqb-false k q w.0 (sym z))) refl, apart qs w.1)
