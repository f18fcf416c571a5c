-- The contracts of a table before and after a change.
use Rattle.std.proofs.Common.{◌≡◌, ℕ, ◌+◌, ◌-◌, ◌≤◌, Bool, true, false, cond, eqb, List, [], ◌∷◌, sym, refl, inl, inr, arith}
use Rattle.std.proofs.lemmas.Bool.Decides.{eqb_tells}
use Rattle.std.proofs.lemmas.Bool.{or_right, cases_Bool, both_ways, eq-eqb, ne_eqb}
use Rattle.blocks.specs.Blocks.{filled_by}
use Rattle.blocks.specs.declared.Fill.{Fill}
use Rattle.kept.proofs.Entering.{entered_further, entered_here}
use Rattle.kept.specs.Inserting.{entered}
use Rattle.kept.specs.Standing.{Interest}
use Rattle.model.specs.Fills.{given_to, less}
use Rattle.model.specs.Tables.{has, left_to, total, without, holders_of}
use Rattle.laws.proofs.Lists.{Once}
use Rattle.laws.proofs.Lookup.{left_none}

pub total_entered : (nw : Interest → Interest → Bool) (r : Interest) (t : List Interest) → total (entered nw r t) ≡ r.left + total t
total_entered nw r [] = refl
total_entered nw r (x ∷ xs) =
    elim (cases_Bool (nw x r)) [
      | inl e ↦ rw (entered_further nw r x xs e) (let a = total_entered nw r xs in omega arith)
      | inr e ↦ rw (entered_here nw r x xs e) refl
    ]

pub total_without : (k : ℕ) (t : List Interest) → total (without k t) + left_to k t ≡ total t
total_without k [] = refl
total_without k (x ∷ xs) =
    elim (cases_Bool (eqb k x.holder)) [
      | inl e ↦ rw e (omega arith)
      | inr e ↦ rw e (let a = total_without k xs in omega arith)
    ]

-- no holder gets more than it has
abbrev pub Covers : List Fill → List Interest → Type 0
Covers fs t = (h : ℕ) → given_to h fs ≤ left_to h t

-- what fills give the holders of a table
abbrev drawn : List Fill → List Interest → ℕ
drawn fs [] = 0
drawn fs (r ∷ rs) = given_to r.holder fs + drawn fs rs

total_less : (fs : List Fill) (t : List Interest) → Once (holders_of t) → ((h : ℕ) → has h t ≡ true → given_to h fs ≤ left_to h t) →
    total (less fs t) + drawn fs t ≡ total t
total_less fs [] g c = refl
total_less fs (x ∷ xs) g c =
    let n : ℕ = x.left - given_to x.holder fs in
    let s : eqb x.holder x.holder ≡ true = eq-eqb x.holder x.holder refl in
    let a : given_to x.holder fs ≤ x.left = rw s at (c x.holder (rw s)) in
    let ih = total_less fs xs g.1 (λ h e.
    elim (eqb_tells h x.holder) [
      | inl w ↦ absurd (both_ways (has h xs) (rw w.1 g.0) e)
      | inr w ↦ rw w.0 at (c h (or_right (eqb h x.holder) (has h xs) e))
    ]) in
    elim (eqb_tells n 0) [ inl e ↦ let k = e.1 in rw e.0 (omega arith) | inr e ↦ rw e.0 (omega arith) ]

drawn_more : (f : Fill) (fs : List Fill) (t : List Interest) → Once (holders_of t) →
    drawn (f ∷ fs) t ≡ cond (has f.holder t) f.contracts 0 + drawn fs t
drawn_more f fs [] g = refl
drawn_more f fs (x ∷ xs) g =
    let ih = drawn_more f fs xs g.1 in
    elim (eqb_tells x.holder f.holder) [
      | inl w ↦
          let z : has f.holder xs ≡ false = rw (← w.1) g.0 in
          let ih' = rw z at ih in
          rw (w.0, eq-eqb f.holder x.holder (sym w.1)) (omega arith)
      | inr w ↦ rw (w.0, ne_eqb f.holder x.holder (λ e. w.1 (sym e))) (omega arith)
    ]

drawn_all : (fs : List Fill) (t : List Interest) → Once (holders_of t) → Covers fs t → drawn fs t ≡ filled_by fs
drawn_all [] t g c = none t
  where
    none : (t : List Interest) → drawn [] t ≡ 0
    none [] = refl
    none (x ∷ xs) = let a = none xs in omega arith
drawn_all (f ∷ fs) t g c =
    let ih = drawn_all fs t g (λ h. let a = c h in omega arith) in
    let m = drawn_more f fs t g in
    let a : f.contracts ≤ left_to f.holder t =
    let a = rw (eq-eqb f.holder f.holder refl) at (c f.holder) in omega arith in
    elim (cases_Bool (has f.holder t)) [
      | inl e ↦ let m' = rw e at m in omega arith
      | inr e ↦ let m' = rw e at m in let z = left_none f.holder t e in omega arith
    ]

-- the fills and what is left make up what was there
pub total_less_all : (fs : List Fill) (t : List Interest) → Once (holders_of t) → Covers fs t → total (less fs t) + filled_by fs ≡ total t
total_less_all fs t g c = let a = total_less fs t g (λ h e. c h) in let b = drawn_all fs t g c in omega arith
