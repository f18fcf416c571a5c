-- What stays of a table when records are put in, taken out or lowered.
use Rattle.std.proofs.Common.{◌≡◌, ℕ, ◌+◌, ◌-◌, ◌<◌, ◌≤◌, Bool, true, false, cond, ◌||◌, eqb, List, [], ◌∷◌, length, sym, refl, ◌∙◌, inl, inr, arith}
use Rattle.std.proofs.lemmas.Bool.Decides.{eqb_tells}
use Rattle.std.proofs.lemmas.Bool.{or_parts, or_from, cases_Bool, ne_eqb, eqb-false}
use Rattle.std.specs.List.{AllByRecursion as All}
use Rattle.blocks.specs.declared.Fill.{Fill}
use Rattle.kept.proofs.Entering.{entered_further, entered_here}
use Rattle.kept.specs.Inserting.{entered}
use Rattle.kept.specs.Standing.{Interest, with_left}
use Rattle.model.specs.Fills.{given_to, less}
use Rattle.model.specs.Tables.{has, at_price, without, holders_of}
use Rattle.laws.proofs.Lists.{Once}

or_swap : (a b c : Bool) → (a || (b || c)) ≡ (b || (a || c))
or_swap true true c = refl
or_swap true false c = refl
or_swap false true c = refl
or_swap false false c = refl

pub cond_swap : (a b : Bool) (x y z : ℕ) → (a ≡ true → b ≡ true → ⊥) → cond a x (cond b y z) ≡ cond b y (cond a x z)
cond_swap true true x y z e = absurd (e refl refl)
cond_swap true false x y z e = refl
cond_swap false true x y z e = refl
cond_swap false false x y z e = refl

pub cond_same : {A : Type 0} (b : Bool) (x : A) → cond b x x ≡ x
cond_same true x = refl
cond_same false x = refl

-- ---- what stays of a table when records are put in, taken out or lowered ----

-- what stays true when contracts fall to some that are left
abbrev pub Lowers : (Interest → Type 0) → Type 0
Lowers P = (r : Interest) (n : ℕ) → P r → 0 < n → n ≤ r.left → P (with_left n r)

-- a table made from another by leaving records out and lowering them
pub data PartOf : List Interest → List Interest → Type 0 where
  empty : PartOf [] []
  leaves : {s t : List Interest} {r : Interest} → PartOf s t → PartOf s (r ∷ t)
  stays : {s t : List Interest} {r : Interest} → PartOf s t → PartOf (r ∷ s) (r ∷ t)
  lowers : {s t : List Interest} {r : Interest} (n : ℕ) → 0 < n → n ≤ r.left → PartOf s t → PartOf (with_left n r ∷ s) (r ∷ t)

pub has_part : {s t : List Interest} (h : ℕ) → PartOf s t → has h t ≡ false → has h s ≡ false
has_part h empty e = e
has_part h (leaves {t = t} {r = r} p) e = has_part h p (or_parts (eqb h r.holder) (has h t) e).1
has_part h (stays {s = s} {t = t} {r = r} p) e =
    let w = or_parts (eqb h r.holder) (has h t) e in or_from (eqb h r.holder) (has h s) w.0 (has_part h p w.1)
has_part h (lowers {s = s} {t = t} {r = r} n a b p) e =
    let w = or_parts (eqb h r.holder) (has h t) e in or_from (eqb h r.holder) (has h s) w.0 (has_part h p w.1)

pub once_part : {s t : List Interest} → PartOf s t → Once (holders_of t) → Once (holders_of s)
once_part empty g = tt
once_part (leaves p) g = once_part p g.1
once_part (stays {r = r} p) g = (has_part r.holder p g.0, once_part p g.1)
once_part (lowers {r = r} n a b p) g = (has_part r.holder p g.0, once_part p g.1)

pub each_part : (P : Interest → Type 0) {s t : List Interest} → Lowers P → PartOf s t → All P t → All P s
each_part P l empty g = tt
each_part P l (leaves p) g = each_part P l p g.1
each_part P l (stays p) g = (g.0, each_part P l p g.1)
each_part P l (lowers {r = r} n a b p) g = (l r n g.0 a b, each_part P l p g.1)

pub length_part : {s t : List Interest} → PartOf s t → length s ≤ length t
length_part empty = omega arith
length_part (leaves p) = let a = length_part p in omega arith
length_part (stays p) = let a = length_part p in omega arith
length_part (lowers n x y p) = let a = length_part p in omega arith

part_self : (t : List Interest) → PartOf t t
part_self [] = empty
part_self (r ∷ rs) = stays (part_self rs)

pub part_at : (p : ℕ) (t : List Interest) → PartOf (at_price p t) t
part_at p [] = empty
part_at p (r ∷ rs) =
    elim (cases_Bool (eqb p r.price)) [ inl e ↦ rw e (stays (part_at p rs)) | inr e ↦ rw e (leaves (part_at p rs)) ]

pub part_without : (h : ℕ) (t : List Interest) → PartOf (without h t) t
part_without h [] = empty
part_without h (r ∷ rs) =
    elim (cases_Bool (eqb h r.holder)) [ inl e ↦ rw e (leaves (part_self rs)) | inr e ↦ rw e (stays (part_without h rs)) ]

pub part_less : (fs : List Fill) (t : List Interest) → PartOf (less fs t) t
part_less fs [] = empty
part_less fs (r ∷ rs) =
    let n : ℕ = r.left - given_to r.holder fs in
    elim (eqb_tells n 0) [
      | inl e ↦ rw e.0 (leaves (part_less fs rs))
      | inr e ↦ let k = e.1 in rw e.0 (lowers {r = r} n (omega arith) (omega arith) (part_less fs rs))
    ]

has_entered : (nw : Interest → Interest → Bool) (r : Interest) (t : List Interest) (h : ℕ) →
    has h (entered nw r t) ≡ (eqb h r.holder || has h t)
has_entered nw r [] h = refl
has_entered nw r (x ∷ xs) h =
    elim (cases_Bool (nw x r)) [
      | inl e ↦ rw (entered_further nw r x xs e, has_entered nw r xs h) (or_swap (eqb h x.holder) (eqb h r.holder) (has h xs))
      | inr e ↦ rw (entered_here nw r x xs e) refl
    ]

pub once_entered : (nw : Interest → Interest → Bool) (r : Interest) (t : List Interest) → has r.holder t ≡ false → Once (holders_of t) →
    Once (holders_of (entered nw r t))
once_entered nw r [] f g = (f, g)
once_entered nw r (x ∷ xs) f g =
    let w = or_parts (eqb r.holder x.holder) (has r.holder xs) f in
    elim (cases_Bool (nw x r)) [
      | inl e ↦ rw (entered_further nw r x xs e) (
        has_entered nw r xs x.holder
            ∙ or_from (eqb x.holder r.holder) (has x.holder xs)
            (ne_eqb x.holder r.holder (λ q. eqb-false r.holder x.holder w.0 (sym q))) g.0,
        once_entered nw r xs w.1 g.1,
      )
      | inr e ↦ rw (entered_here nw r x xs e) (f, g)
    ]

pub length_entered : (nw : Interest → Interest → Bool) (r : Interest) (t : List Interest) → length (entered nw r t) ≡ length t + 1
length_entered nw r [] = refl
length_entered nw r (x ∷ xs) =
    elim (cases_Bool (nw x r)) [
      | inl e ↦ rw (entered_further nw r x xs e) (let a = length_entered nw r xs in omega arith)
      | inr e ↦ rw (entered_here nw r x xs e) (omega arith)
    ]
