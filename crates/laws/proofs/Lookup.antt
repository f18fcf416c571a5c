-- What a holder has in a table, and at which price, before and after a change.
use Rattle.std.proofs.Common.{◌≡◌, ℕ, ◌-◌, ◌<◌, Bool, true, false, cond, eqb, List, [], ◌∷◌, sym, refl, ◌∙◌, inl, inr, arith}
use Rattle.std.proofs.lemmas.Bool.Decides.{eqb_tells}
use Rattle.std.proofs.lemmas.Bool.{or_parts, or_from, cases_Bool, eqb-true, eqb-false}
use Rattle.blocks.specs.declared.Fill.{Fill}
use Rattle.kept.proofs.Entering.{entered_further, entered_here}
use Rattle.kept.specs.Inserting.{entered}
use Rattle.kept.specs.Standing.{Interest}
use Rattle.model.specs.Fills.{given_to, less}
use Rattle.model.specs.Tables.{has, left_to, at_price, without, price_of, holders_of}
use Rattle.laws.proofs.Changing.{cond_swap, cond_same, has_part, part_at}
use Rattle.laws.proofs.Lists.{Once}

pub left_none : (h : ℕ) (t : List Interest) → has h t ≡ false → left_to h t ≡ 0
left_none h [] e = refl
left_none h (r ∷ rs) e = let w = or_parts (eqb h r.holder) (has h rs) e in rw w.0 (left_none h rs w.1)

price_none : (h : ℕ) (t : List Interest) → has h t ≡ false → price_of h t ≡ 0
price_none h [] e = refl
price_none h (r ∷ rs) e = let w = or_parts (eqb h r.holder) (has h rs) e in rw w.0 (price_none h rs w.1)

-- two tests of one number against two that differ
apart : (h a b : ℕ) → eqb a b ≡ false → eqb h a ≡ true → eqb h b ≡ true → ⊥
apart h a b e x y = eqb-false a b e (sym (eqb-true h a x) ∙ eqb-true h b y)

pub look_entered : (nw : Interest → Interest → Bool) (r : Interest) (t : List Interest) (h : ℕ) → has r.holder t ≡ false →
    (left_to h (entered nw r t) ≡ cond (eqb h r.holder) r.left (left_to h t))
    × (price_of h (entered nw r t) ≡ cond (eqb h r.holder) r.price (price_of h t))
look_entered nw r [] h f = (refl, refl)
look_entered nw r (x ∷ xs) h f =
    let w = or_parts (eqb r.holder x.holder) (has r.holder xs) f in
    let ih = look_entered nw r xs h w.1 in
    elim (cases_Bool (nw x r)) [
      | inl e ↦ rw (entered_further nw r x xs e) (
        rw ih.0 (cond_swap (eqb h x.holder) (eqb h r.holder) x.left r.left (left_to h xs)
            (λ a b. apart h r.holder x.holder w.0 b a)),
        rw ih.1 (cond_swap (eqb h x.holder) (eqb h r.holder) x.price r.price (price_of h xs)
            (λ a b. apart h r.holder x.holder w.0 b a)),
      )
      | inr e ↦ rw (entered_here nw r x xs e) (refl, refl)
    ]

pub look_without : (k : ℕ) (t : List Interest) (h : ℕ) → Once (holders_of t) →
    (left_to h (without k t) ≡ cond (eqb h k) 0 (left_to h t)) × (price_of h (without k t) ≡ cond (eqb h k) 0 (price_of h t))
look_without k [] h g = (sym (cond_same (eqb h k) 0), sym (cond_same (eqb h k) 0))
look_without k (x ∷ xs) h g =
    let ih = look_without k xs h g.1 in
    elim (eqb_tells k x.holder) [
      | inl e ↦
          rw (e.0, e.1)
          (elim (eqb_tells h x.holder) [
            | inl w ↦ rw (w.0, w.1) (left_none x.holder xs g.0, price_none x.holder xs g.0)
            | inr w ↦ rw w.0 (refl, refl)
          ])
      | inr e ↦ rw e.0 (
        rw ih.0 (cond_swap (eqb h x.holder) (eqb h k) x.left 0 (left_to h xs) (λ a b. apart h k x.holder e.0 b a)),
        rw ih.1 (cond_swap (eqb h x.holder) (eqb h k) x.price 0 (price_of h xs) (λ a b. apart h k x.holder e.0 b a)),
      )
    ]

pub left_less : (fs : List Fill) (t : List Interest) (h : ℕ) → Once (holders_of t) →
    left_to h (less fs t) ≡ left_to h t - given_to h fs
left_less fs [] h g = omega arith
left_less fs (x ∷ xs) h g =
    let ih = left_less fs xs h g.1 in
    let n : ℕ = x.left - given_to x.holder fs in
    elim (eqb_tells h x.holder) [
      | inl w ↦
          let z : left_to h xs ≡ 0 = rw w.1 (left_none x.holder xs g.0) in
          let s : given_to h fs ≡ given_to x.holder fs = rw w.1 in
          elim (eqb_tells n 0) [
            | inl e ↦ let k = e.1 in rw (e.0, w.0) (omega arith)
            | inr e ↦ rw (e.0, w.0) (omega arith)
          ]
      | inr w ↦ elim (eqb_tells n 0) [ inl e ↦ rw (e.0, w.0) ih | inr e ↦ rw (e.0, w.0) ih ]
    ]

pub price_less : (fs : List Fill) (t : List Interest) (h : ℕ) → Once (holders_of t) →
    0 < left_to h (less fs t) → price_of h (less fs t) ≡ price_of h t
price_less fs [] h g p = refl
price_less fs (x ∷ xs) h g p =
    let ih = price_less fs xs h g.1 in
    let n : ℕ = x.left - given_to x.holder fs in
    elim (eqb_tells h x.holder) [
      | inl w ↦
          let z : left_to h xs ≡ 0 = rw w.1 (left_none x.holder xs g.0) in
          elim (eqb_tells n 0) [
            | inl e ↦ let p' = rw e.0 at p in let y = left_less fs xs h g.1 in absurd (omega arith)
            | inr e ↦ rw (e.0, w.0)
          ]
      | inr w ↦
          elim (eqb_tells n 0) [
            | inl e ↦ let p' = rw e.0 at p in rw (e.0, w.0) (ih p')
            | inr e ↦ let p' = rw (e.0, w.0) at p in rw (e.0, w.0) (ih p')
          ]
    ]

pub look_at : (p : ℕ) (t : List Interest) (h : ℕ) → Once (holders_of t) →
    left_to h (at_price p t) ≡ cond (eqb p (price_of h t)) (left_to h t) 0
look_at p [] h g = sym (cond_same (eqb p 0) 0)
look_at p (x ∷ xs) h g =
    let ih = look_at p xs h g.1 in
    elim (eqb_tells h x.holder) [
      | inl w ↦
          let z : left_to h (at_price p xs) ≡ 0 = rw w.1 (left_none x.holder (at_price p xs) (has_part x.holder (part_at p xs) g.0)) in
          elim (cases_Bool (eqb p x.price)) [ inl e ↦ rw (e, w.0, e) | inr e ↦ rw (e, w.0, e) z ]
      | inr w ↦ elim (cases_Bool (eqb p x.price)) [ inl e ↦ rw (e, w.0) ih | inr e ↦ rw (e, w.0) ih ]
    ]

pub has_without : (k : ℕ) (t : List Interest) → Once (holders_of t) → has k (without k t) ≡ false
has_without k [] g = refl
has_without k (x ∷ xs) g =
    elim (eqb_tells k x.holder) [
      | inl e ↦ rw (e.0, e.1) g.0
      | inr e ↦ rw e.0 (or_from (eqb k x.holder) (has k (without k xs)) e.0 (has_without k xs g.1))
    ]

pub left_has : (h : ℕ) (t : List Interest) → 0 < left_to h t → has h t ≡ true
left_has h t p =
    elim (cases_Bool (has h t)) [ inl e ↦ e | inr e ↦ let z = left_none h t e in absurd (omega arith) ]
