-- A Trade's way over the prices: its fills are covered by the tables, few, and in turn.
use Rattle.std.proofs.Common.{◌≡◌, ℕ, ◌<◌, ◌≤◌, true, false, cond, eqb, ◌⊎◌, List, [], ◌∷◌, sym, refl, ap, ◌∙◌, inl, inr, arith}
use Rattle.std.proofs.lemmas.Bool.Decides.{eqb_tells}
use Rattle.std.proofs.lemmas.Bool.{or_cases, cases_Bool, eq-eqb, ne_eqb, eqb-true, cases_lt}
use Rattle.terms.specs.Numbers.{sum, listed, within}
use Rattle.kept.specs.Ranked.{better}
use Rattle.model.specs.Fills.{fills, given_to, Fills}
use Rattle.model.specs.Prices.{prices}
use Rattle.model.specs.Tables.{Tables, has, left_to, at_price, sizes_of, price_of, holders_of}
use Rattle.model.specs.Trading.{at_level}
use Rattle.model.specs.Words.{Three, of}
use Rattle.laws.specs.Possible.{FairSweep}
use Rattle.laws.proofs.Changing.{once_part, part_at}
use Rattle.laws.proofs.Classes.{by_class, of_none, of_level}
use Rattle.laws.proofs.Fills.{given_append, fills_under, fills_some, fills_full}
use Rattle.laws.proofs.Ladder.{Sorted, better_trans, prices_sorted, sorted_first, better_apart, On, on_price, customers_on, makers_on, firms_on}
use Rattle.laws.proofs.Levels.{Level, stage, idle}
use Rattle.laws.proofs.Lists.{Once, all_listed}
use Rattle.laws.proofs.Lookup.{look_at}
use Rattle.laws.proofs.Totals.{Covers}

-- ---- what the fills give ----

module _ (side limit : ℕ) (ts : Tables) (once : (c : ℕ) → within 3 c ≡ true → Once (holders_of (of c ts))) where
  -- the shares of a price inside the sizes there
  level_under : (p : ℕ) (sh : Three (List ℕ)) (rest : ℕ) → Level (at_level p ts) sh rest → (c : ℕ) → within 3 c ≡ true → (h : ℕ) →
      given_to h (fills (at_price p (of c ts)) (of c sh)) ≤ cond (eqb p (price_of h (of c ts))) (left_to h (of c ts)) 0
  level_under p sh rest l c w h =
      let e = rw (of_level c w p ts) at (l.inside c w) in
      let a = fills_under h (at_price p (of c ts)) (of c sh) (once_part (part_at p (of c ts)) (once c w)) e in
      let b = look_at p (of c ts) h (once c w) in
      omega arith

  pub under : (ps : List ℕ) (n left : ℕ) (f : Fills) → Sorted side ps → FairSweep side limit ts ps n left f →
      (c : ℕ) → within 3 c ≡ true → (h : ℕ) → given_to h (of c f) ≤ cond (listed (price_of h (of c ts)) ps) (left_to h (of c ts)) 0
  under [] n left f o s c w h = rw (s.no_fills, of_none c w) (omega arith)
  under (p ∷ ps) n left f o s c w h =
      elim (stage side limit ts p ps n left f s) [
        | inl x ↦ rw (x.no_fills, of_none c w) (omega arith)
        | inr x ↦
            let ih = under ps x.rest left x.later o.1 x.onward c w h in
            let a = level_under p x.shares x.rest x.level c w h in
            let g = ap (given_to h) (x.made c w) ∙ given_append h (fills (at_price p (of c ts)) (of c x.shares)) (of c x.later) in
            let q : ℕ = price_of h (of c ts) in
            elim (eqb_tells p q) [
              | inl e ↦
                  let z : listed q ps ≡ false = rw (← e.1) (sorted_first side p ps o) in
                  let ih' = rw z at ih in
                  let a' = rw e.0 at a in
                  rw (eq-eqb q p (sym e.1)) (omega arith)
              | inr e ↦
                  let a' = rw e.0 at a in
                  rw (ne_eqb q p (λ v. e.1 (sym v))) (omega arith)
            ]
      ]

  pub covered : (n left : ℕ) (f : Fills) → FairSweep side limit ts (prices side ts) n left f →
      (c : ℕ) → within 3 c ≡ true → Covers (of c f) (of c ts)
  covered n left f s c w h =
      let a = under (prices side ts) n left f (prices_sorted side ts) s c w h in
      elim (cases_Bool (listed (price_of h (of c ts)) (prices side ts))) [
        | inl e ↦ rw e at a
        | inr e ↦ let b = rw e at a in omega arith
      ]

  -- ---- in turn ----

  -- a class whose shares come to its sizes is used up at that price
  used_up : (p : ℕ) (sh : Three (List ℕ)) (rest : ℕ) → Level (at_level p ts) sh rest → (b : ℕ) → within 3 b ≡ true →
      sum (sizes_of (of b (at_level p ts))) ≤ sum (of b sh) → (k : ℕ) → price_of k (of b ts) ≡ p →
      left_to k (of b ts) ≤ given_to k (fills (at_price p (of b ts)) (of b sh))
  used_up p sh rest l b w s k e =
      let i = rw (of_level b w p ts) at (l.inside b w) in
      let a = fills_full k (at_price p (of b ts)) (of b sh) i (rw (of_level b w p ts) at s) in
      let x = look_at p (of b ts) k (once b w) in
      let y = rw (eq-eqb p (price_of k (of b ts)) (sym e)) at x in
      omega arith

  -- where one gets something, all that are ahead of it are used up
  pub in_turn_all : (ps : List ℕ) (n left : ℕ) (f : Fills) → Sorted side ps → FairSweep side limit ts ps n left f →
      (c b : ℕ) → within 3 c ≡ true → within 3 b ≡ true → (h k : ℕ) → 0 < given_to h (of c f) →
      ((listed (price_of k (of b ts)) ps ≡ true) × (better side (price_of k (of b ts)) (price_of h (of c ts)) ≡ true))
      ⊎ ((price_of k (of b ts) ≡ price_of h (of c ts)) × (b < c)) →
      left_to k (of b ts) ≤ given_to k (of b f)
  in_turn_all [] n left f o s c b w v h k g a =
      let z = rw (s.no_fills, of_none c w) at g in absurd (omega arith)
  in_turn_all (p ∷ ps) n left f o s c b w v h k g a =
      elim (stage side limit ts p ps n left f s) [
        | inl x ↦ let z = rw (x.no_fills, of_none c w) at g in absurd (omega arith)
        | inr x ↦
            let gh = ap (given_to h) (x.made c w) ∙ given_append h (fills (at_price p (of c ts)) (of c x.shares)) (of c x.later) in
            let gk = ap (given_to k) (x.made b v) ∙ given_append k (fills (at_price p (of b ts)) (of b x.shares)) (of b x.later) in
            let q : ℕ = price_of k (of b ts) in
            let r : ℕ = price_of h (of c ts) in
            elim (cases_lt 0 (given_to h (fills (at_price p (of c ts)) (of c x.shares)))) [
              | inl here ↦
                  let u = level_under p x.shares x.rest x.level c w h in
                  let same : p ≡ r =
                  elim (cases_Bool (eqb p r)) [ inl e ↦ eqb-true p r e | inr e ↦ let u' = rw e at u in absurd (omega arith) ] in
                  elim a [
                    | inl y ↦
                        absurd (elim (or_cases (eqb q p) (listed q ps) y.0) [
                          | inl e ↦ better_apart side p p (rw (eqb-true q p e, ← same) at y.1) refl
                          | inr e ↦ better_apart side p p (better_trans side p q p (all_listed (λ z. better side p z ≡ true) ps q o.0 e) (rw (← same) at y.1)) refl
                        ])
                    | inr y ↦
                        let t = fills_some h (at_price p (of c ts)) (of c x.shares) in
                        let z = used_up p x.shares x.rest x.level b v
                        (x.level.in_turn b c v w y.1 (omega arith)) k (y.0 ∙ sym same) in
                        omega arith
                  ]
              | inr none_here ↦
                  let g' : 0 < given_to h (of c x.later) = omega arith in
                  let ih = in_turn_all ps x.rest left x.later o.1 x.onward c b w v h k g' in
                  elim a [
                    | inl y ↦
                        elim (or_cases (eqb q p) (listed q ps) y.0) [
                          | inl e ↦
                              let more : 0 < x.rest =
                              elim (cases_lt 0 x.rest) [
                                | inl l ↦ l
                                | inr l ↦
                                    let z : x.rest ≡ 0 = omega arith in
                                    let i = idle side limit ts ps left x.later (rw z at x.onward) in
                                    let g'' = rw (i, of_none c w) at g' in absurd (omega arith)
                              ] in
                              let z = used_up p x.shares x.rest x.level b v (x.level.used more b v) k (eqb-true q p e) in
                              omega arith
                          | inr e ↦ let z = ih (inl (e, y.1)) in omega arith
                        ]
                    | inr y ↦ let z = ih (inr y) in omega arith
                  ]
            ]
      ]

-- the prices of the tables are all there
pub price_listed : (side : ℕ) (ts : Tables) (b : ℕ) → within 3 b ≡ true → (k : ℕ) → has k (of b ts) ≡ true →
    listed (price_of k (of b ts)) (prices side ts) ≡ true
price_listed side ts b w k =
    on_price (prices side ts) (of b ts) k
    (by_class (λ b. On (prices side ts) (of b ts)) (customers_on side ts) (makers_on side ts) (firms_on side ts) b w)
