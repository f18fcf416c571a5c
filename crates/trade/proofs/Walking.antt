-- A Trade's way over tables that are best first: the best price ahead, its stretches, and then what stands behind them.
use Rattle.std.proofs.Common.{◌≡◌, ℕ, ◌+◌, ◌<◌, true, false, cond, eqb, ltb, ◌⊎◌, List, [], ◌∷◌, ◌++◌, length, Option, None, Some, sym, refl, ap, ◌∙◌, subst, inl, inr, arith}
use Rattle.std.proofs.lemmas.Bool.{cases_Bool, both_ways, or_cases, or_left, or_right, eqb-true, eq-eqb, ne_eqb, and_from, and_left, and_right, not_from_true, not_from_false, lt-ltb, le-ltb}
use Rattle.terms.specs.Numbers.{listed}
use Rattle.kept.specs.Ranked.{better, no_worse}
use Rattle.kept.specs.Standing.{Interest}
use Rattle.model.specs.Prices.{ladder, prices}
use Rattle.model.specs.Tables.{Tables}
use Rattle.model.specs.Trading.{Rule, Swept, at_end, at_level, reached, level, sweep, ◌then_swept◌}
use Rattle.model.specs.Words.{Three}
use Rattle.serving.specs.Stretch.{front}
use Rattle.trade.specs.Level.{fronts}
use Rattle.trade.specs.Prices.{BestFirst, ahead, best, best_ahead}
use Rattle.trade.proofs.Ladder.{better_self, better_not, self_not, not_better_trans, falling_ladder, falling_same, priced, ladder_to, to_ladder}
use Rattle.trade.proofs.Sorting.{Behind, Sorted, sorted_rank, past, rank_past, past_some, past_or, past_worse, at_front, at_past, NoneBetter, behind_ahead, front_some, priced_front, priced_behind, priced_cases}

-- ---- three tables ----

-- the records of each table behind the first ones that are at a price
abbrev pub pasts : (price : ℕ) → Tables → Tables
pasts p ts = record { customers = past p ts.customers; makers = past p ts.makers; firms = past p ts.firms }

abbrev pub AllSorted : (side : ℕ) → Tables → Type 0
AllSorted side ts = Sorted side ts.customers × Sorted side ts.makers × Sorted side ts.firms

pub all_sorted : (side : ℕ) (ts : Tables) → BestFirst side ts → AllSorted side ts
all_sorted side ts b = (sorted_rank side ts.customers b.customers, sorted_rank side ts.makers b.makers, sorted_rank side ts.firms b.firms)

pub first_past : (side p : ℕ) (ts : Tables) → BestFirst side ts → BestFirst side (pasts p ts)
first_past side p ts b =
    record {
      customers = rank_past side p ts.customers b.customers;
      makers = rank_past side p ts.makers b.makers;
      firms = rank_past side p ts.firms b.firms;
    }

-- ---- the best price ahead ----

-- the better of two prices is one of them, and neither is better
best_one : (side p : ℕ) (x y : Option ℕ) → best side x y ≡ Some p → (x ≡ Some p) ⊎ (y ≡ Some p)
best_one side p None y e = inr e
best_one side p (Some m) None e = inl e
best_one side p (Some m) (Some q) e = elim (cases_Bool (better side q m)) [ inl h ↦ inr (rw h at e) | inr h ↦ inl (rw h at e) ]

best_left : (side p q : ℕ) → better side p (cond (better side q p) q p) ≡ false
best_left side p q = elim (cases_Bool (better side q p)) [ inl e ↦ rw e (better_not side q p e) | inr e ↦ rw e (self_not side p) ]

best_right : (side p q : ℕ) → better side q (cond (better side q p) q p) ≡ false
best_right side p q = elim (cases_Bool (better side q p)) [ inl e ↦ rw e (self_not side q) | inr e ↦ rw e e ]

none_of_two : (side p : ℕ) (x y : Option ℕ) → NoneBetter side p (best side x y) → NoneBetter side p x × NoneBetter side p y
none_of_two side p None y n = (tt, n)
none_of_two side p (Some m) None n = (n, tt)
none_of_two side p (Some m) (Some q) n =
    let k : ℕ = cond (better side q m) q m in (not_better_trans side m k p (best_left side m q) n, not_better_trans side q k p (best_right side m q) n)

behind_best : (side p : ℕ) (ts : Tables) → best_ahead side ts ≡ Some p → AllSorted side ts →
    Behind side p ts.customers × Behind side p ts.makers × Behind side p ts.firms
behind_best side p ts e s =
    let first : Option ℕ = best side (ahead ts.customers) (ahead ts.makers) in
    let n = none_of_two side p first (ahead ts.firms) (subst (NoneBetter side p) (sym e) (self_not side p)) in
    let m = none_of_two side p (ahead ts.customers) (ahead ts.makers) n.0 in
    (behind_ahead side p ts.customers s.0 m.0, behind_ahead side p ts.makers s.1 m.1, behind_ahead side p ts.firms s.2 n.1)

pub some_best : (side p : ℕ) (ts : Tables) → best_ahead side ts ≡ Some p →
    (0 < length (front p ts.customers) + length (front p ts.makers) + length (front p ts.firms))
    × (priced p (ts.customers ++ (ts.makers ++ ts.firms)) ≡ true)
some_best side p ts e =
    elim (best_one side p (best side (ahead ts.customers) (ahead ts.makers)) (ahead ts.firms) e) [
      | inl d ↦
          elim (best_one side p (ahead ts.customers) (ahead ts.makers) d) [
            | inl h ↦ let w = front_some p ts.customers h in (omega (arith, w.0), priced_front p ts.customers (ts.makers ++ ts.firms) w.1)
            | inr h ↦
                let w = front_some p ts.makers h in
                (omega (arith, w.0), priced_behind p ts.customers (ts.makers ++ ts.firms) (priced_front p ts.makers ts.firms w.1))
          ]
      | inr h ↦
          let w = front_some p ts.firms h in
          (omega (arith, w.0), priced_behind p ts.customers (ts.makers ++ ts.firms) (priced_behind p ts.makers ts.firms w.1))
    ]

-- where no table has a first record, there is none
nothing_ahead : (side : ℕ) (cs ms fs : List Interest) → best side (best side (ahead cs) (ahead ms)) (ahead fs) ≡ None → cs ++ (ms ++ fs) ≡ []
nothing_ahead side [] [] [] e = refl
nothing_ahead side [] [] (f ∷ fs) e = cc
nothing_ahead side [] (m ∷ ms) [] e = cc
nothing_ahead side [] (m ∷ ms) (f ∷ fs) e = cc
nothing_ahead side (c ∷ cs) [] [] e = cc
nothing_ahead side (c ∷ cs) [] (f ∷ fs) e = cc
nothing_ahead side (c ∷ cs) (m ∷ ms) [] e = cc
nothing_ahead side (c ∷ cs) (m ∷ ms) (f ∷ fs) e = cc

abbrev all : Tables → List Interest
all ts = ts.customers ++ (ts.makers ++ ts.firms)

all_cases : (x : ℕ) (ts : Tables) (C : Type 0) → (priced x ts.customers ≡ true → C) → (priced x ts.makers ≡ true → C) → (priced x ts.firms ≡ true → C) →
    priced x (all ts) ≡ true → C
all_cases x ts C f g h e =
    elim (priced_cases x ts.customers (ts.makers ++ ts.firms) e) [
      | inl w ↦ f w
      | inr w ↦ elim (priced_cases x ts.makers ts.firms w) [ inl v ↦ g v | inr v ↦ h v ]
    ]

in_customers : (x : ℕ) (ts : Tables) → priced x ts.customers ≡ true → priced x (all ts) ≡ true
in_customers x ts = priced_front x ts.customers (ts.makers ++ ts.firms)

in_makers : (x : ℕ) (ts : Tables) → priced x ts.makers ≡ true → priced x (all ts) ≡ true
in_makers x ts e = priced_behind x ts.customers (ts.makers ++ ts.firms) (priced_front x ts.makers ts.firms e)

in_firms : (x : ℕ) (ts : Tables) → priced x ts.firms ≡ true → priced x (all ts) ≡ true
in_firms x ts e = priced_behind x ts.customers (ts.makers ++ ts.firms) (priced_behind x ts.makers ts.firms e)

-- the prices: the best first price, and then those behind its stretches
prices_step : (side p : ℕ) (ts : Tables) → AllSorted side ts → best_ahead side ts ≡ Some p → prices side ts ≡ p ∷ prices side (pasts p ts)
prices_step side p ts s a =
    let us : Tables = pasts p ts in
    let h = behind_best side p ts a s in
    let worse : (q : ℕ) → priced q (all us) ≡ true → better side p q ≡ true =
    λ q. all_cases q us (better side p q ≡ true) (past_worse side p ts.customers s.0 h.0 q) (past_worse side p ts.makers s.1 h.1 q) (past_worse side p ts.firms s.2 h.2 q) in
    falling_same side (ladder side (all ts)) (p ∷ ladder side (all us)) (falling_ladder side (all ts))
    ((λ q e. worse q (ladder_to side (all us) q e)), falling_ladder side (all us))
    (λ z e.
    let C : Type 0 = (z ≡ p) ⊎ (priced z (all us) ≡ true) in
    let w : C = all_cases z ts C
    (λ d. elim (past_or p ts.customers z d) [ inl v ↦ inl v | inr v ↦ inr (in_customers z us v) ])
    (λ d. elim (past_or p ts.makers z d) [ inl v ↦ inl v | inr v ↦ inr (in_makers z us v) ])
    (λ d. elim (past_or p ts.firms z d) [ inl v ↦ inl v | inr v ↦ inr (in_firms z us v) ])
    (ladder_to side (all ts) z e) in
    elim w [
      | inl v ↦ or_left (eqb z p) (listed z (ladder side (all us))) (eq-eqb z p v)
      | inr v ↦ or_right (eqb z p) (listed z (ladder side (all us))) (to_ladder side (all us) z v)
    ])
    (λ z e.
    to_ladder side (all ts) z (
    elim (or_cases (eqb z p) (listed z (ladder side (all us))) e) [
      | inl v ↦ subst (λ m. priced m (all ts) ≡ true) (sym (eqb-true z p v)) (some_best side p ts a).1
      | inr v ↦
          all_cases z us (priced z (all ts) ≡ true)
          (λ d. in_customers z ts (past_some p ts.customers z d))
          (λ d. in_makers z ts (past_some p ts.makers z d))
          (λ d. in_firms z ts (past_some p ts.firms z d))
          (ladder_to side (all us) z v)
    ]))

-- the best price does not come again
not_again : (side p : ℕ) (ts : Tables) → AllSorted side ts → best_ahead side ts ≡ Some p → (q : ℕ) → listed q (prices side (pasts p ts)) ≡ true → eqb q p ≡ false
not_again side p ts s a q e =
    let us : Tables = pasts p ts in
    let h = behind_best side p ts a s in
    let w : better side p q ≡ true =
    all_cases q us (better side p q ≡ true) (past_worse side p ts.customers s.0 h.0 q) (past_worse side p ts.makers s.1 h.1 q) (past_worse side p ts.firms s.2 h.2 q)
    (ladder_to side (all us) q e) in
    ne_eqb q p (λ z. better_self side p (subst (λ m. better side p m ≡ true) z w))

pub three_same : {A : Type 0} (a a' b b' c c' : A) → a ≡ a' → b ≡ b' → c ≡ c' →
    ◌≡◌ {A = Three A} (record { customers = a; makers = b; firms = c }) (record { customers = a'; makers = b'; firms = c' })
three_same a a' b b' c c' x y z = cc

module _ {S F : Type 0} (M : Rule S) (Q : Rule F) (side limit directed : ℕ) where
  sweep_same : (ts us : Tables) (ps : List ℕ) → ((q : ℕ) → listed q ps ≡ true → at_level q ts ≡ at_level q us) → (n : ℕ) (s : S) (f : F) →
      sweep M Q side limit directed ts ps n s f ≡ sweep M Q side limit directed us ps n s f
  sweep_same ts us [] e n s f = refl
  sweep_same ts us (p ∷ ps) e n s f =
      let x : Swept S F = level M Q directed (at_level p us) n s f in
      let go : Tables → Swept S F = λ h.
      let y : Swept S F = level M Q directed h n s f in
      cond (reached side limit p n) (y then_swept sweep M Q side limit directed ts ps y.left y.makers_next y.firms_next) (at_end n s f) in
      ap go (e p (or_left (eqb p p) (listed p ps) (eq-eqb p p refl)))
      ∙ ap (λ z. cond (reached side limit p n) (x then_swept z) (at_end n s f))
      (sweep_same ts us ps (λ q l. e q (or_right (eqb q p) (listed q ps) l)) x.left x.makers_next x.firms_next)

  sweep_none : (ts : Tables) (ps : List ℕ) (n : ℕ) (s : S) (f : F) → ((q : ℕ) → listed q ps ≡ true → better side limit q ≡ true) →
      sweep M Q side limit directed ts ps n s f ≡ at_end n s f
  sweep_none ts [] n s f e = refl
  sweep_none ts (p ∷ ps) n s f e =
      let w = e p (or_left (eqb p p) (listed p ps) (eq-eqb p p refl)) in
      let r : reached side limit p n ≡ false = and_left (no_worse side p limit) (ltb 0 n) (not_from_true (better side limit p) w) in
      rw r

  pub walk_nothing : (ts : Tables) (ps : List ℕ) (n : ℕ) (s : S) (f : F) → n ≡ 0 → sweep M Q side limit directed ts ps n s f ≡ at_end n s f
  walk_nothing ts [] n s f e = refl
  walk_nothing ts (p ∷ ps) n s f e =
      let r : reached side limit p n ≡ false = and_right (no_worse side p limit) (ltb 0 n) (le-ltb 0 n (omega arith)) in
      rw r

  -- no price is reached where there is none
  pub walk_out : (ts : Tables) (n : ℕ) (s : S) (f : F) → best_ahead side ts ≡ None → sweep M Q side limit directed ts (prices side ts) n s f ≡ at_end n s f
  walk_out ts n s f e = ap (λ l. sweep M Q side limit directed ts (ladder side l) n s f) (nothing_ahead side ts.customers ts.makers ts.firms e)

  -- nor where the best first one is not
  pub walk_end : (p : ℕ) (ts : Tables) (n : ℕ) (s : S) (f : F) → best_ahead side ts ≡ Some p → AllSorted side ts → better side limit p ≡ true →
      sweep M Q side limit directed ts (prices side ts) n s f ≡ at_end n s f
  walk_end p ts n s f a o w =
      let h = behind_best side p ts a o in
      let on : (q : ℕ) → better side q p ≡ false → better side limit q ≡ true = λ q d.
      elim (cases_Bool (better side limit q)) [
        | inl z ↦ z
        | inr z ↦ absurd (both_ways (better side limit p) (not_better_trans side limit q p z d) w)
      ] in
      sweep_none ts (prices side ts) n s f (λ q l.
      all_cases q ts (better side limit q ≡ true) (λ d. on q (h.0 q d)) (λ d. on q (h.1 q d)) (λ d. on q (h.2 q d)) (ladder_to side (all ts) q l))

  -- one price, and then the tables behind it
  pub walk_step : (p : ℕ) (ts : Tables) (n : ℕ) (s : S) (f : F) → best_ahead side ts ≡ Some p → AllSorted side ts → better side limit p ≡ false → 0 < n →
      let x : Swept S F = level M Q directed (fronts p ts) n s f in
      sweep M Q side limit directed ts (prices side ts) n s f
      ≡ (x then_swept sweep M Q side limit directed (pasts p ts) (prices side (pasts p ts)) x.left x.makers_next x.firms_next)
  walk_step p ts n s f a o v some =
      let us : Tables = pasts p ts in
      let h = behind_best side p ts a o in
      let ps : prices side ts ≡ p ∷ prices side us = prices_step side p ts o a in
      let r : reached side limit p n ≡ true = and_from (no_worse side p limit) (ltb 0 n) (not_from_false (better side limit p) v) (lt-ltb 0 n some) in
      let here : at_level p ts ≡ fronts p ts =
      three_same _ _ _ _ _ _ (at_front side p ts.customers o.0 h.0) (at_front side p ts.makers o.1 h.1) (at_front side p ts.firms o.2 h.2) in
      let other : (q : ℕ) → listed q (prices side us) ≡ true → at_level q ts ≡ at_level q us = λ q l.
      let n' : eqb q p ≡ false = not_again side p ts o a q l in
      three_same _ _ _ _ _ _ (at_past p q ts.customers n') (at_past p q ts.makers n') (at_past p q ts.firms n') in
      let x : Swept S F = level M Q directed (fronts p ts) n s f in
      let go : Tables → Swept S F = λ t.
      let y : Swept S F = level M Q directed t n s f in
      y then_swept sweep M Q side limit directed ts (prices side us) y.left y.makers_next y.firms_next in
      let first : sweep M Q side limit directed ts (p ∷ prices side us) n s f ≡ go (at_level p ts) = rw r in
      ap (λ l. sweep M Q side limit directed ts l n s f) ps
      ∙ first ∙ ap go here
      ∙ ap (λ z. x then_swept z) (sweep_same ts us (prices side us) other x.left x.makers_next x.firms_next)
