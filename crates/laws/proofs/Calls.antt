-- What each call that is carried out keeps of the tables.
use Rattle.std.proofs.Common.{◌≡◌, ℕ, ◌+◌, ◌<◌, ◌≤◌, true, false, cond, eqb, List, [], ◌∷◌, length, sym, refl, subst, inl, inr, arith}
use Rattle.std.proofs.ByRecursion.{All-weaker}
use Rattle.std.proofs.lemmas.Bool.Decides.{eqb_tells}
use Rattle.std.proofs.lemmas.Bool.{or_cases, cases_Bool, eqb-true}
use Rattle.terms.specs.Numbers.{listed, within}
use Rattle.blocks.proofs.Parts.{fills_in_block}
use Rattle.blocks.specs.declared.Fill.{Fill}
use Rattle.kept.specs.Standing.{Interest}
use Rattle.model.specs.Accounts.{contracts_entered, contracts_filled, contracts_taken_off}
use Rattle.model.specs.Book.{answer, tables_after}
use Rattle.model.specs.Fills.{less, Fills}
use Rattle.model.specs.Prices.{prices}
use Rattle.model.specs.Refusals.{orders, refusal}
use Rattle.model.specs.Standing.{stands, stood_at}
use Rattle.model.specs.Tables.{Tables, ranks, has, left_to, without, with_record, quoted, holders_of}
use Rattle.model.specs.Words.{places, customer, maker, firm, Three, of, enter, reduce, withdraw, quote, trade, answered, event, ◌▸◌, Day}
use Rattle.laws.specs.Possible.{FairSweep}
use Rattle.laws.proofs.Allowed.{enter_allowed, reduce_allowed, quote_allowed}
use Rattle.laws.proofs.Changing.{part_without, part_less}
use Rattle.laws.proofs.Classes.{of_with, of_less, of_blocks}
use Rattle.laws.proofs.Count.{few_fills}
use Rattle.laws.proofs.Lists.{Once, within_parts}
use Rattle.laws.proofs.Lookup.{has_without}
use Rattle.laws.proofs.Room.{as_fewer}
use Rattle.laws.proofs.Sound.{Fit, Sound, Told, sound_entered, told_entered, told_without, told_less, told_ext, sound_part, who}
use Rattle.laws.proofs.Sweeping.{covered}
use Rattle.laws.proofs.Totals.{Covers}

-- what is kept of one class's table: it is sound, and as the day tells
abbrev pub State : (side : ℕ) (roster : List ℕ) (class : ℕ) → List Interest → Day → Type 0
State side roster class t d =
    Sound side roster class t
    × Told t (λ h. stands class h d) (λ h. stood_at class h d) (contracts_entered class d) (contracts_filled class d) (contracts_taken_off class d)

-- an order's class is not the makers'
order_not_maker : (k : ℕ) → orders k ≡ true → eqb k maker ≡ false
order_not_maker k e =
    elim (or_cases (eqb k customer) (eqb k firm) e) [
      | inl w ↦ rw (eqb-true k 1 w)
      | inr w ↦ rw (eqb-true k 3 w)
    ]

module _ (side : ℕ) (roster : List ℕ) (c : ℕ) (w : within 3 c ≡ true) (ts : Tables) (d : Day) where
  pub enter_keeps : (f : Fills) (k n p s a : ℕ) → refusal roster ts (enter k n p s) ≡ 0 → State side roster c (of c ts) d →
      State side roster c (of c (tables_after side roster ts f (enter k n p s))) (d ▸ event (enter k n p s) (answered a))
  enter_keeps f k n p s a e st =
      rw (of_with c w k (with_record side k roster n p s (of k ts)) ts)
      (elim (eqb_tells c k) [
        | inl q ↦
            let r : Interest = record { holder = n; price = p; left = s } in
            let x = enter_allowed roster ts k n p s e in
            let m : eqb c maker ≡ false = rw q.1 (order_not_maker k x.class_ok) in
            let pl : places c ≡ 64 = rw m in
            let pp = within_parts 999999 p x.price_ok in
            let sp = within_parts 99999 s x.size_ok in
            let fresh : has n (of c ts) ≡ false = rw q.1 x.new in
            let l : length (of c ts) < 64 = rw q.1 x.room in
            rw (q.0, ← q.1) (
              sound_entered side roster c r (of c ts)
                  (rw m x.number_ok, sp.0, sp.1, pp.0, pp.1) fresh (omega arith) st.0,
              told_entered (ranks side c roster) r (of c ts) _ _ _ _ _ fresh st.1,
            )
        | inr q ↦ rw q.0 (st.0, told_ext st.1 (λ h. refl) (λ h z. refl) (omega arith))
      ])

  pub withdraw_keeps : (f : Fills) (k n a : ℕ) → refusal roster ts (withdraw k n) ≡ 0 → a ≡ left_to n (of k ts) → State side roster c (of c ts) d →
      State side roster c (of c (tables_after side roster ts f (withdraw k n))) (d ▸ event (withdraw k n) (answered a))
  withdraw_keeps f k n a e v st =
      rw (of_with c w k (without n (of k ts)) ts)
      (elim (eqb_tells c k) [
        | inl q ↦ rw (v, q.0, ← q.1) (
          sound_part side roster c (part_without n (of c ts)) st.0,
          told_without n (of c ts) _ _ _ _ _ st.0.once st.1,
        )
        | inr q ↦ rw q.0 (st.0, told_ext st.1 (λ h. refl) (λ h z. refl) (omega arith))
      ])

  pub reduce_keeps : (f : Fills) (k n red a : ℕ) → refusal roster ts (reduce k n red) ≡ 0 → State side roster c (of c ts) d →
      State side roster c (of c (tables_after side roster ts f (reduce k n red))) (d ▸ event (reduce k n red) (answered a))
  reduce_keeps f k n red a e st =
      let fs : List Fill = record { holder = n; contracts = red } ∷ [] in
      rw (of_with c w k (less fs (of k ts)) ts)
      (elim (eqb_tells c k) [
        | inl q ↦
            let l : red ≤ left_to n (of c ts) = rw q.1 (reduce_allowed roster ts k n red e) in
            let cov : Covers fs (of c ts) = λ h.
            elim (eqb_tells h n) [
              | inl z ↦ rw (z.0, z.1) (omega arith)
              | inr z ↦ rw z.0 (omega arith)
            ] in
            rw (q.0, ← q.1) (
              sound_part side roster c (part_less fs (of c ts)) st.0,
              told_less fs (of c ts) (λ h. stands c h d) _ _ _ _ _ _ _ st.0.once cov
                  (λ h. omega arith) (omega arith) st.1,
            )
        | inr q ↦ rw q.0 (st.0, told_ext st.1 (λ h. omega arith) (λ h z. refl) (omega arith))
      ])

  pub trade_keeps : (left : ℕ) (f : Fills) (limit size directed : ℕ) (given : Three (List ℕ)) →
      FairSweep side limit ts (prices side ts) size left f → ((c : ℕ) → within 3 c ≡ true → State side roster c (of c ts) d) →
      State side roster c (of c (tables_after side roster ts f (trade limit size directed given)))
      (d ▸ event (trade limit size directed given) (answered (answer side roster ts left f (trade limit size directed given))))
  trade_keeps left f limit size directed given s st =
      let fs : List Fill = of c f in
      let x = st c w in
      let few : length fs ≤ places c =
      let a = few_fills side limit ts size left f s c w in let b = x.0.few in omega arith in
      let cov = covered side limit ts (λ c w. (st c w).0.once) size left f s c w in
      rw (of_less c w f ts, of_blocks c w f) (
        sound_part side roster c (part_less fs (of c ts)) x.0,
        told_less fs (of c ts) (λ h. stands c h d) _ _ _ _ _ _ _ x.0.once cov
            (λ h. rw (fills_in_block (places c) fs few)) (omega arith) x.1,
      )

-- a party's new quote
pub quote_sound : (roster : List ℕ) (side party p s : ℕ) (t : List Interest) → length roster ≤ 16 → listed party roster ≡ true → s ≤ 99999 →
    (eqb s 0 ≡ false → within 999999 p ≡ true) → Sound side roster maker t → Sound side roster maker (quoted side roster party p s t)
quote_sound roster side party p s t r l m v st =
    let t' : List Interest = without party t in
    let st' = sound_part side roster maker (part_without party t) st in
    elim (eqb_tells s 0) [
      | inl z ↦ rw z.0 st'
      | inr z ↦
          let x : Interest = record { holder = party; price = p; left = s } in
          let pp = within_parts 999999 p (v z.0) in
          let s0 : 0 < s = let q = z.1 in omega arith in
          let o = has_without party t st.once in
          let few = as_fewer roster party t' l o st'.once
          (All-weaker (Fit (who maker roster)) (λ (r : Interest). listed r.holder roster ≡ true) (λ r y. y.0) t' st'.fit) in
          rw z.0 (sound_entered side roster maker x t' (l, s0, m, pp.0, pp.1) o (omega arith) st')
    ]

quote_told : (roster : List ℕ) (side party p s : ℕ) (t : List Interest) (st at : ℕ → ℕ) (en fi off : ℕ) → Once (holders_of t) → Told t st at en fi off →
    Told (quoted side roster party p s t) (λ h. cond (eqb h party) s (st h)) (λ h. cond (eqb h party) p (at h)) (en + s) fi (off + left_to party t)
quote_told roster side party p s t st at en fi off o x =
    let y = told_without party t st at en fi off o x in
    elim (eqb_tells s 0) [
      | inl z ↦
          let e = z.1 in
          rw z.0 (told_ext y
          (λ h. rw z.1)
          (λ h q. elim (cases_Bool (eqb h party)) [ inl v ↦ absurd (let q' = rw v at q in omega arith) | inr v ↦ rw v ])
          (omega arith))
      | inr z ↦
          let r : Interest = record { holder = party; price = p; left = s } in
          rw z.0 (told_ext (told_entered (ranks side maker roster) r (without party t) _ _ _ _ _ (has_without party t o) y)
          (λ h. elim (cases_Bool (eqb h party)) [ inl v ↦ rw v | inr v ↦ rw v ])
          (λ h q. refl)
          refl)
    ]

pub quote_keeps : (side : ℕ) (roster : List ℕ) (c : ℕ) → within 3 c ≡ true → (ts : Tables) (d : Day) → length roster ≤ 16 →
    (f : Fills) (party p s a : ℕ) → refusal roster ts (quote party p s) ≡ 0 → a ≡ left_to party ts.makers →
    State side roster c (of c ts) d →
    State side roster c (of c (tables_after side roster ts f (quote party p s))) (d ▸ event (quote party p s) (answered a))
quote_keeps side roster c w ts d few f party p s a e v st =
    rw (of_with c w maker (quoted side roster party p s ts.makers) ts)
    (elim (eqb_tells c maker) [
      | inl q ↦
          let x = quote_allowed roster ts party p s e in
          subst (λ c. State side roster c (of c ts) d →
          State side roster c (cond (eqb c maker) (quoted side roster party p s ts.makers) (of c ts)) (d ▸ event (quote party p s) (answered a)))
          (sym q.1)
          (λ st. rw v (
            quote_sound roster side party p s ts.makers few x.on_roster x.size_ok x.price_ok st.0,
            quote_told roster side party p s ts.makers _ _ _ _ _ st.0.once st.1,
          ))
          st
      | inr q ↦ let st' = rw q.0 at st in rw q.0 (st'.0, told_ext st'.1 (λ h. refl) (λ h z. refl) (omega arith))
    ])
