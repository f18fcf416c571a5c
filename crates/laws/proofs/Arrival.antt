-- At equal prices orders stand in the order of their arrival.
use Rattle.std.proofs.Common.{◌≡◌, ℕ, ◌+◌, ◌<◌, ◌≤◌, Bool, true, false, not, ◌||◌, eqb, ltb, List, [], ◌∷◌, sym, refl, inl, inr, arith}
use Rattle.std.specs.List.{AllByRecursion as All}
use Rattle.std.proofs.lemmas.Bool.Decides.{nat_tests, eqb_tells}
use Rattle.std.proofs.lemmas.Bool.{cases_Bool, or_parts, or_right, lt-ltb, eq-eqb, ne_eqb, eqb-false}
use Rattle.terms.specs.Numbers.{within}
use Rattle.kept.proofs.Entering.{InRank, all_entered, entered_further, entered_here}
use Rattle.kept.specs.Inserting.{entered}
use Rattle.kept.specs.Ranked.{better}
use Rattle.kept.specs.Standing.{Interest}
use Rattle.model.specs.Book.{tables_after, cleared}
use Rattle.model.specs.Fills.{Fills}
use Rattle.model.specs.Make.{Accepted}
use Rattle.model.specs.Refusals.{refusal}
use Rattle.model.specs.Standing.{events, arrived}
use Rattle.model.specs.Tables.{with_table, Tables, ranks, has, with_record, quoted}
use Rattle.model.specs.Words.{maker, of, enter, reduce, withdraw, quote, trade, tally, answered, refused, event, ∅, ◌▸◌, Day}
use Rattle.laws.specs.Possible.{ComesTo}
use Rattle.laws.specs.Tables.{arrived_first}
use Rattle.laws.proofs.Allowed.{enter_allowed}
use Rattle.laws.proofs.Changing.{PartOf, part_without, part_less}
use Rattle.laws.proofs.Classes.{of_other, of_with, of_less, by_class}
use Rattle.laws.proofs.Keeping.{kept}
use Rattle.laws.proofs.Ladder.{better_apart}
use Rattle.laws.proofs.Ranking.{in_rank_part}
use Rattle.laws.proofs.Sound.{Sound}
use Rattle.laws.proofs.Sums.{all_of}

-- an order of arrival, for any times of arrival
abbrev pub earlier : (time : ℕ → ℕ) → (x y : Interest) → Bool
earlier time x y = not (eqb x.price y.price) || ltb (time x.holder) (time y.holder)

-- nothing has arrived after the day's last event
arrived_most : (class h : ℕ) (d : Day) → arrived class h d ≤ events d
arrived_most class h ∅ = omega arith
arrived_most class h (d ▸ event call (refused number)) = let a = arrived_most class h d in omega arith
arrived_most class h (d ▸ event (enter k n price size) (answered a)) = let b = arrived_most class h d in grind arith
arrived_most class h (d ▸ event (reduce k n reduction) (answered a)) = let b = arrived_most class h d in omega arith
arrived_most class h (d ▸ event (withdraw k n) (answered a)) = let b = arrived_most class h d in omega arith
arrived_most class h (d ▸ event (quote party price size) (answered a)) = let b = arrived_most class h d in grind arith
arrived_most class h (d ▸ event (trade limit size directed given) (answered a)) = let b = arrived_most class h d in omega arith
arrived_most class h (d ▸ event (tally k) (answered a)) = let b = arrived_most class h d in omega arith

-- an order that does not rank before another has a worse price, and so have all behind it
outranked : (side class : ℕ) (roster : List ℕ) (x r : Interest) → eqb class maker ≡ false → ranks side class roster x r ≡ false →
    better side r.price x.price ≡ true
outranked side class roster x r m e = let e' = rw m at e in grind (arith, nat_tests)

behind_worse : (side class : ℕ) (roster : List ℕ) (r x y : Interest) → eqb class maker ≡ false → better side r.price x.price ≡ true → ranks side class roster x y ≡ true →
    eqb r.price y.price ≡ false
behind_worse side class roster r x y m b e = let e' = rw m at e in grind (arith, nat_tests)

module _ (time time' : ℕ → ℕ) where
  -- a record whose time stays
  abbrev Timed : Interest → Type 0
  Timed x = time' x.holder ≡ time x.holder

  retimed : (x : Interest) (t : List Interest) → Timed x → All Timed t → All (λ y. earlier time x y ≡ true) t → All (λ y. earlier time' x y ≡ true) t
  retimed x [] n a g = tt
  retimed x (y ∷ ys) n a g = (rw (n, a.0) g.0, retimed x ys n a.1 g.1)

  retimed_all : (t : List Interest) → All Timed t → InRank (earlier time) t → InRank (earlier time') t
  retimed_all [] a g = tt
  retimed_all (x ∷ xs) a g = (retimed x xs a.0 a.1 g.0, retimed_all xs a.1 g.1)

  -- a new record that arrives last goes behind all at its price
  module _ (side class : ℕ) (roster : List ℕ) (m : eqb class maker ≡ false) (r : Interest) where
    apart_all : (x : Interest) (t : List Interest) → better side r.price x.price ≡ true → All (λ y. ranks side class roster x y ≡ true) t →
        All (λ y. earlier time' r y ≡ true) t
    apart_all x [] b g = tt
    apart_all x (y ∷ ys) b g = (rw (behind_worse side class roster r x y m b g.0), apart_all x ys b g.1)

    earlier_entered : (t : List Interest) → All Timed t → All (λ (x : Interest). time x.holder < time' r.holder) t → InRank (ranks side class roster) t → InRank (earlier time) t →
        InRank (earlier time') (entered (ranks side class roster) r t)
    earlier_entered [] a l k g = (tt, tt)
    earlier_entered (x ∷ xs) a l k g =
        elim (cases_Bool (ranks side class roster x r)) [
          | inl e ↦
              let n = a.0 in
              let b = l.0 in
              let f : earlier time' x r ≡ true = or_right (not (eqb x.price r.price)) (ltb (time' x.holder) (time' r.holder))
              (lt-ltb (time' x.holder) (time' r.holder) (omega arith)) in
              rw (entered_further (ranks side class roster) r x xs e) (
                all_entered (ranks side class roster) (λ y. earlier time' x y ≡ true) r xs f (retimed x xs a.0 a.1 g.0),
                earlier_entered xs a.1 l.1 k.1 g.1,
              )
          | inr e ↦
              let b = outranked side class roster x r m e in
              let first : eqb r.price x.price ≡ false = ne_eqb r.price x.price (λ z. better_apart side r.price x.price b (sym z)) in
              rw (entered_here (ranks side class roster) r x xs e) ((rw first, apart_all x xs b k.0), retimed_all (x ∷ xs) a g)
        ]

-- when a holder that is not in a table arrives, those in it keep their times
others_timed : (class n p s a : ℕ) (d : Day) (t : List Interest) → has n t ≡ false →
    All (Timed (λ h. arrived class h d) (λ h. arrived class h (d ▸ event (enter class n p s) (answered a)))) t
others_timed class n p s a d [] f = tt
others_timed class n p s a d (x ∷ xs) f =
    let w = or_parts (eqb n x.holder) (has n xs) f in
    (rw (eq-eqb class class refl, ne_eqb x.holder n (λ z. eqb-false n x.holder w.0 (sym z))), others_timed class n p s a d xs w.1)

-- ---- through the day ----

module _ (side : ℕ) (roster : List ℕ) (acc : Accepted side roster) (c : ℕ) (w : within 3 c ≡ true) (m : eqb c maker ≡ false) where
  enter_arrival : (ts : Tables) (d : Day) (k n p s a : ℕ) (f : Fills) → refusal roster ts (enter k n p s) ≡ 0 → Sound side roster c (of c ts) →
      InRank (arrived_first c d) (of c ts) →
      InRank (arrived_first c (d ▸ event (enter k n p s) (answered a))) (of c (tables_after side roster ts f (enter k n p s)))
  enter_arrival ts d k n p s a f e st g =
      rw (of_with c w k (with_record side k roster n p s (of k ts)) ts)
      (elim (eqb_tells c k) [
        | inl q ↦
            let r : Interest = record { holder = n; price = p; left = s } in
            let time : ℕ → ℕ = λ h. arrived c h d in
            let time' : ℕ → ℕ = λ h. arrived c h (d ▸ event (enter c n p s) (answered a)) in
            let fresh : has n (of c ts) ≡ false = rw q.1 (enter_allowed roster ts k n p s e).new in
            let now : time' n ≡ events d + 1 = rw (eq-eqb c c refl, eq-eqb n n refl) in
            let late : (x : Interest) → time x.holder < time' n = λ x. let b = arrived_most c x.holder d in omega arith in
            rw (q.0, ← q.1)
            (earlier_entered time time' side c roster m r (of c ts) (others_timed c n p s a d (of c ts) fresh)
            (all_of (λ (x : Interest). time x.holder < time' n) (of c ts) late) st.ranked g)
        | inr q ↦
            let time : ℕ → ℕ = λ h. arrived c h d in
            let time' : ℕ → ℕ = λ h. arrived c h (d ▸ event (enter k n p s) (answered a)) in
            rw q.0 (retimed_all time time' (of c ts) (all_of (Timed time time') (of c ts) (λ x. rw q.0)) g)
      ])

  -- what leaves records out and lowers them
  part_arrival : (d : Day) {s t : List Interest} → PartOf s t → InRank (arrived_first c d) t → InRank (arrived_first c d) s
  part_arrival d = in_rank_part (λ p h q k. not (eqb p q) || ltb (arrived c h d) (arrived c k d))

  -- one class's table changed by leaving records out and lowering them
  with_arrival : (ts : Tables) (d : Day) (k : ℕ) (t : List Interest) → PartOf t (of k ts) → InRank (arrived_first c d) (of c ts) →
      InRank (arrived_first c d) (of c (with_table k t ts))
  with_arrival ts d k t p g =
      rw (of_with c w k t ts)
      (elim (eqb_tells c k) [
        | inl q ↦ rw q.0 (part_arrival d (rw (← q.1) at p) g)
        | inr q ↦ rw q.0 g
      ])

  pub arrival_kept : (d : Day) (ts : Tables) → ComesTo side roster d ts → InRank (arrived_first c d) (of c ts)
  arrival_kept ∅ ts e = rw e (by_class (λ c. InRank (arrived_first c ∅) (of c cleared)) tt tt tt c w)
  arrival_kept (d ▸ event call (refused n)) ts x = rw x.last.next (arrival_kept d x.before x.earlier)
  arrival_kept (d ▸ event (enter k n p s) (answered a)) ts x =
      rw x.last.next
      (enter_arrival x.before d k n p s a x.last.given x.last.not_refused (kept side roster acc d x.before x.earlier c w).0
      (arrival_kept d x.before x.earlier))
  arrival_kept (d ▸ event (reduce k n red) (answered a)) ts x =
      let b : Tables = x.before in
      rw x.last.next (with_arrival b d k _ (part_less (record { holder = n; contracts = red } ∷ []) (of k b)) (arrival_kept d b x.earlier))
  arrival_kept (d ▸ event (withdraw k n) (answered a)) ts x =
      let b : Tables = x.before in
      rw x.last.next (with_arrival b d k _ (part_without n (of k b)) (arrival_kept d b x.earlier))
  arrival_kept (d ▸ event (quote party p s) (answered a)) ts x =
      let b : Tables = x.before in
      let time : ℕ → ℕ = λ h. arrived c h d in
      let time' : ℕ → ℕ = λ h. arrived c h (d ▸ event (quote party p s) (answered a)) in
      let g = retimed_all time time' (of c b) (all_of (Timed time time') (of c b) (λ x. rw m)) (arrival_kept d b x.earlier) in
      rw (x.last.next, of_other c w maker m (quoted side roster party p s b.makers) b) g
  arrival_kept (d ▸ event (trade limit size directed given) (answered a)) ts x =
      let b : Tables = x.before in
      rw (x.last.next, of_less c w x.last.given b)
      (part_arrival d (part_less (of c x.last.given) (of c b)) (arrival_kept d b x.earlier))
  arrival_kept (d ▸ event (tally k) (answered a)) ts x = rw x.last.next (arrival_kept d x.before x.earlier)
