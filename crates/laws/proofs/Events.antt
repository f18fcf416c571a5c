-- What each event of a day shows of customers.
use Rattle.std.proofs.Common.{◌≡◌, ℕ, zero, suc, ◌≤◌, List, length, sym, refl, ap, ◌∙◌, subst, inl, inr, arith}
use Rattle.std.proofs.lemmas.Bool.Decides.{eqb_tells}
use Rattle.blocks.specs.declared.Fill.{Fill}
use Rattle.model.specs.Book.{answer, tables_after}
use Rattle.model.specs.Customers.{with_block, best_first, customer_view, customer_record, customer_parts, customer_part}
use Rattle.model.specs.Fills.{Fills, none}
use Rattle.model.specs.Refusals.{refusal, ending, unless_refused}
use Rattle.model.specs.Tables.{Tables}
use Rattle.model.specs.Words.{Blocks, Call, enter, reduce, withdraw, quote, trade, tally, Traded, Answer, Ending, answered, refused, Event, event, ◌▸◌, Day, customer}
use Rattle.laws.specs.Possible.{Leads}
use Rattle.laws.proofs.Count.{few_fills}
use Rattle.laws.proofs.Filling.{filled_at}
use Rattle.laws.proofs.Parts.{parts_ext}
use Rattle.laws.proofs.Sights.{Replayed, unseen, called, traded}
use Rattle.laws.proofs.Trading.{Held, filled_part, parts_fill}

-- an event that leads on, by whether its call is refused
record Led (side : ℕ) (roster : List ℕ) (b : Tables) (c : Call) (e : Ending (Answer c)) (ts : Tables) : Type 0 where
  pub left : ℕ
  given : Fills
  ends : e ≡ ending (refusal roster b c) (answer side roster b left given c)
  next : ts ≡ unless_refused (refusal roster b c) (tables_after side roster b given c) b

led : (side : ℕ) (roster : List ℕ) (b : Tables) (c : Call) (e : Ending (Answer c)) (ts : Tables) → Leads side roster b (event c e) ts → Led side roster b c e ts
led side roster b c (answered a) ts w =
    record { left = w.left; given = w.given; ends = rw w.not_refused (ap answered w.answers); next = rw w.not_refused w.next }
led side roster b c (refused zero) ts w = absurd (omega (arith, w.above_zero))
led side roster b c (refused (suc k)) ts w = record { left = 0; given = none; ends = rw w.refusal_is refl; next = rw w.refusal_is w.next }

customers_next : (r : ℕ) (ts x b : Tables) → ts ≡ unless_refused r x b → ts.customers ≡ unless_refused r x.customers b.customers
customers_next zero ts x b e = ap (λ (z : Tables). z.customers) e
customers_next (suc r) ts x b e = ap (λ (z : Tables). z.customers) e

customers_stay : (r : ℕ) (ts x b : Tables) → ts ≡ unless_refused r x b → x.customers ≡ b.customers → ts.customers ≡ b.customers
customers_stay zero ts x b e s = ap (λ (z : Tables). z.customers) e ∙ s
customers_stay (suc r) ts x b e s = ap (λ (z : Tables). z.customers) e

-- what an event does to a replayed day
abbrev Step : (side : ℕ) (roster : List ℕ) → Day → Tables → Event → Type 0
Step side roster d b x = (ts : Tables) → Leads side roster b x ts → Replayed side d b → Replayed side (d ▸ x) ts

module _ (side : ℕ) (roster : List ℕ) (d : Day) (b : Tables) where
  -- a call that does not touch customers
  other_shows : (c : Call) (e : Ending (Answer c)) → customer_view side (d ▸ event c e) ≡ customer_view side d →
      customer_record (d ▸ event c e) ≡ customer_record d → ((f : Fills) → (tables_after side roster b f c).customers ≡ b.customers) →
      Step side roster d b (event c e)
  other_shows c e v r t ts w y =
      let l = led side roster b c e ts w in
      unseen side d (d ▸ event c e) b ts v r (customers_stay (refusal roster b c) ts (tables_after side roster b l.given c) b l.next (t l.given)) y

  pub enter_shows : (class number price size : ℕ) (e : Ending ℕ) → Step side roster d b (event (enter class number price size) e)
  enter_shows class number price size e =
      elim (eqb_tells class 1) [
        | inl w ↦ subst (λ k. Step side roster d b (event (enter k number price size) e)) (sym w.1) own
        | inr w ↦ other_shows (enter class number price size) e (rw w.0 refl) (rw w.0 refl) (λ f. rw w.0 refl)
      ]
    where
      own : Step side roster d b (event (enter 1 number price size) e)
      own ts v y =
          let l = led side roster b (enter 1 number price size) e ts v in
          called side d (d ▸ event (enter 1 number price size) e) b ts (enter 1 number price size) e refl refl l.ends
          (customers_next (refusal roster b (enter 1 number price size)) ts _ b l.next) y

  pub reduce_shows : (class number reduction : ℕ) (e : Ending ℕ) → Step side roster d b (event (reduce class number reduction) e)
  reduce_shows class number reduction e =
      elim (eqb_tells class 1) [
        | inl w ↦ subst (λ k. Step side roster d b (event (reduce k number reduction) e)) (sym w.1) own
        | inr w ↦ other_shows (reduce class number reduction) e (rw w.0 refl) (rw w.0 refl) (λ f. rw w.0 refl)
      ]
    where
      own : Step side roster d b (event (reduce 1 number reduction) e)
      own ts v y =
          let l = led side roster b (reduce 1 number reduction) e ts v in
          called side d (d ▸ event (reduce 1 number reduction) e) b ts (reduce 1 number reduction) e refl refl l.ends
          (customers_next (refusal roster b (reduce 1 number reduction)) ts _ b l.next) y

  pub withdraw_shows : (class number : ℕ) (e : Ending ℕ) → Step side roster d b (event (withdraw class number) e)
  withdraw_shows class number e =
      elim (eqb_tells class 1) [
        | inl w ↦ subst (λ k. Step side roster d b (event (withdraw k number) e)) (sym w.1) own
        | inr w ↦ other_shows (withdraw class number) e (rw w.0 refl) (rw w.0 refl) (λ f. rw w.0 refl)
      ]
    where
      own : Step side roster d b (event (withdraw 1 number) e)
      own ts v y =
          let l = led side roster b (withdraw 1 number) e ts v in
          called side d (d ▸ event (withdraw 1 number) e) b ts (withdraw 1 number) e refl refl l.ends
          (customers_next (refusal roster b (withdraw 1 number)) ts _ b l.next) y

  pub quote_shows : (party price size : ℕ) (e : Ending ℕ) → Step side roster d b (event (quote party price size) e)
  quote_shows party price size e = other_shows (quote party price size) e refl refl (λ f. refl)

  pub tally_shows : (class : ℕ) (e : Ending ℕ) → Step side roster d b (event (tally class) e)
  tally_shows class e = other_shows (tally class) e refl refl (λ f. refl)

  pub trade_shows : (limit size directed : ℕ) (given : Blocks) (e : Ending Traded) → Held side roster d b → Step side roster d b (event (trade limit size directed given) e)
  trade_shows limit size directed given (answered a) s ts w y =
      let fs : List Fill = w.given.customers in
      let few : length fs ≤ 64 =
      let a = few_fills side limit b size w.left w.given w.may_fill customer refl in let c = (s customer refl).few in omega arith in
      traded side d (d ▸ event (trade limit size directed given) (answered a)) b ts (customer_parts side limit size d) fs
      refl (ap (λ (x : Traded). with_block (customer_record d) x.blocks.customers) w.answers)
      (parts_fill side roster d b s limit size w.left w.given w.may_fill)
      (parts_ext (λ p. filled_at p b.customers fs) (λ p. customer_part side limit size p d) (best_first side)
      (filled_part side roster d b s limit size w.left w.given w.may_fill))
      few (s customer refl).sizes_in_range
      (ap (λ (z : Tables). z.customers) w.next) y
  trade_shows limit size directed given (refused k) s ts w y =
      unseen side d (d ▸ event (trade limit size directed given) (refused k)) b ts refl refl (ap (λ (z : Tables). z.customers) w.next) y
