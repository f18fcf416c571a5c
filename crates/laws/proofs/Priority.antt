-- Priority: what a Trade that ends has left standing.
use Rattle.std.proofs.Common.{◌≡◌, ℕ, ◌-◌, ◌<◌, ◌≤◌, true, List, length, sym, refl, ap, ◌∙◌, subst, inl, inr, arith}
use Rattle.terms.specs.Numbers.{within}
use Rattle.blocks.proofs.Parts.{fills_in_block}
use Rattle.kept.proofs.Entering.{InRank}
use Rattle.kept.specs.Ranked.{better}
use Rattle.kept.specs.Standing.{Interest}
use Rattle.model.specs.Book.{answer}
use Rattle.model.specs.Fills.{given_to, Fills}
use Rattle.model.specs.Make.{Accepted}
use Rattle.model.specs.Prices.{prices}
use Rattle.model.specs.Standing.{fill_of, stands, arrived}
use Rattle.model.specs.Tables.{Tables, left_to, price_of}
use Rattle.model.specs.Words.{places, customer, maker, firm, Three, of, enter, reduce, withdraw, quote, trade, tally, Traded, answered, refused, event, ∅, ◌▸◌, Day}
use Rattle.laws.specs.Possible.{FairSweep, ComesTo}
use Rattle.laws.specs.Priority.{FilledAt, StandsAt, PriorityAtTrade, PriorityKept}
use Rattle.laws.specs.Tables.{arrived_first}
use Rattle.laws.proofs.Arrival.{arrival_kept}
use Rattle.laws.proofs.Arriving.{arrives, sweep_gives}
use Rattle.laws.proofs.ByTime.{given_at, by_time}
use Rattle.laws.proofs.Calls.{State}
use Rattle.laws.proofs.Classes.{of_blocks}
use Rattle.laws.proofs.Count.{few_fills}
use Rattle.laws.proofs.Keeping.{kept}
use Rattle.laws.proofs.Ladder.{prices_once, prices_sorted}
use Rattle.laws.proofs.Lookup.{left_has}
use Rattle.laws.proofs.Sweeping.{covered, in_turn_all, price_listed}

module _ (side : ℕ) (roster : List ℕ) (ts : Tables) (d : Day) (st : (c : ℕ) → within 3 c ≡ true → State side roster c (of c ts) d)
    (limit size directed : ℕ) (given : Three (List ℕ)) (left : ℕ) (f : Fills)
    (s : FairSweep side limit ts (prices side ts) size left f) where
  abbrev ended : Traded
  ended = answer side roster ts left f (trade limit size directed given)

  -- the fills are read from the block as they were given
  fill_is : (c : ℕ) → within 3 c ≡ true → (h : ℕ) → fill_of c h ended ≡ given_to h (of c f)
  fill_is c w h =
      let a = few_fills side limit ts size left f s c w in
      let b = (st c w).0.few in
      let few : length (of c f) ≤ places c = omega arith in
      rw (of_blocks c w f, fills_in_block (places c) (of c f) few)

  -- one that was filled, in the tables
  found : (c : ℕ) → within 3 c ≡ true → (p : ℕ) (x : FilledAt c p d ended) →
      (0 < given_to x.holder (of c f)) × (price_of x.holder (of c ts) ≡ p)
  found c w p x =
      let a = fill_is c w x.holder in
      let g = x.filled in
      let b = covered side limit ts (λ c w. (st c w).0.once) size left f s c w x.holder in
      let e = (st c w).1.contracts x.holder in
      (omega arith, (st c w).1.priced x.holder (omega arith) ∙ x.at)

  -- one that is left standing, in the tables
  remains : (b : ℕ) → within 3 b ≡ true → (q : ℕ) (x : StandsAt b q (d ▸ event (trade limit size directed given) (answered ended))) →
      (given_to x.holder (of b f) < left_to x.holder (of b ts)) × (price_of x.holder (of b ts) ≡ q)
  remains b w q x =
      let a = fill_is b w x.holder in
      let g : 0 < stands b x.holder d - fill_of b x.holder ended = x.standing in
      let e = (st b w).1.contracts x.holder in
      (omega arith, (st b w).1.priced x.holder (omega arith) ∙ x.at)

  -- nobody ahead is left
  turn_kept : (c b : ℕ) → within 3 c ≡ true → within 3 b ≡ true → b < c → (p : ℕ) → FilledAt c p d ended →
      StandsAt b p (d ▸ event (trade limit size directed given) (answered ended)) → ⊥
  turn_kept c b w v l p x y =
      let m = found c w p x in
      let r = remains b v p y in
      let z = in_turn_all side limit ts (λ c w. (st c w).0.once) (prices side ts) size left f (prices_sorted side ts) s c b w v x.holder y.holder m.0
      (inr (r.1 ∙ sym m.1, l)) in
      let u = r.0 in
      omega arith

  price_kept : (c b p q : ℕ) → within 3 c ≡ true → within 3 b ≡ true → FilledAt c p d ended →
      StandsAt b q (d ▸ event (trade limit size directed given) (answered ended)) → better side q p ≡ true → ⊥
  price_kept c b p q w v x y e =
      let m = found c w p x in
      let r = remains b v q y in
      let u = r.0 in
      let z = in_turn_all side limit ts (λ c w. (st c w).0.once) (prices side ts) size left f (prices_sorted side ts) s c b w v x.holder y.holder m.0
      (inl (price_listed side ts b v y.holder (left_has y.holder (of b ts) (omega arith)), rw (r.1, m.1) e)) in
      omega arith

  -- customers at a price by their arrival
  time_kept : InRank (arrived_first customer d) ts.customers → (p : ℕ) (x : FilledAt customer p d ended)
      (y : StandsAt customer p (d ▸ event (trade limit size directed given) (answered ended))) →
      arrived customer y.holder d < arrived customer x.holder d → ⊥
  time_kept rank p x y l =
      let t : List Interest = ts.customers in
      let ps : List ℕ = prices side ts in
      let a : ℕ → ℕ = arrives side limit ts ps size in
      let o = (st customer refl).0.once in
      let is = sweep_gives side limit ts ps size left f (prices_sorted side ts) s in
      let m = found customer refl p x in
      let r = remains customer refl p y in
      let c = covered side limit ts (λ c w. (st c w).0.once) size left f s customer refl x.holder in
      let gx = ap (given_to x.holder) is
      ∙ given_at t o x.holder a ps (prices_once side ts) (price_listed side ts customer refl x.holder (left_has x.holder t (let g = m.0 in omega arith))) in
      let gy = ap (given_to y.holder) is
      ∙ given_at t o y.holder a ps (prices_once side ts) (price_listed side ts customer refl y.holder (left_has y.holder t (let g = r.0 in omega arith))) in
      let gx' = rw m.1 at gx in
      let gy' = rw r.1 at gy in
      let g = m.0 in
      let z = by_time (λ h. arrived customer h d) t o rank p (a p) x.holder y.holder r.1 l (omega arith) in
      let u = r.0 in
      omega arith

  trade_in_priority : InRank (arrived_first customer d) ts.customers → PriorityAtTrade side d (d ▸ event (trade limit size directed given) (answered ended)) ended
  trade_in_priority rank =
      record {
        customers_before_makers = turn_kept maker customer refl refl (omega arith);
        customers_before_firms = turn_kept firm customer refl refl (omega arith);
        makers_before_firms = turn_kept firm maker refl refl (omega arith);
        earlier_customers_first = time_kept rank;
        better_prices_first = price_kept;
      }

pub priority_kept : (side : ℕ) (roster : List ℕ) → Accepted side roster → (d : Day) (ts : Tables) → ComesTo side roster d ts → PriorityKept side d
priority_kept side roster acc ∅ ts x = tt
priority_kept side roster acc (d ▸ event (enter k n p s) e) ts x = priority_kept side roster acc d x.before x.earlier
priority_kept side roster acc (d ▸ event (reduce k n red) e) ts x = priority_kept side roster acc d x.before x.earlier
priority_kept side roster acc (d ▸ event (withdraw k n) e) ts x = priority_kept side roster acc d x.before x.earlier
priority_kept side roster acc (d ▸ event (quote party p s) e) ts x = priority_kept side roster acc d x.before x.earlier
priority_kept side roster acc (d ▸ event (trade limit size directed given) (answered a)) ts x =
    let y = x.last in (
      priority_kept side roster acc d x.before x.earlier,
      subst (λ a. PriorityAtTrade side d (d ▸ event (trade limit size directed given) (answered a)) a) (sym y.answers)
          (trade_in_priority side roster x.before d (kept side roster acc d x.before x.earlier) limit size directed given y.left y.given y.may_fill
          (arrival_kept side roster acc customer refl refl d x.before x.earlier)),
    )
priority_kept side roster acc (d ▸ event (trade limit size directed given) (refused n)) ts x = priority_kept side roster acc d x.before x.earlier
priority_kept side roster acc (d ▸ event (tally k) e) ts x = priority_kept side roster acc d x.before x.earlier
