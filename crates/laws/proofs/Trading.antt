-- One Trade: its customer fills and its customer parts, each from the other.
use Rattle.std.proofs.Common.{◌≡◌, ℕ, ◌+◌, ◌<◌, ◌≤◌, min, Bool, true, false, cond, eqb, List, [], ◌∷◌, ◌++◌, sym, refl, ap, ◌∙◌, inl, inr, arith}
use Rattle.std.specs.List.{AllByRecursion as All}
use Rattle.std.proofs.ByRecursion.{All-weaker, All-append}
use Rattle.std.proofs.lemmas.Bool.{cases_Bool}
use Rattle.terms.specs.Numbers.{listed, within}
use Rattle.kept.specs.Ranked.{better}
use Rattle.kept.specs.Standing.{Interest}
use Rattle.sharing.specs.TimeOrder.{in_time}
use Rattle.model.specs.Customers.{customer_part, customer_parts, best_first}
use Rattle.model.specs.Fills.{fills, Fills}
use Rattle.model.specs.Prices.{prices}
use Rattle.model.specs.Standing.{standing_at, standing_better}
use Rattle.model.specs.Tables.{Tables, total_at, at_price, sizes_of, holders_of}
use Rattle.model.specs.Words.{customer, maker, firm, Day, of}
use Rattle.laws.specs.Possible.{FairSweep}
use Rattle.laws.specs.Tables.{TableHoldsWhatStands}
use Rattle.laws.proofs.Arriving.{gives, gives_none, flat, flat_ext, ahead, arrives, giving, sweep_gives, time_enough, sizes_at}
use Rattle.laws.proofs.Filling.{filled_at, filled_flat}
use Rattle.laws.proofs.Holders.{stands_where}
use Rattle.laws.proofs.Ladder.{ladder_all, priced_sum, nothing_at, prices_once, prices_sorted, customers_on, makers_on, firms_on}
use Rattle.laws.proofs.Lists.{map_within, distinct_once}
use Rattle.laws.proofs.Parts.{fills_by, fills_by_flat, same_flat, best_first_sorted, best_first_lists}
use Rattle.laws.proofs.Sums.{over, over_one, all_of}

-- what the tables of a possible day have
abbrev pub Held : (side : ℕ) (roster : List ℕ) → Day → Tables → Type 0
Held side roster d ts = (class : ℕ) → within 3 class ≡ true → TableHoldsWhatStands side roster class (of class ts) d

-- prices from 1 to 999,999
priced : (side : ℕ) (roster : List ℕ) (class : ℕ) (t : List Interest) (d : Day) → TableHoldsWhatStands side roster class t d →
    All (λ (r : Interest). (0 < r.price) × (r.price ≤ 999999)) t
priced side roster class t d s = map_within (λ r. r.price) 999999 t s.prices_in_range

over_three : (φ : ℕ → Bool) (a b c : ℕ → ℕ) (ps : List ℕ) →
    over (λ q. cond (φ q) (a q + b q + c q) 0) ps ≡ over (λ q. cond (φ q) (a q) 0) ps + over (λ q. cond (φ q) (b q) 0) ps + over (λ q. cond (φ q) (c q) 0) ps
over_three φ a b c [] = refl
over_three φ a b c (p ∷ ps) =
    let r = over_three φ a b c ps in
    elim (cases_Bool (φ p)) [ inl e ↦ rw e (omega arith) | inr e ↦ rw e (omega arith) ]

-- ---- what the day says arrives, and the customers' part ----

module _ (side : ℕ) (roster : List ℕ) (d : Day) (ts : Tables) (s : Held side roster d ts) where
  ahead_is : (p : ℕ) → standing_better side customer p d + standing_better side maker p d + standing_better side firm p d ≡ ahead side ts p (prices side ts)
  ahead_is p =
      let φ : ℕ → Bool = λ q. better side q p in
      rw (
        stands_where side roster customer φ ts.customers d (s customer refl),
        stands_where side roster maker φ ts.makers d (s maker refl),
        stands_where side roster firm φ ts.firms d (s firm refl),
      )
      (sym (over_three φ (λ q. total_at q ts.customers) (λ q. total_at q ts.makers) (λ q. total_at q ts.firms) (prices side ts)
      ∙ rw (
        priced_sum φ (prices side ts) ts.customers (prices_once side ts) (customers_on side ts),
        priced_sum φ (prices side ts) ts.makers (prices_once side ts) (makers_on side ts),
        priced_sum φ (prices side ts) ts.firms (prices_once side ts) (firms_on side ts),
      ) refl))

  standing_is : (p : ℕ) → standing_at customer p d ≡ total_at p ts.customers
  standing_is p =
      stands_where side roster customer (λ q. eqb p q) ts.customers d (s customer refl)

  pub part_is : (limit size p : ℕ) → customer_part side limit size p d ≡ min (arrives side limit ts (prices side ts) size p) (total_at p ts.customers)
  part_is limit size p = rw (ahead_is p, standing_is p) refl

  -- a price off the ladder has no part
  off_ladder : (limit size p : ℕ) → listed p (prices side ts) ≡ false → customer_part side limit size p d ≡ 0
  off_ladder limit size p e =
      rw (part_is limit size p, nothing_at p (prices side ts) ts.customers (customers_on side ts) e) (omega arith)

  module _ (limit size left : ℕ) (f : Fills) (w : FairSweep side limit ts (prices side ts) size left f) where
    fills_are : f.customers ≡ flat (giving side limit ts (prices side ts) size) (prices side ts)
    fills_are = sweep_gives side limit ts (prices side ts) size left f (prices_sorted side ts) w

    -- the fills come to the part at each price
    pub filled_part : (p : ℕ) → filled_at p ts.customers f.customers ≡ customer_part side limit size p d
    filled_part p =
        ap (filled_at p ts.customers) fills_are
        ∙ filled_flat p ts.customers (arrives side limit ts (prices side ts) size) (prices side ts) (distinct_once (holders_of ts.customers) (s customer refl).once)
        ∙ over_one p (λ q. min (arrives side limit ts (prices side ts) size q) (total_at q ts.customers)) (prices side ts) (prices_once side ts)
        ∙ elim (cases_Bool (listed p (prices side ts))) [
          | inl e ↦ rw e (sym (part_is limit size p))
          | inr e ↦ rw e (sym (off_ladder limit size p e))
        ]

    -- the parts in time order are the fills
    pub parts_fill : fills_by (customer_parts side limit size d) ts.customers ≡ f.customers
    parts_fill =
        fills_by_flat (λ p. customer_part side limit size p d) (best_first side) ts.customers
        ∙ same_flat side (λ p. gives ts.customers p (customer_part side limit size p d)) (best_first side) (prices side ts)
        (prices_sorted side ts) (best_first_sorted side) on_list
        (all_of (λ p. listed p (prices side ts) ≡ false → gives ts.customers p (customer_part side limit size p d) ≡ []) (best_first side) off_list)
        ∙ flat_ext (λ p. gives ts.customers p (customer_part side limit size p d)) (giving side limit ts (prices side ts) size) (prices side ts)
        (all_of (λ p. gives ts.customers p (customer_part side limit size p d) ≡ giving side limit ts (prices side ts) size p) (prices side ts) enough)
        ∙ sym fills_are
      where
        on_list : All (λ p. listed p (best_first side) ≡ true) (prices side ts)
        on_list =
            All-weaker (λ p. (0 < p) × (p ≤ 999999)) (λ p. listed p (best_first side) ≡ true) (λ p b. best_first_lists side p b.0 b.1) (prices side ts)
            (ladder_all (λ p. (0 < p) × (p ≤ 999999)) side (ts.customers ++ (ts.makers ++ ts.firms))
            (All-append _ ts.customers (ts.makers ++ ts.firms) (priced side roster customer ts.customers d (s customer refl))
            (All-append _ ts.makers ts.firms (priced side roster maker ts.makers d (s maker refl)) (priced side roster firm ts.firms d (s firm refl)))))

        off_list : (p : ℕ) → listed p (prices side ts) ≡ false → gives ts.customers p (customer_part side limit size p d) ≡ []
        off_list p e = rw (off_ladder limit size p e) (gives_none ts.customers p)

        enough : (p : ℕ) → gives ts.customers p (customer_part side limit size p d) ≡ giving side limit ts (prices side ts) size p
        enough p =
            ap (gives ts.customers p) (part_is limit size p)
            ∙ ap (fills (at_price p ts.customers))
            (ap (λ x. in_time (min (arrives side limit ts (prices side ts) size p) x) (sizes_of (at_price p ts.customers))) (sym (sizes_at p ts.customers))
            ∙ time_enough (arrives side limit ts (prices side ts) size p) (sizes_of (at_price p ts.customers)))
