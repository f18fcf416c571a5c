-- Priority: at every Trade customers come before makers, makers before firms, earlier customers before later ones, and better prices before worse ones.
use Rattle.std.specs.Prelude.{◌≡◌, ℕ, ◌<◌, true, ◌≢◌}
use Rattle.terms.specs.Numbers.{within}
use Rattle.kept.specs.Ranked.{better}
use Rattle.model.specs.Standing.{arrived, fill_of, stands, stood_at}
use Rattle.model.specs.Words.{customer, maker, firm, enter, reduce, withdraw, quote, trade, tally, Traded, answered, refused, event, ∅, ◌▸◌, Day}

-- a Trade filled a holder of this class that stood at this price
pub record FilledAt (class price : ℕ) (before : Day) (a : Traded) : Type 0 where
  pub holder : ℕ
  pub filled : 0 < fill_of class holder a
  pub at : stood_at class holder before ≡ price

-- a holder of this class has contracts standing at this price
pub record StandsAt (class price : ℕ) (now : Day) : Type 0 where
  pub holder : ℕ
  pub standing : 0 < stands class holder now
  pub at : stood_at class holder now ≡ price

-- where a Trade filled somebody, nobody that comes before is left standing: at a price customers before makers before firms, and customers
-- by arrival; and everybody at a better price
pub record PriorityAtTrade (side : ℕ) (before now : Day) (a : Traded) : Type 0 where
  pub customers_before_makers : (p : ℕ) → FilledAt maker p before a → StandsAt customer p now → ⊥
  pub customers_before_firms : (p : ℕ) → FilledAt firm p before a → StandsAt customer p now → ⊥
  pub makers_before_firms : (p : ℕ) → FilledAt firm p before a → StandsAt maker p now → ⊥
  pub earlier_customers_first : (p : ℕ) (x : FilledAt customer p before a) (y : StandsAt customer p now) →
      arrived customer y.holder before < arrived customer x.holder before → ⊥
  pub better_prices_first : (class class' p q : ℕ) → within 3 class ≡ true → within 3 class' ≡ true →
      FilledAt class p before a → StandsAt class' q now → better side q p ≢ true

-- the same at every carried-out Trade of a day
abbrev pub PriorityKept : (side : ℕ) → Day → Type 0
PriorityKept side ∅ = Unit {0}
PriorityKept side (d ▸ event (enter class number price size) e) = PriorityKept side d
PriorityKept side (d ▸ event (reduce class number reduction) e) = PriorityKept side d
PriorityKept side (d ▸ event (withdraw class number) e) = PriorityKept side d
PriorityKept side (d ▸ event (quote party price size) e) = PriorityKept side d
PriorityKept side (d ▸ event (trade limit size directed given) (answered a)) =
    PriorityKept side d × PriorityAtTrade side d (d ▸ event (trade limit size directed given) (answered a)) a
PriorityKept side (d ▸ event (trade limit size directed given) (refused number)) = PriorityKept side d
PriorityKept side (d ▸ event (tally class) e) = PriorityKept side d
