-- What comes of an order: the shares of each class, what is left, and the rule afterwards.
use Rattle.std.specs.Prelude.{◌≡◌, ℕ, List, take}
use Rattle.sharing.specs.Made.{next_of}
use Rattle.sharing.specs.declared.DrawRule.{DrawRule}
use Rattle.shares.specs.Level.{after, asks, for_customers, for_makers, for_firms}
use Rattle.shares.specs.Listed.{count}
use Rattle.shares.specs.declared.case.ByClass.{ByClass}
use Rattle.shares.specs.declared.entries.Entries.{Entries}
use Rattle.shares.specs.declared.order.Order.{Order}

pub record Shared (order : Order) (case : ByClass Entries) (rule next : DrawRule) (out : ByClass (List ℕ)) (left : ℕ) : Type 0 where
  pub for_makers_left : ℕ
  pub for_firms_left : ℕ
  pub customers_take : take (count case.customers) out.customers ≡ for_customers order.size case.customers
  pub makers_have : for_makers_left ≡ after order.size (for_customers order.size case.customers)
  pub makers_take : take (count case.makers) out.makers ≡ for_makers order for_makers_left rule case.makers
  pub firms_have : for_firms_left ≡ after for_makers_left (for_makers order for_makers_left rule case.makers)
  pub firms_take : take (count case.firms) out.firms ≡ for_firms for_firms_left case.firms
  pub left_over : left ≡ after for_firms_left (for_firms for_firms_left case.firms)
  pub turn_moves : next ≡ next_of rule (asks case.makers order for_makers_left)
