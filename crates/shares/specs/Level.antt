-- One order at one price: what each class takes of it.
use Rattle.std.specs.Prelude.{ℕ, ◌-◌, List, unwrap_or}
use Rattle.terms.specs.Numbers.{sum}
use Rattle.sharing.specs.Made.{shares_of}
use Rattle.sharing.specs.ProRata.{pro_rata}
use Rattle.sharing.specs.Rule.{Inputs, inputs}
use Rattle.sharing.specs.TimeOrder.{in_time}
use Rattle.sharing.specs.declared.DrawRule.{DrawRule}
use Rattle.shares.specs.Listed.{holders_of, sizes_of}
use Rattle.shares.specs.declared.entries.Entries.{Entries}
use Rattle.shares.specs.declared.order.Order.{Order}

-- what a rule is asked of a class: to share a number of an order's contracts, where 0 is nobody
abbrev pub asks : Entries → Order → (number : ℕ) → Inputs
asks e order number = inputs (holders_of e) (sizes_of e) order.size number (unwrap_or order.directed 0)

-- customers share the order in time order
abbrev pub for_customers : (size : ℕ) → Entries → List ℕ
for_customers size customers = in_time size (sizes_of customers)

-- makers share the rest by the draw rule
abbrev pub for_makers : Order → (rest : ℕ) → DrawRule → Entries → List ℕ
for_makers order rest rule makers = shares_of rule (asks makers order rest)

-- firms share the rest after that, pro rata
abbrev pub for_firms : (rest : ℕ) → Entries → List ℕ
for_firms rest firms = pro_rata rest (sizes_of firms)

-- what is left of a number after shares of it
abbrev pub after : ℕ → List ℕ → ℕ
after number shares = number - sum shares
