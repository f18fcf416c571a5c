-- A Trade: price by price, customers first, then makers, then firms.
use Rattle.std.specs.Prelude.{ℕ, ◌-◌, Bool, cond, ◌&&◌, List, [], ◌∷◌, nat_lt}
use Rattle.terms.specs.Numbers.{sum}
use Rattle.kept.specs.Ranked.{no_worse}
use Rattle.kept.specs.Standing.{Interest}
use Rattle.sharing.specs.Rule.{Inputs, inputs}
use Rattle.sharing.specs.TimeOrder.{in_time}
use Rattle.model.specs.Fills.{Fills, none, then_fills, fills_at}
use Rattle.model.specs.Tables.{Tables, holders_of, sizes_of, at_price}

infixr 20 ◌then_swept◌
-- what a sharing rule means, over its own state: one share for each entry, and the next state
pub record Rule (S : Type 0) : Type 0 where
  pub shares : S → Inputs → List ℕ
  pub next : S → Inputs → S

-- a rule from its two parts
abbrev pub rule : {S : Type 0} → (S → Inputs → List ℕ) → (S → Inputs → S) → Rule S
rule shares next = record { shares = shares; next = next }

-- what a Trade comes to: contracts left, fills, the rules' next states
pub record Swept (S T : Type 0) : Type 0 where
  pub left : ℕ
  pub given : Fills
  pub makers_next : S
  pub firms_next : T

-- what a rule is given of the records at a price
abbrev pub asks : List Interest → (arriving number directed : ℕ) → Inputs
asks rs arriving number directed = inputs (holders_of rs) (sizes_of rs) arriving number directed

-- the records at one price
abbrev pub at_level : (price : ℕ) → Tables → Tables
at_level p ts =
    record { customers = at_price p ts.customers; makers = at_price p ts.makers; firms = at_price p ts.firms }

-- a price is reached while it is no worse than the limit and contracts remain
abbrev pub reached : (side limit price n : ℕ) → Bool
reached side limit p n = no_worse side p limit && nat_lt 0 n

-- a Trade that has come to its end with n left
abbrev pub at_end : {S T : Type 0} → (n : ℕ) → S → T → Swept S T
at_end n s t = record { left = n; given = none; makers_next = s; firms_next = t }

-- one price and then the others
abbrev pub ◌then_swept◌ : {S T : Type 0} → Swept S T → Swept S T → Swept S T
x then_swept y =
    record { left = y.left; given = then_fills x.given y.given; makers_next = y.makers_next; firms_next = y.firms_next }

module _ {S T : Type 0} (M : Rule S) (F : Rule T) where
  -- one price, to which n contracts come: customers share them in time order, makers share the rest by M, firms the rest after that by F
  abbrev pub level : (directed : ℕ) → (here : Tables) → (n : ℕ) → S → T → Swept S T
  level directed here n s t =
      let to_customers : List ℕ = in_time n (sizes_of here.customers) in
      let for_makers : Inputs = asks here.makers n (n - sum to_customers) directed in
      let to_makers : List ℕ = M.shares s for_makers in
      let for_firms : Inputs = asks here.firms n (for_makers.number - sum to_makers) directed in
      let to_firms : List ℕ = F.shares t for_firms in
      record {
        left = for_firms.number - sum to_firms;
        given = fills_at here to_customers to_makers to_firms;
        makers_next = M.next s for_makers;
        firms_next = F.next t for_firms;
      }

  -- the prices one after another, while they are reached
  abbrev pub sweep : (side limit directed : ℕ) → Tables → (prices : List ℕ) → (n : ℕ) → S → T → Swept S T
  sweep side limit directed ts [] n s t = at_end n s t
  sweep side limit directed ts (p ∷ ps) n s t =
      let x : Swept S T = level directed (at_level p ts) n s t in
      cond (reached side limit p n)
      (x then_swept sweep side limit directed ts ps x.left x.makers_next x.firms_next)
      (at_end n s t)
