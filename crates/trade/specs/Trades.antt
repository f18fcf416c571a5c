-- A Trade against the three tables: what it needs of them, and what it leaves in them.
use Rattle.std.specs.Prelude.{◌≡◌, ℕ, ◌-◌, ◌≤◌, Bool, true, List, ◌++◌, map, length, replicate, filter}
use Rattle.terms.specs.Numbers.{distinct, all_within}
use Rattle.blocks.specs.declared.Fill.{Fill}
use Rattle.kept.specs.Inserting.{in_rank}
use Rattle.kept.specs.Kept.{places, standing, behind, SameExtent, StaysSound}
use Rattle.kept.specs.Orders.{order_ranks, no_order, order_shown, order_lower}
use Rattle.kept.specs.Quotes.{quote_ranks, no_quote, quote_shown, quote_lower}
use Rattle.kept.specs.Standing.{Interest}
use Rattle.kept.specs.declared.KeptList.{KeptList}
use Rattle.kept.specs.declared.Tables.{Tables as Held}
use Rattle.model.specs.Fills.{less_all, blocks_of}
use Rattle.model.specs.Prices.{prices}
use Rattle.model.specs.Shown.{tables_shown}
use Rattle.model.specs.Tables.{Tables, holders_of, sizes_of}
use Rattle.model.specs.Trading.{Rule, Swept, sweep}
use Rattle.model.specs.Words.{Blocks}
use Rattle.serving.specs.Stretch.{lower_all}
use Rattle.trade.specs.Compaction.{has_left}
use Rattle.trade.specs.Prices.{by_price}
use Rattle.trade.specs.declared.incoming.Incoming.{Incoming}

-- what a Trade comes to, as the model has it
abbrev pub swept : {S T : Type 0} → Rule S → Rule T → (side : ℕ) → Incoming → Tables → S → T → Swept S T
swept M F side i ts s t = sweep M F side i.limit i.directed ts (prices side ts) i.size s t

-- ---- what it needs ----

-- a row of records that can be traded against: not too many, no holder twice, sizes in range, the best price first
pub record TradableRow {X : Type 0} (shown : X → Interest) (side most : ℕ) (xs : List X) : Type 0 where
  pub few : length xs ≤ most
  pub once : distinct (holders_of (map shown xs)) ≡ true
  pub sized : all_within 99999 (sizes_of (map shown xs)) ≡ true
  pub ranked : in_rank (by_price side) (map shown xs) ≡ true

-- a list with such records: its places are there
pub record Tradable {X : Type 0} (shown : X → Interest) (side most : ℕ) (l : KeptList X) : Type 0 where
  pub inside : l.count ≤ length (places l)
  pub row : TradableRow shown side most (standing l)

-- the blocks have their lengths
pub record FullLength (b : Blocks) : Type 0 where
  pub customers : length b.customers ≡ 130
  pub makers : length b.makers ≡ 34
  pub firms : length b.firms ≡ 130

-- ---- what it leaves ----

-- a list after some fills: each record lowered by what its holder was given, those that have contracts left standing in their order,
-- and the places that the others freed blank before those that were behind; a list that was kept in rank still is
pub record Settles {X : Type 0} (ranks : ℕ → X → X → Bool) (shown : X → Interest) (lower : X → ℕ → X) (blank : X) (fs : List Fill)
    (old new : KeptList X) : Type 0 where
  pub few : new.count ≤ old.count
  pub stand : standing new ≡ filter (has_left shown) (lower_all shown lower fs (standing old))
  pub rest : behind new ≡ replicate (old.count - new.count) blank ++ behind old
  pub same : SameExtent old new
  pub keeps : (side : ℕ) → StaysSound (ranks side) blank old new

-- a Trade over three lists, as x says: the contracts left, the tables, the rules' states and the blocks are those of the model,
-- and every place of every list is known
pub record Traded {S T : Type 0} (x : Swept S T) (before : Held) (n : ℕ) (after : Held) (s' : S) (t' : T) (b : Blocks) : Type 0 where
  pub left : n ≡ x.left
  pub makers_rule : s' ≡ x.makers_next
  pub firms_rule : t' ≡ x.firms_next
  pub tables : tables_shown after ≡ less_all x.given (tables_shown before)
  pub blocks : b ≡ blocks_of x.given
  pub customers : Settles order_ranks order_shown order_lower no_order x.given.customers before.customers after.customers
  pub makers : Settles quote_ranks quote_shown quote_lower no_quote x.given.makers before.makers after.makers
  pub firms : Settles order_ranks order_shown order_lower no_order x.given.firms before.firms after.firms

-- a Trade from the tables `before` and the rules' states s and t
abbrev pub Trades : {S T : Type 0} → Rule S → Rule T → (side : ℕ) → Incoming → (before : Held) → S → T →
    (left : ℕ) → (after : Held) → S → T → Blocks → Type 0
Trades M F side i before s t n after s' t' b = Traded (swept M F side i (tables_shown before) s t) before n after s' t' b
