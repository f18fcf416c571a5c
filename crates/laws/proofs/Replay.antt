-- The customer table replayed from the view alone and from the record alone, and each of the two from the other.
use Rattle.std.proofs.Common.{ℕ, List, []}
use Rattle.blocks.specs.Blocks.{block}
use Rattle.blocks.specs.Reading.{fills_in}
use Rattle.kept.specs.Standing.{Interest}
use Rattle.model.specs.Book.{answer, tables_after}
use Rattle.model.specs.Customers.{Sight, customer_call, trade_parts, with_parts, Entry, call_noted, block_noted, parts_at, best_first}
use Rattle.model.specs.Fills.{less, none}
use Rattle.model.specs.Refusals.{refusal, ending, unless_refused}
use Rattle.model.specs.Tables.{Tables}
use Rattle.model.specs.Words.{Call, enter, reduce, withdraw, quote, trade, tally, Ending, refused, Row, ∅, ◌▸◌}
use Rattle.laws.proofs.Filling.{filled_at}
use Rattle.laws.proofs.Parts.{fills_by}

-- a book with customers alone
abbrev only : List Interest → Tables
only t = record { customers = t; makers = []; firms = [] }

-- how a customer call ends on the customer table, and what it leaves
abbrev pub reply : (side : ℕ) → Call → List Interest → Ending ℕ
reply side (enter class number price size) t =
    ending (refusal [] (only t) (enter class number price size)) (answer side [] (only t) 0 none (enter class number price size))
reply side (reduce class number reduction) t =
    ending (refusal [] (only t) (reduce class number reduction)) (answer side [] (only t) 0 none (reduce class number reduction))
reply side (withdraw class number) t =
    ending (refusal [] (only t) (withdraw class number)) (answer side [] (only t) 0 none (withdraw class number))
reply side (quote party price size) t = refused 0
reply side (trade limit size directed given) t = refused 0
reply side (tally class) t = refused 0

abbrev pub acted : (side : ℕ) → Call → List Interest → List Interest
acted side c t = unless_refused (refusal [] (only t) c) (tables_after side [] (only t) none c).customers t

-- ---- from the view ----

abbrev pub table_from_view : (side : ℕ) → Row Sight → List Interest
table_from_view side ∅ = []
table_from_view side (v ▸ customer_call c) = acted side c (table_from_view side v)
table_from_view side (v ▸ trade_parts xs) = less (fills_by xs (table_from_view side v)) (table_from_view side v)

abbrev pub record_from_view : (side : ℕ) → Row Sight → Row Entry
record_from_view side ∅ = ∅
record_from_view side (v ▸ customer_call c) = record_from_view side v ▸ call_noted c (reply side c (table_from_view side v))
record_from_view side (v ▸ trade_parts xs) = record_from_view side v ▸ block_noted (block 64 (fills_by xs (table_from_view side v)))

-- ---- from the record ----

abbrev pub table_from_record : (side : ℕ) → Row Entry → List Interest
table_from_record side ∅ = []
table_from_record side (r ▸ call_noted c e) = acted side c (table_from_record side r)
table_from_record side (r ▸ block_noted b) = less (fills_in 64 b) (table_from_record side r)

abbrev pub view_from_record : (side : ℕ) → Row Entry → Row Sight
view_from_record side ∅ = ∅
view_from_record side (r ▸ call_noted c e) = view_from_record side r ▸ customer_call c
view_from_record side (r ▸ block_noted b) =
    with_parts (view_from_record side r) (parts_at (λ p. filled_at p (table_from_record side r) (fills_in 64 b)) (best_first side))
