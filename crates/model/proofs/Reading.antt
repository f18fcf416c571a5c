-- Numbers read off a day and a customer record, by which two of them are told apart.
use Rattle.std.proofs.Common.{ℕ}
use Rattle.blocks.specs.Reading.{total_in}
use Rattle.model.specs.Customers.{Entry, call_noted, block_noted}
use Rattle.model.specs.Words.{enter, reduce, withdraw, quote, trade, tally, answered, refused, event, Row, ∅, ◌▸◌, Day}

-- what the last call answered, if it was a Tally
abbrev pub last_tally : Day → ℕ
last_tally ∅ = 0
last_tally (d ▸ event (enter class number price size) e) = 0
last_tally (d ▸ event (reduce class number reduction) e) = 0
last_tally (d ▸ event (withdraw class number) e) = 0
last_tally (d ▸ event (quote party price size) e) = 0
last_tally (d ▸ event (trade limit size directed given) e) = 0
last_tally (d ▸ event (tally class) (answered n)) = n
last_tally (d ▸ event (tally class) (refused n)) = 0

-- the contracts of the last entry, if it is a block
abbrev pub last_filled : Row Entry → ℕ
last_filled ∅ = 0
last_filled (r ▸ call_noted call e) = 0
last_filled (r ▸ block_noted b) = total_in b
