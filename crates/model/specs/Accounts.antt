-- The accounts of a class, from the day's events alone: contracts entered, filled and taken off.
use Rattle.std.specs.Prelude.{ℕ, ◌+◌, cond, ◌==◌}
use Rattle.blocks.specs.Reading.{total_in}
use Rattle.model.specs.Words.{maker, of, enter, reduce, withdraw, quote, trade, tally, Traded, answered, refused, event, ∅, ◌▸◌, Day}

-- the total in a carried-out Trade's block of a class
abbrev pub fill_total : (class : ℕ) → Traded → ℕ
fill_total class a = total_in (of class a.blocks)

-- contracts entered by accepted orders and quotes
abbrev pub contracts_entered : (class : ℕ) → Day → ℕ
contracts_entered class ∅ = 0
contracts_entered class (d ▸ event (enter k n price size) (answered a)) = contracts_entered class d + cond (class == k) size 0
contracts_entered class (d ▸ event (reduce k n reduction) (answered a)) = contracts_entered class d
contracts_entered class (d ▸ event (withdraw k n) (answered a)) = contracts_entered class d
contracts_entered class (d ▸ event (quote party price size) (answered a)) = contracts_entered class d + cond (class == maker) size 0
contracts_entered class (d ▸ event (trade limit size directed given) (answered a)) = contracts_entered class d
contracts_entered class (d ▸ event (tally k) (answered a)) = contracts_entered class d
contracts_entered class (d ▸ event call (refused number)) = contracts_entered class d

-- contracts filled by Trades, by the totals of their blocks
abbrev pub contracts_filled : (class : ℕ) → Day → ℕ
contracts_filled class ∅ = 0
contracts_filled class (d ▸ event (enter k n price size) (answered a)) = contracts_filled class d
contracts_filled class (d ▸ event (reduce k n reduction) (answered a)) = contracts_filled class d
contracts_filled class (d ▸ event (withdraw k n) (answered a)) = contracts_filled class d
contracts_filled class (d ▸ event (quote party price size) (answered a)) = contracts_filled class d
contracts_filled class (d ▸ event (trade limit size directed given) (answered a)) = contracts_filled class d + fill_total class a
contracts_filled class (d ▸ event (tally k) (answered a)) = contracts_filled class d
contracts_filled class (d ▸ event call (refused number)) = contracts_filled class d

-- contracts taken off by Reduce, Withdraw and a new Quote, by their numbers and answers
abbrev pub contracts_taken_off : (class : ℕ) → Day → ℕ
contracts_taken_off class ∅ = 0
contracts_taken_off class (d ▸ event (enter k n price size) (answered a)) = contracts_taken_off class d
contracts_taken_off class (d ▸ event (reduce k n reduction) (answered a)) = contracts_taken_off class d + cond (class == k) reduction 0
contracts_taken_off class (d ▸ event (withdraw k n) (answered a)) = contracts_taken_off class d + cond (class == k) a 0
contracts_taken_off class (d ▸ event (quote party price size) (answered a)) = contracts_taken_off class d + cond (class == maker) a 0
contracts_taken_off class (d ▸ event (trade limit size directed given) (answered a)) = contracts_taken_off class d
contracts_taken_off class (d ▸ event (tally k) (answered a)) = contracts_taken_off class d
contracts_taken_off class (d ▸ event call (refused number)) = contracts_taken_off class d
