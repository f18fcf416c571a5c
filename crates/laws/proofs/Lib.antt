-- How the law is proved, from the ground up. Everything is proved of possible days, in which no rule is named; `Days` brings in the rules.
-- numbers and sums
pub mod Lists
pub mod Sums
-- one table, before and after a change
pub mod Changing
pub mod Room
pub mod Lookup
pub mod Totals
pub mod Fills
pub mod Classes
pub mod Ladder
pub mod Ranking
pub mod Sound
-- one Trade, price by price
pub mod Levels
pub mod Count
pub mod Sweeping
-- calls and days: what stands, by arrival, and priority
pub mod Allowed
pub mod Calls
pub mod Keeping
pub mod Arrival
pub mod ByTime
pub mod Priority
pub mod Holding
-- the days of a book under two rules are possible days
pub mod Days
-- customer parts and fills, each from the other
pub mod Holders
pub mod Arriving
pub mod Filling
pub mod Parts
pub mod Trading
-- customer views and records, each from the other
pub mod Replay
pub mod Events
pub mod Sights
pub mod Records
-- the law, and small days
pub mod Whole
pub mod Telling
