-- Refusals in their order: each call wrong in every way, and then put right one number after another.
use Rattle.std.specs.Prelude.{◌≡◌, ℕ, zero, suc, ◌+◌, List, [], ◌∷◌, map, replicate}
use Rattle.kept.specs.Standing.{Interest}
use Rattle.model.specs.Make.{make_refusal, shut_ends}
use Rattle.model.specs.Refusals.{refusal}
use Rattle.model.specs.Sample.{makers_drawn}
use Rattle.model.specs.Tables.{Tables}
use Rattle.model.specs.Words.{customer, maker, firm, Three, Blocks, Call, enter, reduce, withdraw, quote, trade, tally, refused}

-- orders numbered from 1 on, of 5 contracts each
abbrev pub orders_to : (count : ℕ) → List Interest
orders_to zero = []
orders_to (suc n) = record { holder = suc n; price = 110; left = 5 } ∷ orders_to n

-- all the customers that may stand, and no others
abbrev pub crowded : Tables
crowded = record { customers = orders_to 64; makers = []; firms = [] }

-- the refusals of some calls there; 0 is none
abbrev pub refusals : List Call → List ℕ
refusals = map (refusal makers_drawn crowded)

-- blocks of these lengths
abbrev pub rows : (customers makers firms : ℕ) → Blocks
rows a b c = record { customers = replicate a 0; makers = replicate b 0; firms = replicate c 0 }

abbrev pub lengths : (customers makers firms : ℕ) → Three ℕ
lengths a b c = record { customers = a; makers = b; firms = c }

-- so many parties, numbered from n on
abbrev pub parties_from : (count n : ℕ) → List ℕ
parties_from zero n = []
parties_from (suc k) n = n ∷ parties_from k (n + 1)

-- the refusals of each call, and that of every call to a shut book
pub record RefusedInOrder (shut : ℕ) : Type 0 where
  pub enters : refusals (
      enter maker 0 0 0 ∷ enter customer 0 0 0 ∷ enter customer 1000000 0 0 ∷ enter customer 1 0 0 ∷ enter customer 1 1000000 0
      ∷ enter customer 1 110 0 ∷ enter customer 1 110 100000 ∷ enter customer 1 110 99999 ∷ enter customer 65 110 5
      ∷ enter firm 999999 999999 99999 ∷ [])
      ≡ 7 ∷ 8 ∷ 8 ∷ 9 ∷ 9 ∷ 10 ∷ 10 ∷ 11 ∷ 12 ∷ 0 ∷ []
  pub reduces : refusals (
      reduce maker 0 0 ∷ reduce customer 0 0 ∷ reduce customer 65 0 ∷ reduce customer 65 100000 ∷ reduce customer 65 6 ∷ reduce customer 64 6
      ∷ reduce customer 64 5 ∷ [])
      ≡ 7 ∷ 8 ∷ 10 ∷ 10 ∷ 13 ∷ 14 ∷ 0 ∷ []
  pub withdraws : refusals (withdraw maker 0 ∷ withdraw firm 0 ∷ withdraw firm 1 ∷ withdraw customer 1 ∷ []) ≡ 7 ∷ 8 ∷ 13 ∷ 0 ∷ []
  pub quotes : refusals (quote 11 0 100000 ∷ quote 10 0 100000 ∷ quote 10 0 1 ∷ quote 10 1000000 1 ∷ quote 10 0 0 ∷ quote 10 999999 99999 ∷ [])
      ≡ 15 ∷ 10 ∷ 9 ∷ 9 ∷ 0 ∷ 0 ∷ []
  pub trades : refusals (
      trade 0 0 11 (rows 0 0 0) ∷ trade 1000000 0 11 (rows 0 0 0) ∷ trade 110 0 11 (rows 0 0 0) ∷ trade 110 1000000 11 (rows 0 0 0)
      ∷ trade 110 38 11 (rows 0 0 0) ∷ trade 110 38 10 (rows 34 34 130) ∷ trade 110 38 10 (rows 130 130 130) ∷ trade 110 38 10 (rows 130 34 34)
      ∷ trade 110 38 10 (rows 130 34 130) ∷ trade 999999 999999 0 (rows 130 34 130) ∷ [])
      ≡ 9 ∷ 9 ∷ 10 ∷ 10 ∷ 15 ∷ 16 ∷ 16 ∷ 16 ∷ 0 ∷ 0 ∷ []
  pub tallies : refusals (tally 0 ∷ tally 4 ∷ tally customer ∷ tally maker ∷ tally firm ∷ []) ≡ 7 ∷ 7 ∷ 0 ∷ 0 ∷ 0 ∷ []
  pub makes : ◌≡◌ {A = List ℕ} (
      make_refusal 3 (parties_from 17 0) 9 (lengths 0 0 0) ∷ make_refusal 1 (parties_from 17 0) 99 (lengths 0 0 0)
      ∷ make_refusal 1 (parties_from 16 0) 99 (lengths 0 0 0) ∷ make_refusal 1 (65536 ∷ []) 99 (lengths 0 0 0)
      ∷ make_refusal 1 (5 ∷ 5 ∷ []) 99 (lengths 0 0 0) ∷ make_refusal 1 (parties_from 16 1) 99 (lengths 0 0 0)
      ∷ make_refusal 1 (parties_from 16 1) 16 (lengths 63 16 64) ∷ make_refusal 1 (parties_from 16 1) 16 (lengths 64 15 64)
      ∷ make_refusal 1 (parties_from 16 1) 16 (lengths 64 16 63) ∷ make_refusal 1 (parties_from 16 1) 16 (lengths 64 16 64)
      ∷ make_refusal 2 [] 0 (lengths 100 100 100) ∷ [])
      (2 ∷ 3 ∷ 4 ∷ 4 ∷ 4 ∷ 5 ∷ 6 ∷ 6 ∷ 6 ∷ 0 ∷ 0 ∷ [])
  pub while_shut : (call : Call) → shut_ends call ≡ refused shut
