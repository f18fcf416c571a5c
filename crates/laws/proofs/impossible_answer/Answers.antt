use Rattle.std.proofs.Common.{ℕ, List, [], ◌∷◌, refl, arith}
use Rattle.model.specs.Words.{customer, Call, enter, quote}
use Rattle.laws.proofs.Telling.{sample_possible, only_twelve, part_by_tables}
use Rattle.laws.proofs.impossible_answer.Goals as goal

-- the calls before a Trade
abbrev sample_offers : List Call
sample_offers = enter customer 1 110 5 ∷ quote 10 110 15 ∷ quote 20 110 30 ∷ []

abbrev beside : (price size : ℕ) → List Call
beside p n = enter customer 1 110 5 ∷ quote 10 p n ∷ []

pub returns : goal.returns
returns c =
    record {
      possible = sample_possible;
      impossible = λ x. let e = only_twelve 13 x in omega arith;
      parts = rw (part_by_tables sample_offers 110 38 110, part_by_tables sample_offers 110 38 109) refl;
      behind = rw (part_by_tables (beside 110 15) 110 18 110, part_by_tables (beside 110 16) 110 18 110) refl;
      ahead = rw (part_by_tables (beside 109 15) 110 18 110, part_by_tables (beside 109 16) 110 18 110) refl;
    }
