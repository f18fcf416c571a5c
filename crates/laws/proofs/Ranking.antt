-- Rank order: ranks are total and chained, and order lasts when records are taken out or lowered.
use Rattle.std.proofs.Common.{◌≡◌, ℕ, Bool, true, false, cond, ◌&&◌, ◌||◌, eqb, leb, List, arith}
use Rattle.std.proofs.lemmas.Bool.Decides.{nat_tests}
use Rattle.terms.specs.Numbers.{place}
use Rattle.kept.proofs.Entering.{InRank}
use Rattle.kept.specs.Inserting.{Total, Chained}
use Rattle.kept.specs.Ranked.{better, no_worse}
use Rattle.kept.specs.Standing.{Interest}
use Rattle.model.specs.Tables.{ranks}
use Rattle.model.specs.Words.{maker}
use Rattle.laws.proofs.Changing.{PartOf, empty, leaves, stays, lowers, each_part}

-- rank, by the price and the holder of each of two records
abbrev pub ranked_as : (side class : ℕ) (roster : List ℕ) → (p h q k : ℕ) → Bool
ranked_as side class roster p h q k =
    cond (eqb class maker) (better side p q || (eqb p q && leb (place roster h) (place roster k))) (no_worse side p q)

module _ (side class : ℕ) (roster : List ℕ) where
  -- of two records, one is no worse than the other
  pub ranks_total : Total (ranks side class roster)
  ranks_total x y = total_as (eqb class maker) x.price (place roster x.holder) y.price (place roster y.holder)
    where
      total_as : (b : Bool) (p m q n : ℕ) →
          (cond b (better side p q || (eqb p q && leb m n)) (no_worse side p q) || cond b (better side q p || (eqb q p && leb n m)) (no_worse side q p)) ≡ true
      total_as true p m q n = grind (arith, nat_tests)
      total_as false p m q n = grind (arith, nat_tests)

  -- "no worse" carries along a chain
  pub ranks_chained : Chained (ranks side class roster)
  ranks_chained x y z =
      chained_as (eqb class maker) x.price (place roster x.holder) y.price (place roster y.holder) z.price (place roster z.holder)
    where
      chained_as : (b : Bool) (p m q n r o : ℕ) → cond b (better side p q || (eqb p q && leb m n)) (no_worse side p q) ≡ true →
          cond b (better side q r || (eqb q r && leb n o)) (no_worse side q r) ≡ true → cond b (better side p r || (eqb p r && leb m o)) (no_worse side p r) ≡ true
      chained_as true p m q n r o e f = grind (arith, nat_tests)
      chained_as false p m q n r o e f = grind (arith, nat_tests)

-- an order of records by price and holder outlasts what leaves records out and lowers them
pub in_rank_part : (R : (p h q k : ℕ) → Bool) {s t : List Interest} → PartOf s t →
    InRank (λ x y. R x.price x.holder y.price y.holder) t → InRank (λ x y. R x.price x.holder y.price y.holder) s
in_rank_part R empty g = tt
in_rank_part R (leaves p) g = in_rank_part R p g.1
in_rank_part R (stays {r = r} p) g =
    (each_part (λ y. R r.price r.holder y.price y.holder ≡ true) (λ x n h a b. h) p g.0, in_rank_part R p g.1)
in_rank_part R (lowers {r = r} n a b p) g =
    (each_part (λ y. R r.price r.holder y.price y.holder ≡ true) (λ x n h a b. h) p g.0, in_rank_part R p g.1)
