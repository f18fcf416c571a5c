-- The tables hold what stands, and the accounts balance.
use Rattle.std.proofs.Common.{◌≡◌, ℕ, Bool, true, eqb, List, inl, inr}
use Rattle.std.proofs.lemmas.Bool.{cases_Bool}
use Rattle.std.specs.List.{AllByRecursion as All}
use Rattle.std.proofs.ByRecursion.{All-weaker}
use Rattle.terms.specs.Numbers.{within, all_within}
use Rattle.kept.proofs.Entering.{to_in_rank}
use Rattle.kept.specs.Standing.{Interest}
use Rattle.model.specs.Make.{Accepted}
use Rattle.model.specs.Tables.{Tables, ranks, total, holders_of, sizes_of}
use Rattle.model.specs.Words.{maker, of, Day, highest}
use Rattle.laws.specs.Law.{AccountsBalance}
use Rattle.laws.specs.Possible.{ComesTo}
use Rattle.laws.specs.Tables.{arrived_first, TableHoldsWhatStands}
use Rattle.laws.proofs.Allowed.{roster_allowed}
use Rattle.laws.proofs.Arrival.{arrival_kept}
use Rattle.laws.proofs.Keeping.{kept}
use Rattle.laws.proofs.Lists.{all_within_map, within_from, listed_within, once_distinct}
use Rattle.laws.proofs.Sound.{Fit, who}

-- the contracts of fit records are within their bound
pub fit_sizes : (P : ℕ → Bool) (t : List Interest) → All (Fit P) t → all_within 99999 (sizes_of t) ≡ true
fit_sizes P t g =
    all_within_map (λ r. r.left) 99999 t
    (All-weaker (Fit P) (λ (r : Interest). within 99999 r.left ≡ true) (λ r x. within_from 99999 r.left x.1 x.2) t g)

module _ (side : ℕ) (roster : List ℕ) (acc : Accepted side roster) (d : Day) (ts : Tables) (x : ComesTo side roster d ts)
    (c : ℕ) (w : within 3 c ≡ true) where
  -- who may stand is numbered
  numbered : (h : ℕ) → who c roster h ≡ true → within (highest c) h ≡ true
  numbered h =
      elim (cases_Bool (eqb c maker)) [
        | inl e ↦ rw e (listed_within 65535 h roster (roster_allowed side roster acc).numbered)
        | inr e ↦ rw e (λ q. q)
      ]

  pub holds : TableHoldsWhatStands side roster c (of c ts) d
  holds =
      let s = kept side roster acc d ts x c w in
      record {
        once = once_distinct (holders_of (of c ts)) s.0.once;
        few = s.0.few;
        holders_in_range = all_within_map (λ r. r.holder) (highest c) (of c ts)
            (All-weaker (Fit (who c roster)) (λ (r : Interest). within (highest c) r.holder ≡ true) (λ r x. numbered r.holder x.0) (of c ts) s.0.fit);
        prices_in_range = all_within_map (λ r. r.price) 999999 (of c ts)
            (All-weaker (Fit (who c roster)) (λ (r : Interest). within 999999 r.price ≡ true)
            (λ r x. within_from 999999 r.price x.3 x.4) (of c ts) s.0.fit);
        sizes_in_range = fit_sizes (who c roster) (of c ts) s.0.fit;
        ranked = to_in_rank (ranks side c roster) (of c ts) s.0.ranked;
        by_arrival = λ m. to_in_rank (arrived_first c d) (of c ts) (arrival_kept side roster acc c w m d ts x);
        contracts = s.1.contracts;
        priced = s.1.priced;
      }

  pub balances : AccountsBalance c (total (of c ts)) d
  balances = (kept side roster acc d ts x c w).1.balanced
