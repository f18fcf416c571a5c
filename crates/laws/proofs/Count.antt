-- No more fills than records.
use Rattle.std.proofs.Common.{◌≡◌, ℕ, ◌+◌, ◌≤◌, true, false, cond, List, [], ◌∷◌, length, sym, inl, inr, arith}
use Rattle.std.proofs.lemmas.Bool.Decides.{eqb_tells}
use Rattle.std.proofs.lemmas.List.{length-append}
use Rattle.std.proofs.lemmas.Bool.{cases_Bool, eq-eqb, ne_eqb}
use Rattle.terms.specs.Numbers.{listed, within}
use Rattle.kept.specs.Standing.{Interest}
use Rattle.model.specs.Fills.{Fills}
use Rattle.model.specs.Prices.{prices}
use Rattle.model.specs.Tables.{Tables, at_price}
use Rattle.model.specs.Words.{of}
use Rattle.laws.specs.Possible.{FairSweep}
use Rattle.laws.proofs.Classes.{of_none}
use Rattle.laws.proofs.Fills.{length_fills}
use Rattle.laws.proofs.Ladder.{Sorted, prices_sorted, sorted_first}
use Rattle.laws.proofs.Levels.{stage}

abbrev counted : List ℕ → List Interest → ℕ
counted ps [] = 0
counted ps (r ∷ rs) = cond (listed r.price ps) 1 0 + counted ps rs

counted_most : (ps : List ℕ) (t : List Interest) → counted ps t ≤ length t
counted_most ps [] = omega arith
counted_most ps (r ∷ rs) =
    let ih = counted_most ps rs in
    elim (cases_Bool (listed r.price ps)) [ inl e ↦ rw e (omega arith) | inr e ↦ rw e (omega arith) ]

counted_more : (p : ℕ) (ps : List ℕ) (t : List Interest) → listed p ps ≡ false →
    length (at_price p t) + counted ps t ≤ counted (p ∷ ps) t
counted_more p ps [] e = omega arith
counted_more p ps (r ∷ rs) e =
    let ih = counted_more p ps rs e in
    elim (eqb_tells p r.price) [
      | inl w ↦
          let z : listed r.price ps ≡ false = rw (← w.1) e in
          rw (w.0, z, eq-eqb r.price p (sym w.1)) (omega arith)
      | inr w ↦ rw (w.0, ne_eqb r.price p (λ q. w.1 (sym q))) (omega arith)
    ]

count_fills : (side limit : ℕ) (ts : Tables) (ps : List ℕ) (n left : ℕ) (f : Fills) → Sorted side ps →
    FairSweep side limit ts ps n left f → (c : ℕ) → within 3 c ≡ true → length (of c f) ≤ counted ps (of c ts)
count_fills side limit ts [] n left f o s c w = rw (s.no_fills, of_none c w) (omega arith)
count_fills side limit ts (p ∷ ps) n left f o s c w =
    elim (stage side limit ts p ps n left f s) [
      | inl x ↦ rw (x.no_fills, of_none c w) (omega arith)
      | inr x ↦
          let ih = count_fills side limit ts ps x.rest left x.later o.1 x.onward c w in
          let a = counted_more p ps (of c ts) (sorted_first side p ps o) in
          let b = length_fills (at_price p (of c ts)) (of c x.shares) in
          rw (x.made c w, length-append) (omega arith)
    ]

pub few_fills : (side limit : ℕ) (ts : Tables) (n left : ℕ) (f : Fills) → FairSweep side limit ts (prices side ts) n left f →
    (c : ℕ) → within 3 c ≡ true → length (of c f) ≤ length (of c ts)
few_fills side limit ts n left f s c w =
    let a = count_fills side limit ts (prices side ts) n left f (prices_sorted side ts) s c w in
    let b = counted_most (prices side ts) (of c ts) in omega arith
