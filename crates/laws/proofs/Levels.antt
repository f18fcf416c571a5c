-- One price of a Trade: the shares of the three classes there.
use Rattle.std.proofs.Common.{◌≡◌, ℕ, ◌-◌, ◌<◌, ◌≤◌, true, ltb, ◌⊎◌, List, [], ◌∷◌, ◌++◌, inl, inr, arith}
use Rattle.std.proofs.lemmas.Bool.{cases_Bool, and_parts, ltb-true}
use Rattle.terms.specs.Numbers.{sum, within}
use Rattle.kept.specs.Ranked.{no_worse}
use Rattle.sharing.specs.InTime.{time_fair}
use Rattle.sharing.specs.Rule.{EachWithin, Fair}
use Rattle.sharing.specs.TimeOrder.{in_time}
use Rattle.model.specs.Fills.{fills, Fills, none}
use Rattle.model.specs.Tables.{Tables, at_price, sizes_of}
use Rattle.model.specs.Trading.{reached, at_level}
use Rattle.model.specs.Words.{Three, of}
use Rattle.laws.specs.Possible.{FairSweep, Stops, SharedAtPrice, customers_take}
use Rattle.laws.proofs.Classes.{by_class, of_then, of_level, of_fills}

-- the shares at one price: inside the sizes, class after class, and with something left only when all is used
pub record Level (here : Tables) (sh : Three (List ℕ)) (rest : ℕ) : Type 0 where
  pub inside : (c : ℕ) → within 3 c ≡ true → EachWithin (of c sh) (sizes_of (of c here))
  pub in_turn : (b c : ℕ) → within 3 b ≡ true → within 3 c ≡ true → b < c → 0 < sum (of c sh) → sum (sizes_of (of b here)) ≤ sum (of b sh)
  pub used : 0 < rest → (c : ℕ) → within 3 c ≡ true → sum (sizes_of (of c here)) ≤ sum (of c sh)

level_of : (here : Tables) (n : ℕ) (m q : List ℕ) →
    Fair (n - sum (in_time n (sizes_of here.customers))) (sizes_of here.makers) m →
    Fair (n - sum (in_time n (sizes_of here.customers)) - sum m) (sizes_of here.firms) q →
    Level here (record { customers = in_time n (sizes_of here.customers); makers = m; firms = q })
    (n - sum (in_time n (sizes_of here.customers)) - sum m - sum q)
level_of here n m q a b =
    let sh : Three (List ℕ) = record { customers = in_time n (sizes_of here.customers); makers = m; firms = q } in
    let c = time_fair n (sizes_of here.customers) in
    let t = c.adds_up in
    let x = a.adds_up in
    let y = b.adds_up in
    record {
      inside = by_class (λ c. EachWithin (of c sh) (sizes_of (of c here))) c.inside a.inside b.inside;
      in_turn = λ b c v w.
          by_class (λ b. b < c → 0 < sum (of c sh) → sum (sizes_of (of b here)) ≤ sum (of b sh))
          (by_class (λ c. 1 < c → 0 < sum (of c sh) → sum (sizes_of here.customers) ≤ sum sh.customers)
          (λ l p. absurd (omega arith)) (λ l p. omega arith) (λ l p. omega arith) c w)
          (by_class (λ c. 2 < c → 0 < sum (of c sh) → sum (sizes_of here.makers) ≤ sum m)
          (λ l p. absurd (omega arith)) (λ l p. absurd (omega arith)) (λ l p. omega arith) c w)
          (by_class (λ c. 3 < c → 0 < sum (of c sh) → sum (sizes_of here.firms) ≤ sum q)
          (λ l p. absurd (omega arith)) (λ l p. absurd (omega arith)) (λ l p. absurd (omega arith)) c w)
          b v;
      used = λ r. by_class (λ c. sum (sizes_of (of c here)) ≤ sum (of c sh)) (omega arith) (omega arith) (omega arith);
    }

-- one price of the way, and the way from there
pub record Stage (side limit : ℕ) (ts : Tables) (p : ℕ) (ps : List ℕ) (n left : ℕ) (f : Fills) : Type 0 where
  pub shares : Three (List ℕ)
  pub rest : ℕ
  pub later : Fills
  pub some : 0 < n
  pub level : Level (at_level p ts) shares rest
  pub onward : FairSweep side limit ts ps rest left later
  pub made : (c : ℕ) → within 3 c ≡ true → of c f ≡ fills (at_price p (of c ts)) (of c shares) ++ of c later

stage_of : (side limit : ℕ) (ts : Tables) (p : ℕ) (ps : List ℕ) (n left : ℕ) (f : Fills) → 0 < n →
    SharedAtPrice (at_level p ts) n (λ rest later. FairSweep side limit ts ps rest left later) f → Stage side limit ts p ps n left f
stage_of side limit ts p ps n left f some x =
    let here : Tables = at_level p ts in
    let c : List ℕ = customers_take here n in
    let m : List ℕ = x.makers_shares in
    let q : List ℕ = x.firms_shares in
    let sh : Three (List ℕ) = record { customers = c; makers = m; firms = q } in
    record {
      shares = sh;
      rest = n - sum c - sum m - sum q;
      later = x.later;
      some = some;
      level = level_of here n m q x.makers_fair x.firms_fair;
      onward = x.onward;
      made = λ k w. rw (x.filled, of_then k w, of_fills k w here sh, of_level k w);
    }

pub stage : (side limit : ℕ) (ts : Tables) (p : ℕ) (ps : List ℕ) (n left : ℕ) (f : Fills) →
    FairSweep side limit ts (p ∷ ps) n left f → Stops n left f ⊎ Stage side limit ts p ps n left f
stage side limit ts p ps n left f s =
    elim (cases_Bool (reached side limit p n)) [
      | inl e ↦
          inr (stage_of side limit ts p ps n left f (ltb-true 0 n (and_parts (no_worse side p limit) (ltb 0 n) e).1) (rw e at s))
      | inr e ↦ inl (rw e at s)
    ]

-- nothing is given of nothing
pub idle : (side limit : ℕ) (ts : Tables) (ps : List ℕ) (left : ℕ) (f : Fills) → FairSweep side limit ts ps 0 left f → f ≡ none
idle side limit ts [] left f s = s.no_fills
idle side limit ts (p ∷ ps) left f s =
    elim (stage side limit ts p ps 0 left f s) [ inl x ↦ x.no_fills | inr x ↦ let y = x.some in absurd (omega arith) ]
