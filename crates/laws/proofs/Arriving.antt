-- A Trade's customer fills, price by price, from what arrives at each price.
use Rattle.std.proofs.Common.{◌≡◌, ℕ, ◌+◌, ◌-◌, min, true, false, cond, ◌⊎◌, List, [], ◌∷◌, ◌++◌, sym, refl, ap, ◌∙◌, inl, inr, arith}
use Rattle.std.specs.List.{AllByRecursion as All}
use Rattle.std.proofs.ByRecursion.{All-weaker}
use Rattle.std.proofs.lemmas.Bool.Decides.{nat_tests}
use Rattle.std.proofs.lemmas.Bool.{cases_Bool}
use Rattle.terms.specs.Numbers.{sum}
use Rattle.blocks.specs.declared.Fill.{Fill}
use Rattle.kept.specs.Ranked.{better, no_worse}
use Rattle.kept.specs.Standing.{Interest}
use Rattle.sharing.specs.InTime.{time_fair}
use Rattle.sharing.specs.Rule.{Fair}
use Rattle.sharing.specs.TimeOrder.{in_time}
use Rattle.model.specs.Fills.{fills, Fills}
use Rattle.model.specs.Tables.{Tables, total_at, at_price, sizes_of}
use Rattle.model.specs.Trading.{reached, at_level}
use Rattle.laws.specs.Possible.{FairSweep, SharedAtPrice, customers_take}
use Rattle.laws.proofs.Ladder.{Sorted, better_not_self, better_trans, better_not_back}
use Rattle.laws.proofs.Sums.{over, over_none}

-- ---- shares in time order ----

-- what is more than all sizes is not needed
pub time_enough : (n : ℕ) (sizes : List ℕ) → in_time (min n (sum sizes)) sizes ≡ in_time n sizes
time_enough n [] = refl
time_enough n (size ∷ sizes) =
    let a : min size (min n (size + sum sizes)) ≡ min size n = omega arith in
    let b : min n (size + sum sizes) - min size n ≡ min (n - min size n) (sum sizes) = omega arith in
    rw (a, b, time_enough (n - min size n) sizes) refl

pub sizes_at : (p : ℕ) (t : List Interest) → sum (sizes_of (at_price p t)) ≡ total_at p t
sizes_at p [] = refl
sizes_at p (r ∷ rs) = let a = sizes_at p rs in grind arith

-- ---- fills in time order at one price, and price by price ----

abbrev pub gives : List Interest → (price number : ℕ) → List Fill
gives t p n = fills (at_price p t) (in_time n (sizes_of (at_price p t)))

abbrev pub flat : (ℕ → List Fill) → List ℕ → List Fill
flat g [] = []
flat g (p ∷ ps) = g p ++ flat g ps

pub flat_ext : (f g : ℕ → List Fill) (ps : List ℕ) → All (λ p. f p ≡ g p) ps → flat f ps ≡ flat g ps
flat_ext f g [] e = refl
flat_ext f g (p ∷ ps) e = rw (e.0, flat_ext f g ps e.1) refl

pub flat_none : (f : ℕ → List Fill) (ps : List ℕ) → All (λ p. f p ≡ []) ps → flat f ps ≡ []
flat_none f [] e = refl
flat_none f (p ∷ ps) e = rw (e.0, flat_none f ps e.1) refl

pub time_none : (rs : List Interest) → fills rs (in_time 0 (sizes_of rs)) ≡ []
time_none [] = refl
time_none (r ∷ rs) =
    let a : min r.left 0 ≡ 0 = omega arith in
    rw (a, time_none rs) refl

pub gives_none : (t : List Interest) (p : ℕ) → gives t p 0 ≡ []
gives_none t p = time_none (at_price p t)

-- ---- what arrives ----

-- contracts of all classes at a price
abbrev all_at : Tables → ℕ → ℕ
all_at ts p = total_at p ts.customers + total_at p ts.makers + total_at p ts.firms

-- contracts of all classes at better prices, of some prices
abbrev pub ahead : (side : ℕ) → Tables → (price : ℕ) → List ℕ → ℕ
ahead side ts p ps = over (λ q. cond (better side q p) (all_at ts q) 0) ps

abbrev pub arrives : (side limit : ℕ) → Tables → List ℕ → (n price : ℕ) → ℕ
arrives side limit ts ps n p = cond (no_worse side p limit) (n - ahead side ts p ps) 0

-- what one price leaves
level_leaves : (n : ℕ) (cs ms fs m q : List ℕ) → Fair (n - sum (in_time n cs)) ms m → Fair (n - sum (in_time n cs) - sum m) fs q →
    n - sum (in_time n cs) - sum m - sum q ≡ n - (sum cs + sum ms + sum fs)
level_leaves n cs ms fs m q a b = omega (arith, (time_fair n cs).adds_up, a.adds_up, b.adds_up)

-- nothing is ahead of the best price
ahead_first : (side : ℕ) (ts : Tables) (p : ℕ) (ps : List ℕ) → All (λ q. better side p q ≡ true) ps → ahead side ts p (p ∷ ps) ≡ 0
ahead_first side ts p ps a =
    rw (
      better_not_self side p,
      over_none (λ q. cond (better side q p) (all_at ts q) 0) ps
          (All-weaker (λ q. better side p q ≡ true) (λ q. cond (better side q p) (all_at ts q) 0 ≡ 0) (λ q b. rw (better_not_back side p q b) refl) ps a),
    ) refl

-- the best price is ahead of the others
ahead_later : (side limit : ℕ) (ts : Tables) (p n k q : ℕ) (ps : List ℕ) → k ≡ n - all_at ts p → better side p q ≡ true →
    arrives side limit ts (p ∷ ps) n q ≡ arrives side limit ts ps k q
ahead_later side limit ts p n k q ps e b = grind arith

-- past the limit, or with nothing left, nothing arrives
arrives_none : (side limit : ℕ) (ts : Tables) (ps : List ℕ) (n p q : ℕ) → reached side limit p n ≡ false → (q ≡ p) ⊎ (better side p q ≡ true) →
    arrives side limit ts ps n q ≡ 0
arrives_none side limit ts ps n p q e w = let t = better_trans side limit p q in grind (arith, nat_tests)

-- at the best price all arrives
arrives_first : (side limit : ℕ) (ts : Tables) (ps : List ℕ) (n p : ℕ) → reached side limit p n ≡ true → All (λ q. better side p q ≡ true) ps →
    arrives side limit ts (p ∷ ps) n p ≡ n
arrives_first side limit ts ps n p e a = let f = ahead_first side ts p ps a in grind arith

-- what each of some prices gives when n come to the first
abbrev pub giving : (side limit : ℕ) → Tables → List ℕ → (n price : ℕ) → List Fill
giving side limit ts ps n p = gives ts.customers p (arrives side limit ts ps n p)

-- one price reached, and then the others
gives_more : (side limit : ℕ) (ts : Tables) (ps : List ℕ) (n k p : ℕ) (later : List Fill) → reached side limit p n ≡ true →
    All (λ q. better side p q ≡ true) ps → k ≡ n - all_at ts p → later ≡ flat (giving side limit ts ps k) ps →
    gives ts.customers p n ++ later ≡ flat (giving side limit ts (p ∷ ps) n) (p ∷ ps)
gives_more side limit ts ps n k p later e a leaves is =
    rw (
      arrives_first side limit ts ps n p e a,
      is,
      flat_ext (giving side limit ts (p ∷ ps) n) (giving side limit ts ps k) ps
          (All-weaker (λ q. better side p q ≡ true) (λ q. giving side limit ts (p ∷ ps) n q ≡ giving side limit ts ps k q)
          (λ q b. ap (gives ts.customers q) (ahead_later side limit ts p n k q ps leaves b)) ps a),
    ) refl

-- the same of a Trade's fills
sweep_more : (side limit : ℕ) (ts : Tables) (ps : List ℕ) (n left p : ℕ) (f : Fills) → reached side limit p n ≡ true → All (λ r. better side p r ≡ true) ps →
    (x : SharedAtPrice (at_level p ts) n (λ rest later. FairSweep side limit ts ps rest left later) f) →
    (let rest : ℕ = n - sum (customers_take (at_level p ts) n) - sum x.makers_shares - sum x.firms_shares in
    x.later.customers ≡ flat (giving side limit ts ps rest) ps) →
    f.customers ≡ flat (giving side limit ts (p ∷ ps) n) (p ∷ ps)
sweep_more side limit ts ps n left p f e a x is =
    let cs : List ℕ = sizes_of (at_price p ts.customers) in
    ap (λ (x : Fills). x.customers) x.filled
    ∙ gives_more side limit ts ps n (n - sum (in_time n cs) - sum x.makers_shares - sum x.firms_shares) p x.later.customers e a
    (level_leaves n cs (sizes_of (at_price p ts.makers)) (sizes_of (at_price p ts.firms)) x.makers_shares x.firms_shares x.makers_fair x.firms_fair
    ∙ rw (sizes_at p ts.customers, sizes_at p ts.makers, sizes_at p ts.firms) refl) is

-- a price that is not reached, and so none of the others
gives_stop : (side limit : ℕ) (ts : Tables) (ps : List ℕ) (n p : ℕ) → reached side limit p n ≡ false → All (λ q. better side p q ≡ true) ps →
    flat (giving side limit ts (p ∷ ps) n) (p ∷ ps) ≡ []
gives_stop side limit ts ps n p e a =
    flat_none (giving side limit ts (p ∷ ps) n) (p ∷ ps)
    (nothing p (inl refl), All-weaker (λ q. better side p q ≡ true) (λ q. giving side limit ts (p ∷ ps) n q ≡ []) (λ q b. nothing q (inr b)) ps a)
  where
    nothing : (q : ℕ) → (q ≡ p) ⊎ (better side p q ≡ true) → giving side limit ts (p ∷ ps) n q ≡ []
    nothing q b = rw (arrives_none side limit ts (p ∷ ps) n p q e b) (gives_none ts.customers q)

-- the customer fills of a sweep: at each price in time order what arrives there
pub sweep_gives : (side limit : ℕ) (ts : Tables) (ps : List ℕ) (n left : ℕ) (f : Fills) → Sorted side ps →
    FairSweep side limit ts ps n left f → f.customers ≡ flat (giving side limit ts ps n) ps
sweep_gives side limit ts [] n left f s w = ap (λ (x : Fills). x.customers) w.no_fills
sweep_gives side limit ts (p ∷ ps) n left f s w =
    elim (cases_Bool (reached side limit p n)) [
      | inl e ↦
          let x = rw e at w in
          sweep_more side limit ts ps n left p f e s.0 x (sweep_gives side limit ts ps _ left x.later s.1 x.onward)
      | inr e ↦
          let x = rw e at w in
          ap (λ (z : Fills). z.customers) x.no_fills ∙ sym (gives_stop side limit ts ps n p e s.0)
    ]
