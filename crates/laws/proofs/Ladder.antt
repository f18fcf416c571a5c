-- The ladder of prices: sorted, each once, and all of a table's prices are on it.
use Rattle.std.proofs.Common.{◌≡◌, ℕ, ◌+◌, Bool, true, false, cond, eqb, List, [], ◌∷◌, ◌++◌, refl, ◌∙◌, inl, inr, arith}
use Rattle.std.specs.List.{AllByRecursion as All}
use Rattle.std.proofs.ByRecursion.{All-weaker}
use Rattle.std.proofs.lemmas.Bool.Decides.{nat_tests, eqb_tells}
use Rattle.std.proofs.lemmas.Bool.{eq-eqb, cond_both, cases_Bool, both_ways}
use Rattle.terms.specs.Numbers.{listed}
use Rattle.kept.specs.Ranked.{better}
use Rattle.kept.specs.Standing.{Interest}
use Rattle.model.specs.Prices.{rung, ladder, prices}
use Rattle.model.specs.Tables.{total_at, total_where, Tables, has, price_of}
use Rattle.laws.proofs.Lists.{Once, all_listed}
use Rattle.laws.proofs.Sums.{over, over_ext, over_add, over_none, over_one, all_of}

-- ---- better is a strict order ----

pub better_not_self : (side p : ℕ) → better side p p ≡ false
better_not_self side p = grind (arith, nat_tests)

pub better_trans : (side p q r : ℕ) → better side p q ≡ true → better side q r ≡ true → better side p r ≡ true
better_trans side p q r a b = grind (arith, nat_tests)

better_other : (side p q : ℕ) → (p ≡ q → ⊥) → better side p q ≡ false → better side q p ≡ true
better_other side p q n a = grind (arith, nat_tests)

pub better_not_back : (side p q : ℕ) → better side p q ≡ true → better side q p ≡ false
better_not_back side p q a = grind (arith, nat_tests)

pub better_apart : (side p q : ℕ) → better side p q ≡ true → q ≡ p → ⊥
better_apart side p q a e = both_ways (better side p p) (better_not_self side p) (rw e at a)

-- ---- sorted lists ----

-- the best first, each once
abbrev pub Sorted : (side : ℕ) → List ℕ → Type 0
Sorted side [] = Unit {0}
Sorted side (p ∷ ps) = All (λ q. better side p q ≡ true) ps × Sorted side ps

-- the first is not met again
pub sorted_first : (side p : ℕ) (ps : List ℕ) → Sorted side (p ∷ ps) → listed p ps ≡ false
sorted_first side p ps s =
    elim (cases_Bool (listed p ps)) [
      | inl e ↦ absurd (better_apart side p p (all_listed (λ q. better side p q ≡ true) ps p s.0 e) refl)
      | inr e ↦ e
    ]

sorted_once : (side : ℕ) (ps : List ℕ) → Sorted side ps → Once ps
sorted_once side [] s = tt
sorted_once side (p ∷ ps) s = (sorted_first side p ps s, sorted_once side ps s.1)

rung_all : (P : ℕ → Type 0) (side p : ℕ) (ps : List ℕ) → P p → All P ps → All P (rung side p ps)
rung_all P side p [] x a = (x, tt)
rung_all P side p (q ∷ qs) x a =
    cond_both (eqb p q) (q ∷ qs) (cond (better side p q) (p ∷ q ∷ qs) (q ∷ rung side p qs)) (All P) (λ _. a)
    (λ _. cond_both (better side p q) (p ∷ q ∷ qs) (q ∷ rung side p qs) (All P) (λ _. (x, a)) (λ _. (a.0, rung_all P side p qs x a.1)))

rung_sorted : (side p : ℕ) (ps : List ℕ) → Sorted side ps → Sorted side (rung side p ps)
rung_sorted side p [] s = (tt, tt)
rung_sorted side p (q ∷ qs) s =
    elim (eqb_tells p q) [
      | inl e ↦ rw e.0 s
      | inr e ↦ rw e.0 (
          elim (cases_Bool (better side p q)) [
            | inl b ↦ rw b ((b, All-weaker (λ r. better side q r ≡ true) (λ r. better side p r ≡ true) (λ r a. better_trans side p q r b a) qs s.0), s)
            | inr b ↦ rw b (rung_all (λ r. better side q r ≡ true) side p qs (better_other side p q e.1 b) s.0, rung_sorted side p qs s.1)
          ])
    ]

ladder_sorted : (side : ℕ) (t : List Interest) → Sorted side (ladder side t)
ladder_sorted side [] = tt
ladder_sorted side (r ∷ rs) = rung_sorted side r.price (ladder side rs) (ladder_sorted side rs)

pub ladder_all : (P : ℕ → Type 0) (side : ℕ) (t : List Interest) → All (λ (r : Interest). P r.price) t → All P (ladder side t)
ladder_all P side [] a = tt
ladder_all P side (r ∷ rs) a = rung_all P side r.price (ladder side rs) a.0 (ladder_all P side rs a.1)

-- ---- what is listed ----

rung_here : (side p : ℕ) (ps : List ℕ) → listed p (rung side p ps) ≡ true
rung_here side p [] = rw (eq-eqb p p refl) refl
rung_here side p (q ∷ qs) = let a = rung_here side p qs in grind (arith, nat_tests)

rung_keeps : (side p k : ℕ) (ps : List ℕ) → listed k ps ≡ true → listed k (rung side p ps) ≡ true
rung_keeps side p k [] a = absurd (both_ways false refl a)
rung_keeps side p k (q ∷ qs) a = let b = rung_keeps side p k qs in grind (arith, nat_tests)

-- all of a table's prices are among some prices
abbrev pub On : List ℕ → List Interest → Type 0
On ps t = All (λ (r : Interest). listed r.price ps ≡ true) t

-- a ladder has all of a table's prices
ladder_lists : (side : ℕ) (t : List Interest) → On (ladder side t) t
ladder_lists side [] = tt
ladder_lists side (r ∷ rs) = (
  rung_here side r.price (ladder side rs),
  All-weaker _ (λ (x : Interest). listed x.price (ladder side (r ∷ rs)) ≡ true)
      (λ x a. rung_keeps side r.price x.price (ladder side rs) a) rs (ladder_lists side rs),
)

all_left : {X : Type 0} (P : X → Type 0) (xs ys : List X) → All P (xs ++ ys) → All P xs
all_left P [] ys a = tt
all_left P (x ∷ xs) ys a = (a.0, all_left P xs ys a.1)

all_right : {X : Type 0} (P : X → Type 0) (xs ys : List X) → All P (xs ++ ys) → All P ys
all_right P [] ys a = a
all_right P (x ∷ xs) ys a = all_right P xs ys a.1

-- the price of a holder that has a record
pub on_price : (ps : List ℕ) (t : List Interest) (h : ℕ) → On ps t → has h t ≡ true → listed (price_of h t) ps ≡ true
on_price ps [] h a e = absurd (both_ways false refl e)
on_price ps (r ∷ rs) h a e =
    elim (cases_Bool (eqb h r.holder)) [
      | inl w ↦ rw w a.0
      | inr w ↦ rw w (on_price ps rs h a.1 (rw w at e))
    ]

-- ---- the prices of three tables ----

module _ (side : ℕ) (ts : Tables) where
  lists : On (prices side ts) (ts.customers ++ (ts.makers ++ ts.firms))
  lists = ladder_lists side (ts.customers ++ (ts.makers ++ ts.firms))

  pub customers_on : On (prices side ts) ts.customers
  customers_on = all_left _ ts.customers (ts.makers ++ ts.firms) lists

  pub makers_on : On (prices side ts) ts.makers
  makers_on = all_left _ ts.makers ts.firms (all_right _ ts.customers (ts.makers ++ ts.firms) lists)

  pub firms_on : On (prices side ts) ts.firms
  firms_on = all_right _ ts.makers ts.firms (all_right _ ts.customers (ts.makers ++ ts.firms) lists)

  pub prices_sorted : Sorted side (prices side ts)
  prices_sorted = ladder_sorted side (ts.customers ++ (ts.makers ++ ts.firms))

  pub prices_once : Once (prices side ts)
  prices_once = sorted_once side (prices side ts) prices_sorted

-- ---- contracts by price, summed over the ladder ----

pub priced_sum : (φ : ℕ → Bool) (ps : List ℕ) (t : List Interest) → Once ps → On ps t →
    over (λ q. cond (φ q) (total_at q t) 0) ps ≡ total_where φ t
priced_sum φ ps [] o a = over_none (λ q. cond (φ q) 0 0) ps (all_of (λ q. cond (φ q) 0 0 ≡ 0) ps (λ q. cond_both (φ q) 0 0 (λ x. x ≡ 0) (λ _. refl) (λ _. refl)))
priced_sum φ ps (r ∷ rs) o a =
    over_ext (λ q. cond (φ q) (total_at q (r ∷ rs)) 0) (λ q. cond (eqb q r.price) (mine q) 0 + cond (φ q) (total_at q rs) 0) ps
    (all_of (λ q. cond (φ q) (total_at q (r ∷ rs)) 0 ≡ cond (eqb q r.price) (mine q) 0 + cond (φ q) (total_at q rs) 0) ps split)
    ∙ over_add (λ q. cond (eqb q r.price) (mine q) 0) (λ q. cond (φ q) (total_at q rs) 0) ps
    ∙ rw (over_one r.price mine ps o, a.0, priced_sum φ ps rs o a.1) refl
  where
    mine : ℕ → ℕ
    mine q = cond (φ q) r.left 0

    split : (q : ℕ) → cond (φ q) (total_at q (r ∷ rs)) 0 ≡ cond (eqb q r.price) (mine q) 0 + cond (φ q) (total_at q rs) 0
    split q = grind arith

-- a price that no record has
pub nothing_at : (p : ℕ) (ps : List ℕ) (t : List Interest) → On ps t → listed p ps ≡ false → total_at p t ≡ 0
nothing_at p ps [] a e = refl
nothing_at p ps (r ∷ rs) a e = let n = nothing_at p ps rs a.1 e in let m = a.0 in grind (arith, nat_tests)
