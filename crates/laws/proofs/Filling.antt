-- Fills read by price: what they come to at each price.
use Rattle.std.proofs.Common.{◌≡◌, ℕ, ◌+◌, ◌-◌, min, false, cond, eqb, List, [], ◌∷◌, ◌++◌, sym, refl, ◌∙◌, inl, inr, arith}
use Rattle.std.specs.List.{AllByRecursion as All}
use Rattle.std.proofs.lemmas.Bool.Decides.{nat_tests, eqb_tells}
use Rattle.std.proofs.lemmas.Bool.{or_parts, cond_both, eq-eqb, ne_eqb, eqb-false}
use Rattle.terms.specs.Numbers.{sum}
use Rattle.blocks.specs.declared.Fill.{Fill}
use Rattle.kept.specs.Standing.{Interest}
use Rattle.sharing.specs.InTime.{time_fair}
use Rattle.sharing.specs.TimeOrder.{in_time}
use Rattle.model.specs.Fills.{fills}
use Rattle.model.specs.Tables.{total_at, at_price, sizes_of, holders_of, price_of, has}
use Rattle.laws.proofs.Arriving.{gives, flat, sizes_at}
use Rattle.laws.proofs.Lists.{Once}
use Rattle.laws.proofs.Sums.{over}

-- the contracts of some fills whose holders stand at a price of a table
abbrev pub filled_at : (price : ℕ) → List Interest → List Fill → ℕ
filled_at p t [] = 0
filled_at p t (x ∷ f) = cond (eqb p (price_of x.holder t)) x.contracts 0 + filled_at p t f

filled_append : (p : ℕ) (t : List Interest) (f g : List Fill) → filled_at p t (f ++ g) ≡ filled_at p t f + filled_at p t g
filled_append p t [] g = omega arith
filled_append p t (x ∷ f) g = let a = filled_append p t f g in omega arith

-- ---- where holders are distinct, each record is found by its holder ----

found_behind : (x : Interest) (rs s : List Interest) → has x.holder s ≡ false →
    All (λ (r : Interest). price_of r.holder rs ≡ r.price) s → All (λ (r : Interest). price_of r.holder (x ∷ rs) ≡ r.price) s
found_behind x rs [] e a = tt
found_behind x rs (r ∷ s) e a =
    let o = or_parts (eqb x.holder r.holder) (has x.holder s) e in
    (rw (ne_eqb r.holder x.holder (λ z. eqb-false x.holder r.holder o.0 (sym z))) a.0, found_behind x rs s o.1 a.1)

found : (t : List Interest) → Once (holders_of t) → All (λ (r : Interest). price_of r.holder t ≡ r.price) t
found [] o = tt
found (r ∷ rs) o = (rw (eq-eqb r.holder r.holder refl) refl, found_behind r rs rs o.0 (found rs o.1))

found_at : (p : ℕ) (t s : List Interest) → All (λ (r : Interest). price_of r.holder t ≡ r.price) s →
    All (λ (r : Interest). price_of r.holder t ≡ p) (at_price p s)
found_at p t [] a = tt
found_at p t (r ∷ s) a =
    elim (eqb_tells p r.price) [
      | inl e ↦ rw e.0 (a.0 ∙ sym e.1, found_at p t s a.1)
      | inr e ↦ rw e.0 (found_at p t s a.1)
    ]

-- ---- what fills in time order come to ----

filled_time : (p q : ℕ) (t rs : List Interest) (n : ℕ) → All (λ (r : Interest). price_of r.holder t ≡ q) rs →
    filled_at p t (fills rs (in_time n (sizes_of rs))) ≡ cond (eqb q p) (sum (in_time n (sizes_of rs))) 0
filled_time p q t [] n a = cond_both (eqb q p) 0 0 (λ x. 0 ≡ x) (λ _. refl) (λ _. refl)
filled_time p q t (r ∷ rs) n a =
    let m : ℕ = min r.left n in
    let rest = filled_time p q t rs (n - m) a.1 in
    let h = a.0 in
    grind (arith, nat_tests)

filled_gives : (p q n : ℕ) (t : List Interest) → Once (holders_of t) →
    filled_at p t (gives t q n) ≡ cond (eqb q p) (min n (total_at q t)) 0
filled_gives p q n t d =
    filled_time p q t (at_price q t) n (found_at q t t (found t d))
    ∙ rw ((time_fair n (sizes_of (at_price q t))).adds_up, sizes_at q t) refl

pub filled_flat : (p : ℕ) (t : List Interest) (a : ℕ → ℕ) (ps : List ℕ) → Once (holders_of t) →
    filled_at p t (flat (λ q. gives t q (a q)) ps) ≡ over (λ q. cond (eqb q p) (min (a q) (total_at q t)) 0) ps
filled_flat p t a [] d = refl
filled_flat p t a (q ∷ ps) d =
    filled_append p t (gives t q (a q)) (flat (λ q. gives t q (a q)) ps) ∙ rw (filled_gives p q (a q) t d, filled_flat p t a ps d) refl
