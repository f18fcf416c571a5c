-- A table's contracts by price, as a sum over all holders.
use Rattle.std.proofs.Common.{◌≡◌, ℕ, ◌+◌, ◌≤◌, Bool, true, false, cond, eqb, List, [], ◌∷◌, refl, ◌∙◌, arith}
use Rattle.std.proofs.lemmas.Bool.Decides.{nat_tests}
use Rattle.std.proofs.lemmas.Bool.{and_parts}
use Rattle.terms.specs.Numbers.{within, all_within}
use Rattle.kept.specs.Standing.{Interest}
use Rattle.model.specs.Standing.{sum_to, stands, stood_at}
use Rattle.model.specs.Tables.{holders_of, left_to, has, price_of, total_where}
use Rattle.model.specs.Words.{Day, highest}
use Rattle.laws.specs.Tables.{TableHoldsWhatStands}
use Rattle.laws.proofs.Lists.{Once, distinct_once, within_parts, all_within_more}
use Rattle.laws.proofs.Lookup.{left_none}
use Rattle.laws.proofs.Sums.{sum_ext, sum_add, sum_none, sum_one}

-- what a holder has, if its price passes
abbrev passing : (ℕ → Bool) → List Interest → ℕ → ℕ
passing φ t h = cond (φ (price_of h t)) (left_to h t) 0

passing_none : (φ : ℕ → Bool) (h : ℕ) (t : List Interest) → left_to h t ≡ 0 → passing φ t h ≡ 0
passing_none φ h t e = grind arith

passing_split : (φ : ℕ → Bool) (h : ℕ) (r : Interest) (rs : List Interest) → has r.holder rs ≡ false →
    passing φ (r ∷ rs) h ≡ cond (eqb h r.holder) (cond (φ r.price) r.left 0) 0 + passing φ rs h
passing_split φ h r rs e = let n = left_none r.holder rs e in grind (arith, nat_tests)

-- the contracts of a table at some prices are the sum over all holders
where_is_sum : (n : ℕ) (φ : ℕ → Bool) (t : List Interest) → Once (holders_of t) → all_within n (holders_of t) ≡ true →
    sum_to n (λ h. cond (φ (price_of h t)) (left_to h t) 0) ≡ total_where φ t
where_is_sum n φ [] o b = sum_none n (λ h. cond (φ 0) 0 0) (λ h p q. passing_none φ h [] refl)
where_is_sum n φ (r ∷ rs) o b =
    let w = and_parts (within n r.holder) (all_within n (holders_of rs)) b in
    let v = within_parts n r.holder w.0 in
    let x : ℕ = cond (φ r.price) r.left 0 in
    let a = sum_ext n (passing φ (r ∷ rs)) (λ h. cond (eqb h r.holder) x 0 + passing φ rs h)
    (λ h p q. passing_split φ h r rs o.0) in
    a ∙ sum_add n (λ h. cond (eqb h r.holder) x 0) (passing φ rs)
    ∙ rw (sum_one n r.holder x v.0 v.1, where_is_sum n φ rs o.1 w.1) refl

-- what a day says that a class has standing at some prices is what the table has
pub stands_where : (side : ℕ) (roster : List ℕ) (class : ℕ) (φ : ℕ → Bool) (t : List Interest) (d : Day) → TableHoldsWhatStands side roster class t d →
    sum_to 999999 (λ h. cond (φ (stood_at class h d)) (stands class h d) 0) ≡ total_where φ t
stands_where side roster class φ t d s =
    sum_ext 999999 (λ h. cond (φ (stood_at class h d)) (stands class h d) 0) (passing φ t) (λ h p q. same h)
    ∙ where_is_sum 999999 φ t (distinct_once (holders_of t) s.once) (all_within_more (highest class) 999999 (holders_of t) small s.holders_in_range)
  where
    small : highest class ≤ 999999
    small = grind arith

    same : (h : ℕ) → cond (φ (stood_at class h d)) (stands class h d) 0 ≡ cond (φ (price_of h t)) (left_to h t) 0
    same h = let c = s.contracts h in let p = s.priced h in grind arith
