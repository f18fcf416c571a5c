-- Parties found by their places: what the code reads there is what the definitions say.
use Rattle.std.proofs.Common.{◌≡◌, ℕ, ◌-◌, ◌*◌, ◌/◌, ◌<◌, ◌≤◌, min, true, false, eqb, nat_eq, ltb, ◌≢◌, List, [], ◌∷◌, length, get_or, set, MatchOption, Option, position, sym, refl, ap, ◌∙◌, inl, inr, div-lt_iff_lt-mul, add-one, arith}
use Rattle.std.proofs.lemmas.Bool.{cases_Bool, ltb-true, ne_eqb}
use Rattle.std.proofs.lemmas.Bool.Decides.{eqb_tells}
use Rattle.terms.specs.Numbers.{sum, listed, place}
use Rattle.terms.proofs.Rows.{found_place, listed_place}
use Rattle.sharing.specs.Draw.{stands, size_of, percentage, entitled, entitlement, prevails, entitled_first, base_shares}
use Rattle.sharing.specs.Placed.{StandsAt}
use Rattle.sharing.specs.ProRata.{plain}
use Rattle.sharing.specs.Rule.{Inputs, Valid}
use Rattle.sharing.specs.Counts.{count, Single, distinct_single, single_rest, single_first}
use Rattle.sharing.specs.Entitled.{prevailing, leaves_less, size_le, none_first}

-- a party is looked for among the holders
pub stands_found : (party : ℕ) (holders : List ℕ) (found : Option ℕ) → party ≢ 0 → found ≡ position (λ y. nat_eq y party) holders →
    MatchOption found (stands party holders ≡ false) (λ at. StandsAt at party holders)
stands_found party holders found n e =
    let answer = e ∙ found_place holders party in
    elim (cases_Bool (listed party holders)) [
      | inl t ↦ rw (answer, t, ne_eqb party 0 n) (refl, (refl, ltb-true (place holders party) (length holders) (listed_place holders party ∙ t)))
      | inr t ↦ rw (answer, t, ne_eqb party 0 n)
    ]

-- the holder and the size at a party's place
pub holder_at : (holders : List ℕ) (h : ℕ) → place holders h < length holders → get_or holders (place holders h) 0 ≡ h
holder_at [] h l = absurd (omega arith)
holder_at (x ∷ xs) h l =
    elim (eqb_tells h x) [
      | inl e ↦ rw e.0 (sym e.1)
      | inr e ↦ rw (e.0, add-one) (holder_at xs h (omega (arith, rw e.0 at l)))
    ]

pub size_at : (h : ℕ) (holders sizes : List ℕ) → length sizes ≡ length holders → place holders h < length holders →
    get_or sizes (place holders h) 0 ≡ size_of h holders sizes
size_at h [] [] e l = absurd (omega arith)
size_at h [] (size ∷ sizes) e l = absurd (omega arith)
size_at h (x ∷ xs) [] e l = absurd (omega arith)
size_at h (x ∷ xs) (size ∷ sizes) e l =
    elim (eqb_tells h x) [
      | inl k ↦ rw k.0
      | inr k ↦ rw (k.0, add-one) (size_at h xs sizes (omega arith) (omega (arith, rw k.0 at l)))
    ]

-- plain shares with one of them overwritten
pub first_set : (h takes rest others : ℕ) (holders sizes : List ℕ) → length sizes ≡ length holders → Single holders → place holders h < length holders →
    set (plain rest others sizes) (place holders h) takes ≡ entitled_first h takes rest others holders sizes
first_set h takes rest others [] [] e o l = absurd (omega arith)
first_set h takes rest others [] (size ∷ sizes) e o l = absurd (omega arith)
first_set h takes rest others (x ∷ xs) [] e o l = absurd (omega arith)
first_set h takes rest others (x ∷ xs) (size ∷ sizes) e o l =
    elim (eqb_tells h x) [
      | inl k ↦
          let none : count h xs ≡ 0 = rw k.1 (single_first x xs o) in
          rw k.0 (ap (λ zs. takes ∷ zs) (sym (none_first h takes rest others xs sizes (omega arith) none)))
      | inr k ↦ rw (k.0, add-one)
          (ap (λ zs. size * rest / others ∷ zs) (first_set h takes rest others xs sizes (omega arith) (single_rest x xs o) (omega (arith, rw k.0 at l))))
    ]

-- an entitlement as it is worked out at its holder's place
module _ (specialist at : ℕ) (i : Inputs) (v : Valid i) (e : at ≡ place i.holders (entitled specialist i)) (l : at < length i.holders) where
  holder_is : get_or i.holders at 0 ≡ entitled specialist i
  holder_is = ap (λ k. get_or i.holders k 0) e ∙ holder_at i.holders (entitled specialist i) (rw e at l)

  pub size_is : get_or i.sizes at 0 ≡ size_of (entitled specialist i) i.holders i.sizes
  size_is = ap (λ k. get_or i.sizes k 0) e ∙ size_at (entitled specialist i) i.holders i.sizes v.paired (rw e at l)

  pub entitlement_is : (percent cut takes : ℕ) →
      percent ≡ percentage (length i.holders - 1) i.arriving (eqb (get_or i.holders at 0) i.directed) (eqb (get_or i.holders at 0) specialist) →
      cut ≡ i.number * percent / 100 → takes ≡ min (get_or i.sizes at 0) cut → takes ≡ entitlement specialist (entitled specialist i) i
  entitlement_is percent cut takes p u t = rw (size_is, u, p, holder_is) at t

  pub prevails_is : (total takes plain_share : ℕ) → total ≡ sum i.sizes → entitled specialist i ≢ 0 → takes ≡ entitlement specialist (entitled specialist i) i →
      plain_share ≡ get_or i.sizes at 0 * i.number / total → prevails specialist i ≡ ltb plain_share takes
  prevails_is total takes plain_share all n t s = rw (ne_eqb (entitled specialist i) 0 n, s, size_is, all, t)

  -- where it prevails, what it leaves is less than what the others have
  pub leaves : (total takes : ℕ) → total ≡ sum i.sizes → i.number < total → prevails specialist i ≡ true → takes ≡ entitlement specialist (entitled specialist i) i →
      (get_or i.sizes at 0 ≤ total) × (takes ≤ i.number) × (i.number - takes < total - get_or i.sizes at 0)
  leaves total takes all less p t =
      let w = prevailing specialist i p in
      let size = size_is in
      let within : get_or i.sizes at 0 ≤ total = omega (arith, size_le (entitled specialist i) i.holders i.sizes) in
      let few : takes ≤ i.number = omega (arith, w.within) in
      let above : get_or i.sizes at 0 * i.number < takes * total = rw (size, t, all) ((div-lt_iff_lt-mul {k = sum i.sizes} (omega arith)).0 w.above) in
      (within, few, leaves_less i.number total takes (get_or i.sizes at 0) (i.number - takes) (total - get_or i.sizes at 0) (omega arith) (omega arith) (omega arith) above)

  -- the shares with the entitlement first
  pub first_is : (total takes : ℕ) (out : List ℕ) → total ≡ sum i.sizes → prevails specialist i ≡ true → takes ≡ entitlement specialist (entitled specialist i) i →
      out ≡ plain (i.number - takes) (total - get_or i.sizes at 0) i.sizes → set out at takes ≡ base_shares specialist i
  first_is total takes out all p t o =
      rw (p, o, size_is, all, t, e)
      (first_set (entitled specialist i) (entitlement specialist (entitled specialist i) i) _ _ i.holders i.sizes v.paired (distinct_single i.holders v.once) (rw e at l))
