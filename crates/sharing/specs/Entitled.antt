-- The draw rule before leftovers: plain shares, or an entitlement first, leave something for leftovers to fill.
use Rattle.std.specs.Prelude.{◌≡◌, ℕ, ◌+◌, ◌-◌, ◌*◌, ◌/◌, ◌<◌, ◌≤◌, Bool, true, false, not, List, [], ◌∷◌, length, ◌==◌, nat_eq, nat_le, nat_lt, refl}
use Rattle.std.proofs.Common.{ap, inl, inr, arith, div-lt_iff_lt-mul, mul-le-mul_right, lt_of_mul-lt-mul_right, le_of_mul-le-mul_right}
use Rattle.std.proofs.lemmas.Bool.{and_parts, not-true, cases_Bool, ltb-true, leb-true}
use Rattle.std.proofs.lemmas.Bool.Decides.{eqb_tells, nat_tests}
use Rattle.sharing.specs.Draw.{size_of, percentage, entitled, entitlement, prevails, entitled_first, base_shares}
use Rattle.terms.specs.Numbers.{sum, listed, within, all_within}
use Rattle.sharing.specs.ProRata.{plain}
use Rattle.sharing.specs.Rule.{Inputs, Valid}
use Rattle.sharing.specs.Counts.{count, Single, listed_tells, distinct_single, single_rest, single_first}
use Rattle.sharing.specs.BySize.{part_le, room, Floors, floor_more, floors, Base, plain_base}

-- where nobody takes first
pub none_first : (h takes rest total : ℕ) (holders sizes : List ℕ) → length sizes ≡ length holders → count h holders ≡ 0 →
    entitled_first h takes rest total holders sizes ≡ plain rest total sizes
none_first h takes rest total [] [] e n = refl
none_first h takes rest total [] (size ∷ sizes) e n = absurd (omega arith)
none_first h takes rest total (holder ∷ holders) [] e n = absurd (omega arith)
none_first h takes rest total (holder ∷ holders) (size ∷ sizes) e n =
    let other : nat_eq h holder ≡ false = grind (arith, nat_tests) in
    rw (other, none_first h takes rest total holders sizes (omega arith) (omega arith))

first_floors : (h takes rest total : ℕ) (holders sizes : List ℕ) → length sizes ≡ length holders → Single holders → all_within 99999 sizes ≡ true →
    rest < total → 0 < count h holders → takes ≤ size_of h holders sizes →
    Floors rest total (size_of h holders sizes * rest) (takes * total) sizes (entitled_first h takes rest total holders sizes)
first_floors h takes rest total [] [] e o v l c t = absurd (omega arith)
first_floors h takes rest total [] (size ∷ sizes) e o v l c t = absurd (omega arith)
first_floors h takes rest total (holder ∷ holders) [] e o v l c t = absurd (omega arith)
first_floors h takes rest total (holder ∷ holders) (size ∷ sizes) e o v l c t =
    let w = and_parts (within 99999 size) (all_within 99999 sizes) v in
    let p = leb-true 1 size (and_parts (nat_le 1 size) (nat_le size 99999) w.0).0 in
    elim (eqb_tells h holder) [
      | inl k ↦
          let none : count h holders ≡ 0 = rw k.1 (single_first holder holders o) in
          let f = floors rest total sizes l w.1 in
          let fits : takes ≤ size = rw k.0 at t in
          rw (k.0, none_first h takes rest total holders sizes (omega arith) none)
          (record { inside = (fits, f.inside); low = omega arith; high = omega arith })
      | inr k ↦
          let more = first_floors h takes rest total holders sizes (omega arith) (single_rest holder holders o) w.1 l (grind arith) (rw k.0 at t) in
          rw k.0 (floor_more rest total (size_of h holders sizes * rest) (takes * total) size sizes (entitled_first h takes rest total holders sizes) l p more)
    ]

-- where the entitlement is above the plain share, what it leaves is below what the others have
pub leaves_less : (n total takes size rest others : ℕ) → n ≡ rest + takes → total ≡ others + size → n ≤ total → size * n < takes * total → rest < others
leaves_less n total takes size rest others e f l h =
    let a = ap (λ (x : ℕ). x * total) e in
    let b = ap (λ (x : ℕ). n * x) f in
    let c = mul-le-mul_right others l in
    lt_of_mul-lt-mul_right total (omega arith)

pub size_le : (h : ℕ) (holders sizes : List ℕ) → size_of h holders sizes ≤ sum sizes
size_le h [] [] = omega arith
size_le h [] (size ∷ sizes) = omega arith
size_le h (holder ∷ holders) [] = omega arith
size_le h (holder ∷ holders) (size ∷ sizes) = let a = size_le h holders sizes in grind arith

first_base : (h n takes : ℕ) (holders sizes : List ℕ) → length sizes ≡ length holders → Single holders → all_within 99999 sizes ≡ true →
    n < sum sizes → 0 < count h holders → takes ≤ size_of h holders sizes → takes ≤ n → size_of h holders sizes * n / sum sizes < takes →
    Base n sizes (entitled_first h takes (n - takes) (sum sizes - size_of h holders sizes) holders sizes)
first_base h n takes holders sizes e o v l c t u b =
    go (n - takes) (sum sizes - size_of h holders sizes) (omega arith) (let a = size_le h holders sizes in omega arith)
  where
    go : (rest others : ℕ) → n ≡ rest + takes → sum sizes ≡ others + size_of h holders sizes →
        Base n sizes (entitled_first h takes rest others holders sizes)
    go rest others x y =
        let size : ℕ = size_of h holders sizes in
        let less = leaves_less n (sum sizes) takes size rest others x y (omega arith) ((div-lt_iff_lt-mul (omega arith)).0 b) in
        let shares : List ℕ = entitled_first h takes rest others holders sizes in
        let f = first_floors h takes rest others holders sizes e o v less c t in
        let p = ap (λ (k : ℕ). k * others) x in
        let q = ap (λ (k : ℕ). k * rest) y in
        let down : sum shares * others ≤ n * others = omega arith in
        let up : n * others ≤ (sum shares + room sizes shares) * others = omega arith in
        record { inside = f.inside; low = le_of_mul-le-mul_right down (omega arith); high = le_of_mul-le-mul_right up (omega arith) }

-- who is entitled stands at the price, and to no more than is shared
entitled_listed : (specialist : ℕ) (i : Inputs) → (entitled specialist i == 0) ≡ false → listed (entitled specialist i) i.holders ≡ true
entitled_listed specialist i e = grind arith

percentage_le : (rivals arriving : ℕ) (directed specialist : Bool) → percentage rivals arriving directed specialist ≤ 60
percentage_le rivals arriving directed specialist = grind arith

entitlement_le : (specialist h : ℕ) (i : Inputs) → entitlement specialist h i ≤ i.number
entitlement_le specialist h i =
    let p : ℕ = percentage (length i.holders - 1) i.arriving (h == i.directed) (h == specialist) in
    let few = percentage_le (length i.holders - 1) i.arriving (h == i.directed) (h == specialist) in
    let cut = part_le i.number p 100 (omega arith) (omega arith) in
    omega arith

-- what an entitlement that prevails has: an entry, and less behind it than the others have
pub record Prevailing (specialist : ℕ) (i : Inputs) : Type 0 where
  pub listed : 0 < count (entitled specialist i) i.holders
  pub cut : entitlement specialist (entitled specialist i) i ≤ size_of (entitled specialist i) i.holders i.sizes
  pub within : entitlement specialist (entitled specialist i) i ≤ i.number
  pub above : size_of (entitled specialist i) i.holders i.sizes * i.number / sum i.sizes < entitlement specialist (entitled specialist i) i

pub prevailing : (specialist : ℕ) (i : Inputs) → prevails specialist i ≡ true → Prevailing specialist i
prevailing specialist i e =
    let h : ℕ = entitled specialist i in
    let takes : ℕ = entitlement specialist h i in
    let plain_share : ℕ = size_of h i.holders i.sizes * i.number / sum i.sizes in
    let w = and_parts (not (h == 0)) (nat_lt plain_share takes) e in
    let there = entitled_listed specialist i (not-true (h == 0) w.0) in
    record {
      listed = grind (arith, listed_tells h i.holders);
      cut = omega arith;
      within = entitlement_le specialist h i;
      above = ltb-true plain_share takes w.1;
    }

pub base_good : (specialist : ℕ) (i : Inputs) → Valid i → i.number < sum i.sizes → Base i.number i.sizes (base_shares specialist i)
base_good specialist i v l =
    let h : ℕ = entitled specialist i in
    elim (cases_Bool (prevails specialist i)) [
      | inl e ↦
          let p = prevailing specialist i e in
          rw e (first_base h i.number (entitlement specialist h i) i.holders i.sizes v.paired (distinct_single i.holders v.once) v.sized
          l p.listed p.cut p.within p.above)
      | inr e ↦ rw e (plain_base i.number i.sizes l v.sized)
    ]

-- so they are no more than the number
pub base_low : (specialist : ℕ) (i : Inputs) (total : ℕ) (shares : List ℕ) → Valid i → total ≡ sum i.sizes → i.number < total → shares ≡ base_shares specialist i →
    sum shares ≤ i.number
base_low specialist i total shares v e l s = rw s (base_good specialist i v (omega arith)).low
