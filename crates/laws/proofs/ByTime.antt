-- Customers at one price are served in the order of their arrival.
use Rattle.std.proofs.Common.{◌≡◌, ℕ, ◌-◌, ◌<◌, ◌≤◌, min, true, false, cond, not, ◌||◌, eqb, ltb, List, [], ◌∷◌, sym, refl, ◌∙◌, inl, inr, arith}
use Rattle.std.specs.List.{AllByRecursion as All}
use Rattle.std.proofs.lemmas.Bool.Decides.{eqb_tells}
use Rattle.std.proofs.lemmas.Bool.{cases_Bool, cases_lt, ltb-true, eq-eqb, both_ways}
use Rattle.terms.specs.Numbers.{listed}
use Rattle.blocks.specs.declared.Fill.{Fill}
use Rattle.kept.proofs.Entering.{InRank}
use Rattle.kept.specs.Standing.{Interest}
use Rattle.sharing.specs.InTime.{time_fair}
use Rattle.sharing.specs.TimeOrder.{in_time}
use Rattle.model.specs.Fills.{given_to, fills}
use Rattle.model.specs.Tables.{holders_of, sizes_of, has, left_to, price_of, at_price}
use Rattle.laws.proofs.Arrival.{earlier}
use Rattle.laws.proofs.Arriving.{gives, flat, time_none}
use Rattle.laws.proofs.Changing.{once_part, part_at}
use Rattle.laws.proofs.Fills.{fills_under, fills_more, given_append}
use Rattle.laws.proofs.Lists.{Once}
use Rattle.laws.proofs.Lookup.{look_at, left_has}
use Rattle.laws.proofs.Ranking.{in_rank_part}
use Rattle.laws.proofs.Sums.{over, over_ext, over_one, all_of}

-- ---- what fills price by price give a holder ----

given_flat : (h : ℕ) (g : ℕ → List Fill) (ps : List ℕ) → given_to h (flat g ps) ≡ over (λ q. given_to h (g q)) ps
given_flat h g [] = refl
given_flat h g (p ∷ ps) = given_append h (g p) (flat g ps) ∙ rw (given_flat h g ps) refl

-- only its own price gives to it
gives_own : (t : List Interest) → Once (holders_of t) → (h q n : ℕ) → given_to h (gives t q n) ≡ cond (eqb q (price_of h t)) (given_to h (gives t q n)) 0
gives_own t o h q n =
    let a = fills_under h (at_price q t) (in_time n (sizes_of (at_price q t))) (once_part (part_at q t) o) (time_fair n (sizes_of (at_price q t))).inside in
    let b = look_at q t h o in
    elim (cases_Bool (eqb q (price_of h t))) [
      | inl e ↦ rw e refl
      | inr e ↦ let b' = rw e at b in rw e (omega arith)
    ]

pub given_at : (t : List Interest) → Once (holders_of t) → (h : ℕ) (a : ℕ → ℕ) (ps : List ℕ) → Once ps → listed (price_of h t) ps ≡ true →
    given_to h (flat (λ q. gives t q (a q)) ps) ≡ given_to h (gives t (price_of h t) (a (price_of h t)))
given_at t o h a ps u l =
    given_flat h (λ q. gives t q (a q)) ps
    ∙ over_ext (λ q. given_to h (gives t q (a q))) (λ q. cond (eqb q (price_of h t)) (given_to h (gives t q (a q))) 0) ps
    (all_of (λ q. given_to h (gives t q (a q)) ≡ cond (eqb q (price_of h t)) (given_to h (gives t q (a q))) 0) ps (λ q. gives_own t o h q (a q)))
    ∙ over_one (price_of h t) (λ q. given_to h (gives t q (a q))) ps u
    ∙ rw l refl

-- ---- at one price ----

-- one that stands behind another arrived later
behind_later : (time : ℕ → ℕ) (p k : ℕ) (r : Interest) (rs : List Interest) → r.price ≡ p → All (λ (y : Interest). y.price ≡ p) rs →
    All (λ y. earlier time r y ≡ true) rs → has k rs ≡ true → time r.holder < time k
behind_later time p k r [] e a g l = absurd (both_ways false refl l)
behind_later time p k r (y ∷ ys) e a g l =
    elim (eqb_tells k y.holder) [
      | inl w ↦
          let g' = rw (eq-eqb r.price y.price (e ∙ sym a.0)) at g.0 in
          rw w.1 (ltb-true (time r.holder) (time y.holder) g')
      | inr w ↦ behind_later time p k r ys e a.1 g.1 (rw w.0 at l)
    ]

-- where a later one gets something, an earlier one is used up
time_first : (time : ℕ → ℕ) (p h k : ℕ) (rs : List Interest) (n : ℕ) → All (λ (r : Interest). r.price ≡ p) rs → InRank (earlier time) rs →
    time k < time h → 0 < given_to h (fills rs (in_time n (sizes_of rs))) → left_to k rs ≤ given_to k (fills rs (in_time n (sizes_of rs)))
time_first time p h k [] n a g l s = omega arith
time_first time p h k (r ∷ rs) n a g l s =
    let m : ℕ = min r.left n in
    let ns : List ℕ = in_time (n - m) (sizes_of rs) in
    let fh = fills_more h r rs m ns in
    let fk = fills_more k r rs m ns in
    elim (eqb_tells h r.holder) [
      | inl w ↦
          let l' : time k < time r.holder = rw (← w.1) l in
          elim (eqb_tells k r.holder) [
            | inl v ↦ let l'' : time r.holder < time r.holder = rw v.1 at l' in absurd (omega arith)
            | inr v ↦
                rw v.0
                (elim (cases_lt 0 (left_to k rs)) [
                  | inl b ↦ let z = behind_later time p k r rs a.0 a.1 g.0 (left_has k rs b) in absurd (omega arith)
                  | inr b ↦ omega arith
                ])
          ]
      | inr w ↦
          let fh' = rw w.0 at fh in
          let s' : 0 < given_to h (fills rs ns) = omega arith in
          elim (eqb_tells k r.holder) [
            | inl v ↦
                let fk' = rw v.0 at fk in
                rw v.0
                (elim (cases_lt m r.left) [
                  | inl b ↦
                      let z : n - m ≡ 0 = omega arith in
                      let none : fills rs ns ≡ [] = rw z (time_none rs) in
                      let s'' = rw none at s' in absurd (omega arith)
                  | inr b ↦ omega arith
                ])
            | inr v ↦
                let fk' = rw v.0 at fk in
                let ih = time_first time p h k rs (n - m) a.1 g.1 l s' in
                rw v.0 (omega arith)
          ]
    ]

same_price : (p : ℕ) (t : List Interest) → All (λ (r : Interest). r.price ≡ p) (at_price p t)
same_price p [] = tt
same_price p (r ∷ rs) =
    elim (eqb_tells p r.price) [
      | inl e ↦ rw e.0 (sym e.1, same_price p rs)
      | inr e ↦ rw e.0 (same_price p rs)
    ]

-- the same of a whole table
pub by_time : (time : ℕ → ℕ) (t : List Interest) → Once (holders_of t) → InRank (earlier time) t → (p n h k : ℕ) → price_of k t ≡ p → time k < time h →
    0 < given_to h (gives t p n) → left_to k t ≤ given_to k (gives t p n)
by_time time t o g p n h k e l s =
    let a = time_first time p h k (at_price p t) n (same_price p t)
    (in_rank_part (λ p h q k. not (eqb p q) || ltb (time h) (time k)) (part_at p t) g) l s in
    let b = rw (eq-eqb p (price_of k t) (sym e)) at (look_at p t k o) in
    omega arith
