-- One table that is best first: the stretch at its best price, and what stands behind it.
use Rattle.std.proofs.Common.{◌≡◌, ℕ, ◌<◌, true, false, cond, eqb, ◌⊎◌, List, [], ◌∷◌, ◌++◌, length, drop, Option, None, Some, sym, refl, ap, ◌∙◌, subst, inl, inr, arith}
use Rattle.std.proofs.lemmas.Bool.{cases_Bool, both_ways, or_cases, or_left, or_right, eqb-true, eqb-false, eq-eqb, ne_eqb, and_parts, not-true}
use Rattle.kept.specs.Inserting.{leads, in_rank}
use Rattle.kept.specs.Ranked.{better}
use Rattle.kept.specs.Standing.{Interest}
use Rattle.model.specs.Tables.{at_price}
use Rattle.serving.specs.Stretch.{front}
use Rattle.trade.specs.Prices.{ahead, by_price}
use Rattle.trade.proofs.Ladder.{better_self, better_else, not_better_trans, priced}

-- ---- best first ----

-- no price of a table is better than this one
abbrev pub Behind : (side price : ℕ) → List Interest → Type 0
Behind side p t = (q : ℕ) → priced q t ≡ true → better side q p ≡ false

abbrev pub Sorted : (side : ℕ) → List Interest → Type 0
Sorted side [] = Unit {0}
Sorted side (r ∷ rs) = Behind side r.price rs × Sorted side rs

behind_first : (side : ℕ) (r : Interest) (t : List Interest) → leads (by_price side) r t ≡ true → Behind side r.price t
behind_first side r [] e q h = absurd (both_ways false refl h)
behind_first side r (x ∷ xs) e q h =
    let w = and_parts (by_price side r x) (leads (by_price side) r xs) e in
    elim (or_cases (eqb q x.price) (priced q xs) h) [
      | inl v ↦ subst (λ z. better side z r.price ≡ false) (sym (eqb-true q x.price v)) (not-true (better side x.price r.price) w.0)
      | inr v ↦ behind_first side r xs w.1 q v
    ]

pub sorted_rank : (side : ℕ) (t : List Interest) → in_rank (by_price side) t ≡ true → Sorted side t
sorted_rank side [] e = tt
sorted_rank side (r ∷ rs) e =
    let w = and_parts (leads (by_price side) r rs) (in_rank (by_price side) rs) e in (behind_first side r rs w.0, sorted_rank side rs w.1)

-- ---- the records behind a stretch ----

-- the records behind the first ones that are at a price
abbrev pub past : (price : ℕ) → List Interest → List Interest
past p [] = []
past p (r ∷ rs) = cond (eqb p r.price) (past p rs) (r ∷ rs)

pub past_drop : (p : ℕ) (t : List Interest) → drop (length (front p t)) t ≡ past p t
past_drop p [] = refl
past_drop p (r ∷ rs) = elim (cases_Bool (eqb p r.price)) [ inl e ↦ rw e (past_drop p rs) | inr e ↦ rw e ]

pub rank_past : (side p : ℕ) (t : List Interest) → in_rank (by_price side) t ≡ true → in_rank (by_price side) (past p t) ≡ true
rank_past side p [] e = e
rank_past side p (r ∷ rs) e =
    elim (cases_Bool (eqb p r.price)) [
      | inl w ↦ rw w (rank_past side p rs (and_parts (leads (by_price side) r rs) (in_rank (by_price side) rs) e).1)
      | inr w ↦ rw w e
    ]

pub past_some : (p : ℕ) (t : List Interest) (x : ℕ) → priced x (past p t) ≡ true → priced x t ≡ true
past_some p [] x e = e
past_some p (r ∷ rs) x e =
    elim (cases_Bool (eqb p r.price)) [
      | inl w ↦ or_right (eqb x r.price) (priced x rs) (past_some p rs x (rw w at e))
      | inr w ↦ rw w at e
    ]

pub past_or : (p : ℕ) (t : List Interest) (x : ℕ) → priced x t ≡ true → (x ≡ p) ⊎ (priced x (past p t) ≡ true)
past_or p [] x e = inr e
past_or p (r ∷ rs) x e =
    elim (cases_Bool (eqb p r.price)) [
      | inl w ↦
          elim (or_cases (eqb x r.price) (priced x rs) e) [
            | inl v ↦ inl (eqb-true x r.price v ∙ sym (eqb-true p r.price w))
            | inr v ↦ elim (past_or p rs x v) [ inl z ↦ inl z | inr z ↦ inr (rw w z) ]
          ]
      | inr w ↦ inr (rw w e)
    ]

-- the prices behind a stretch at the best price are worse
pub past_worse : (side p : ℕ) (t : List Interest) → Sorted side t → Behind side p t → (q : ℕ) → priced q (past p t) ≡ true → better side p q ≡ true
past_worse side p [] s b q e = absurd (both_ways false refl e)
past_worse side p (r ∷ rs) s b q e =
    elim (cases_Bool (eqb p r.price)) [
      | inl w ↦ past_worse side p rs s.1 (λ z h. b z (or_right (eqb z r.price) (priced z rs) h)) q (rw w at e)
      | inr w ↦
          let n = b r.price (or_left (eqb r.price r.price) (priced r.price rs) (eq-eqb r.price r.price refl)) in
          let f : better side p r.price ≡ true = better_else side r.price p (λ z. eqb-false p r.price w (sym z)) n in
          let e' : priced q (r ∷ rs) ≡ true = rw w at e in
          elim (or_cases (eqb q r.price) (priced q rs) e') [
            | inl v ↦ subst (λ z. better side p z ≡ true) (sym (eqb-true q r.price v)) f
            | inr v ↦
                let g = s.0 q v in
                elim (cases_Bool (better side p q)) [
                  | inl z ↦ z
                  | inr z ↦ absurd (both_ways (better side p r.price) (not_better_trans side p q r.price z g) f)
                ]
          ]
    ]

none_at : (p : ℕ) (t : List Interest) → ((priced p t ≡ true) → ⊥) → at_price p t ≡ []
none_at p [] n = refl
none_at p (r ∷ rs) n =
    elim (cases_Bool (eqb p r.price)) [
      | inl w ↦ absurd (n (or_left (eqb p r.price) (priced p rs) w))
      | inr w ↦ rw w (none_at p rs (λ h. n (or_right (eqb p r.price) (priced p rs) h)))
    ]

-- the records at the best price are the first ones
pub at_front : (side p : ℕ) (t : List Interest) → Sorted side t → Behind side p t → at_price p t ≡ front p t
at_front side p [] s b = refl
at_front side p (r ∷ rs) s b =
    elim (cases_Bool (eqb p r.price)) [
      | inl w ↦ rw w (ap (λ l. r ∷ l) (at_front side p rs s.1 (λ z h. b z (or_right (eqb z r.price) (priced z rs) h))))
      | inr w ↦
          rw w (none_at p rs (λ h.
          better_self side p (past_worse side p (r ∷ rs) s b p (rw w (or_right (eqb p r.price) (priced p rs) h)))))
    ]

-- at another price the stretch does not count
pub at_past : (p q : ℕ) (t : List Interest) → eqb q p ≡ false → at_price q t ≡ at_price q (past p t)
at_past p q [] n = refl
at_past p q (r ∷ rs) n =
    elim (cases_Bool (eqb p r.price)) [
      | inl w ↦
          let z : eqb q r.price ≡ false = ne_eqb q r.price (λ e. eqb-false q p n (e ∙ sym (eqb-true p r.price w))) in
          rw (w, z) (at_past p q rs n)
      | inr w ↦ rw w refl
    ]

-- no price that there is is better
abbrev pub NoneBetter : (side price : ℕ) → Option ℕ → Type 0
NoneBetter side p None = Unit {0}
NoneBetter side p (Some q) = better side q p ≡ false

-- where no first price is better, none is
pub behind_ahead : (side p : ℕ) (t : List Interest) → Sorted side t → NoneBetter side p (ahead t) → Behind side p t
behind_ahead side p [] s n q e = absurd (both_ways false refl e)
behind_ahead side p (r ∷ rs) s n q e =
    elim (or_cases (eqb q r.price) (priced q rs) e) [
      | inl w ↦ subst (λ z. better side z p ≡ false) (sym (eqb-true q r.price w)) n
      | inr w ↦ not_better_trans side q r.price p (s.0 q w) n
    ]

pub front_some : (p : ℕ) (t : List Interest) → ahead t ≡ Some p → (0 < length (front p t)) × (priced p t ≡ true)
front_some p [] e = cc
front_some p (r ∷ rs) e =
    let is : p ≡ r.price = cc in
    let w = eq-eqb p r.price is in (rw w (omega arith), or_left (eqb p r.price) (priced p rs) w)

-- ---- tables one behind another ----

pub priced_front : (x : ℕ) (a b : List Interest) → priced x a ≡ true → priced x (a ++ b) ≡ true
priced_front x [] b e = absurd (both_ways false refl e)
priced_front x (r ∷ a) b e =
    elim (or_cases (eqb x r.price) (priced x a) e) [
      | inl w ↦ or_left (eqb x r.price) (priced x (a ++ b)) w
      | inr w ↦ or_right (eqb x r.price) (priced x (a ++ b)) (priced_front x a b w)
    ]

pub priced_behind : (x : ℕ) (a b : List Interest) → priced x b ≡ true → priced x (a ++ b) ≡ true
priced_behind x [] b e = e
priced_behind x (r ∷ a) b e = or_right (eqb x r.price) (priced x (a ++ b)) (priced_behind x a b e)

pub priced_cases : (x : ℕ) (a b : List Interest) → priced x (a ++ b) ≡ true → (priced x a ≡ true) ⊎ (priced x b ≡ true)
priced_cases x [] b e = inr e
priced_cases x (r ∷ a) b e =
    elim (or_cases (eqb x r.price) (priced x (a ++ b)) e) [
      | inl w ↦ inl (or_left (eqb x r.price) (priced x a) w)
      | inr w ↦ elim (priced_cases x a b w) [ inl v ↦ inl (or_right (eqb x r.price) (priced x a) v) | inr v ↦ inr v ]
    ]
