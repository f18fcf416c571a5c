-- A stretch of a table lowered by its shares is the table lowered by the fills, where no holder stands twice.
use Rattle.std.proofs.Common.{◌≡◌, ℕ, zero, suc, ◌+◌, ◌-◌, ◌≤◌, Bool, true, false, not, ◌||◌, eqb, List, [], ◌∷◌, ◌++◌, map, length, take, drop, sym, refl, ap, ◌∙◌, inl, inr, arith}
use borrow.Rule.Slice.PartMut.{put_mid}
use Rattle.std.proofs.lemmas.List.{take-map, length-map, map-append, take-append-drop, drop-drop, length-take, length-drop}
use Rattle.std.proofs.lemmas.Bool.{ne_eqb, eq-eqb, eqb-false, eqb-true, cases_Bool, and_parts, and_from, or_parts, or_from, not-true, not_from_false}
use Rattle.terms.specs.Numbers.{listed, distinct, within, all_within}
use Rattle.sharing.specs.Rule.{Valid}
use Rattle.kept.specs.Standing.{Interest}
use Rattle.blocks.specs.declared.Fill.{Fill}
use Rattle.model.specs.Fills.{fills, given_to}
use Rattle.model.specs.Tables.{holders_of, sizes_of}
use Rattle.serving.specs.Stretch.{lowered_each, lower_all}
use Rattle.serving.specs.Serving.{Servable, asked_of}
use Rattle.serving.specs.declared.stretch.Portion.{Portion}

-- ---- numbers that stand once ----

abbrev pub Apart : List ℕ → List ℕ → Type 0
Apart [] hs = Unit {0}
Apart (x ∷ xs) hs = (listed x hs ≡ false) × Apart xs hs

or_assoc : (a b c : Bool) → (a || b || c) ≡ (a || (b || c))
or_assoc true b c = refl
or_assoc false b c = refl

listed_append : (x : ℕ) (a b : List ℕ) → listed x (a ++ b) ≡ (listed x a || listed x b)
listed_append x [] b = refl
listed_append x (y ∷ a) b = rw (listed_append x a b) (sym (or_assoc (eqb x y) (listed x a) (listed x b)))

distinct_parts : (a b : List ℕ) → distinct (a ++ b) ≡ true → (distinct a ≡ true) × (distinct b ≡ true) × Apart a b
distinct_parts [] b d = (refl, d, tt)
distinct_parts (x ∷ a) b d =
    let w = and_parts (not (listed x (a ++ b))) (distinct (a ++ b)) d in
    let m = or_parts (listed x a) (listed x b) (sym (listed_append x a b) ∙ not-true (listed x (a ++ b)) w.0) in
    let ih = distinct_parts a b w.1 in
    (and_from (not (listed x a)) (distinct a) (not_from_false (listed x a) m.0) ih.0, ih.1, (m.1, ih.2))

apart_nil : (b : List ℕ) → Apart b []
apart_nil [] = tt
apart_nil (x ∷ b) = (refl, apart_nil b)

apart_add : (y : ℕ) (a b : List ℕ) → Apart b a → listed y b ≡ false → Apart b (y ∷ a)
apart_add y a [] u e = tt
apart_add y a (z ∷ b) u e =
    let w = or_parts (eqb y z) (listed y b) e in
    (or_from (eqb z y) (listed z a) (ne_eqb z y (λ q. eqb-false y z w.0 (sym q))) u.0, apart_add y a b u.1 w.1)

apart_swap : (a b : List ℕ) → Apart a b → Apart b a
apart_swap [] b u = apart_nil b
apart_swap (x ∷ a) b u = apart_add x a b (apart_swap a b u.1) u.0

apart_front : (a b c : List ℕ) → Apart a (b ++ c) → Apart a b
apart_front [] b c u = tt
apart_front (x ∷ a) b c u = ((or_parts (listed x b) (listed x c) (sym (listed_append x b c) ∙ u.0)).0, apart_front a b c u.1)

-- ---- fills of records that are not a holder's ----

given_none : (h : ℕ) (t : List Interest) (sh : List ℕ) → listed h (holders_of t) ≡ false → given_to h (fills t sh) ≡ 0
given_none h [] sh e = refl
given_none h (r ∷ rs) [] e = refl
given_none h (r ∷ rs) (n ∷ ns) e =
    let w = or_parts (eqb h r.holder) (listed h (holders_of rs)) e in
    let ih = given_none h rs ns w.1 in
    elim (cases_Bool (eqb n 0)) [ inl q ↦ rw q ih | inr q ↦ rw (q, w.0) (omega arith) ]

module _ {X : Type 0} (shown : X → Interest) (lower : X → ℕ → X) (still : (x : X) → lower x 0 ≡ x) where
  lower_none : (t : List Interest) (sh : List ℕ) (xs : List X) → Apart (holders_of (map shown xs)) (holders_of t) →
      lower_all shown lower (fills t sh) xs ≡ xs
  lower_none t sh [] u = refl
  lower_none t sh (x ∷ xs) u =
      let z : lower x (given_to (shown x).holder (fills t sh)) ≡ x = ap (lower x) (given_none (shown x).holder t sh u.0) ∙ still x in
      let ih = lower_none t sh xs u.1 in
      ap (λ y. y ∷ lower_all shown lower (fills t sh) xs) z ∙ ap (λ l. x ∷ l) ih

  lower_skip : (f : Fill) (fs : List Fill) (xs : List X) → listed f.holder (holders_of (map shown xs)) ≡ false →
      lower_all shown lower (f ∷ fs) xs ≡ lower_all shown lower fs xs
  lower_skip f fs [] e = refl
  lower_skip f fs (x ∷ xs) e =
      let w = or_parts (eqb f.holder (shown x).holder) (listed f.holder (holders_of (map shown xs))) e in
      let q : eqb (shown x).holder f.holder ≡ false = ne_eqb (shown x).holder f.holder (λ v. eqb-false f.holder (shown x).holder w.0 (sym v)) in
      let n : given_to (shown x).holder (f ∷ fs) ≡ given_to (shown x).holder fs = rw q (omega arith) in
      ap (λ m. lower x m ∷ lower_all shown lower (f ∷ fs) xs) n
      ∙ ap (λ l. lower x (given_to (shown x).holder fs) ∷ l) (lower_skip f fs xs w.1)

  lower_stretch : (xs : List X) (ss : List ℕ) → distinct (holders_of (map shown xs)) ≡ true → length ss ≡ length xs →
      lower_all shown lower (fills (map shown xs) ss) xs ≡ lowered_each lower xs ss
  lower_stretch [] ss d n = refl
  lower_stretch (x ∷ xs) [] d n = absurd (omega arith)
  lower_stretch (x ∷ xs) (s ∷ ss) d n =
      let w = and_parts (not (listed (shown x).holder (holders_of (map shown xs)))) (distinct (holders_of (map shown xs))) d in
      let l = not-true (listed (shown x).holder (holders_of (map shown xs))) w.0 in
      let ih = lower_stretch xs ss w.1 (omega arith) in
      let z = given_none (shown x).holder (map shown xs) ss l in
      elim (cases_Bool (eqb s 0)) [
        | inl q ↦
            let s0 = eqb-true s 0 q in
            let fs : List Fill = fills (map shown xs) ss in
            let fe : fills (map shown (x ∷ xs)) (s ∷ ss) ≡ fs = rw q in
            ap (λ l. lower_all shown lower l (x ∷ xs)) fe
            ∙ ap (λ m. lower x m ∷ lower_all shown lower fs xs) (z ∙ sym s0) ∙ ap (λ l. lower x s ∷ l) ih
        | inr q ↦
            let f : Fill = record { holder = (shown x).holder; contracts = s } in
            let fs : List Fill = fills (map shown xs) ss in
            let fe : fills (map shown (x ∷ xs)) (s ∷ ss) ≡ f ∷ fs = rw q in
            let m : given_to (shown x).holder (f ∷ fs) ≡ s = rw (eq-eqb (shown x).holder (shown x).holder refl) (omega arith) in
            ap (λ l. lower_all shown lower l (x ∷ xs)) fe
            ∙ ap (λ m. lower x m ∷ lower_all shown lower (f ∷ fs) xs) m ∙ ap (λ l. lower x s ∷ l) (lower_skip f fs xs l ∙ ih)
      ]

  -- the whole: what stands before and behind is as it was
  spread : (a s b : List X) (ss : List ℕ) → distinct (holders_of (map shown (a ++ (s ++ b)))) ≡ true → length ss ≡ length s →
      a ++ (lowered_each lower s ss ++ b) ≡ lower_all shown lower (fills (map shown s) ss) (a ++ (s ++ b))
  spread a s b ss d n =
      let hs : List X → List ℕ = λ l. holders_of (map shown l) in
      let e : holders_of (map shown (a ++ (s ++ b))) ≡ hs a ++ (hs s ++ hs b) = simp (map-append, map-append) in
      let p = distinct_parts (hs a) (hs s ++ hs b) (sym (ap distinct e) ∙ d) in
      let q = distinct_parts (hs s) (hs b) p.1 in
      let fs : List Fill = fills (map shown s) ss in
      let f : X → X = λ x. lower x (given_to (shown x).holder fs) in
      let u = lower_none (map shown s) ss a (apart_front (hs a) (hs s) (hs b) p.2) in
      let v = lower_stretch s ss q.0 n in
      let w = lower_none (map shown s) ss b (apart_swap (hs s) (hs b) q.2) in
      let m : map f (a ++ (s ++ b)) ≡ map f a ++ (map f s ++ map f b) = simp (map-append, map-append) in
      sym (m ∙ ap (λ l. l ++ (map f s ++ map f b)) u ∙ ap (λ l. a ++ (l ++ map f b)) v ∙ ap (λ l. a ++ (lowered_each lower s ss ++ l)) w)

-- ---- the stretch from a place to another ----

split : {X : Type 0} (xs : List X) (from to : ℕ) → from ≤ to → take from xs ++ (take (to - from) (drop from xs) ++ drop to xs) ≡ xs
split xs from to le =
    let n : from + (to - from) ≡ to = omega arith in
    let d : drop (to - from) (drop from xs) ≡ drop to xs = drop-drop (to - from) from xs ∙ ap (λ m. drop m xs) n in
    ap (λ l. take from xs ++ (take (to - from) (drop from xs) ++ l)) (sym d)
    ∙ ap (λ l. take from xs ++ l) (take-append-drop (to - from) (drop from xs)) ∙ take-append-drop from xs

-- a part of the slots that was changed in place
part_is : {X : Type 0} (from to : ℕ) (xs ys zs : List X) → from ≤ to → ys ≡ zs → put_mid from (to - from) xs ys ≡ take from xs ++ (zs ++ drop to xs)
part_is from to xs ys zs le e =
    let n : from + (to - from) ≡ to = omega arith in
    let d : drop (to - from) (drop from xs) ≡ drop to xs = drop-drop (to - from) from xs ∙ ap (λ m. drop m xs) n in
    cc

pub part_lowered : {X : Type 0} (shown : X → Interest) (lower : X → ℕ → X) (still : (x : X) → lower x 0 ≡ x) (xs ys : List X) (from to : ℕ) (ss : List ℕ) →
    from ≤ to → distinct (holders_of (map shown xs)) ≡ true → length ss ≡ length (take (to - from) (drop from xs)) →
    ys ≡ lowered_each lower (take (to - from) (drop from xs)) ss →
    put_mid from (to - from) xs ys ≡ lower_all shown lower (fills (map shown (take (to - from) (drop from xs))) ss) xs
part_lowered shown lower still xs ys from to ss le d n e =
    let s = take (to - from) (drop from xs) in
    let w = split xs from to le in
    part_is from to xs ys (lowered_each lower s ss) le e
    ∙ spread shown lower still (take from xs) s (drop to xs) ss (ap (λ l. distinct (holders_of (map shown l))) w ∙ d) n
    ∙ ap (lower_all shown lower (fills (map shown s) ss)) w

all_take : (most n : ℕ) (l : List ℕ) → all_within most l ≡ true → all_within most (take n l) ≡ true
all_take most zero l e = refl
all_take most (suc n) [] e = refl
all_take most (suc n) (x ∷ l) e =
    let w = and_parts (within most x) (all_within most l) e in and_from (within most x) (all_within most (take n l)) w.0 (all_take most n l w.1)

-- what a rule is asked at a stretch is valid
pub valid_stretch : {X : Type 0} (shown : X → Interest) (xs : List X) (from to k : ℕ) (p : Portion) (b : List ℕ) → Servable shown xs from k p.number b →
    from ≤ to → p.number ≤ p.arriving → p.arriving ≤ 999999 → Valid (asked_of (map shown (take (to - from) (drop from xs))) p)
valid_stretch {X} shown xs from to k p b v le i j =
    let s = take (to - from) (drop from xs) in
    let hs : List X → List ℕ = λ l. holders_of (map shown l) in
    let u = length-take (to - from) (drop from xs) in
    let u' = length-drop from xs in
    let few = v.room.few in
    let free = v.room.free in
    let lh = length-map (map shown s) (λ (r : Interest). r.holder) ∙ length-map s shown in
    let ls = length-map (map shown s) (λ (r : Interest). r.left) ∙ length-map s shown in
    let e : hs xs ≡ hs (take from xs) ++ (hs s ++ hs (drop to xs)) = sym (ap hs (split xs from to le)) ∙ simp (map-append, map-append) in
    let apart = distinct_parts (hs (take from xs)) (hs s ++ hs (drop to xs)) (sym (ap distinct e) ∙ v.once) in
    let once = distinct_parts (hs s) (hs (drop to xs)) apart.1 in
    record {
      paired = ls ∙ sym lh;
      few = omega arith;
      once = once.0;
      sized = ap (all_within 99999) (ap sizes_of (sym (take-map shown (to - from) (drop from xs))) ∙ sym (take-map (λ (r : Interest). r.left) (to - from) (map shown (drop from xs))))
          ∙ all_take 99999 (to - from) (sizes_of (map shown (drop from xs))) v.sized;
      share = i;
      arrives = j;
    }
