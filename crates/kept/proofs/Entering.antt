-- Lists in rank stay in rank where a record enters, leaves or is written over, and records of one rank stand as they arrived.
use Rattle.std.proofs.Common.{◌≡◌, ℕ, zero, suc, Bool, true, false, not, List, [], ◌∷◌, ◌++◌, get_or, take, drop, set, Some, fold, filter, sym, refl, ap, ◌∙◌, subst, inl, inr, one-add, arith}
use Rattle.std.proofs.ByRecursion.{All-weaker, All-append, All-take, All-drop, All-set}
use Rattle.std.proofs.lemmas.List.Edits.{get_or-insert_at}
use Rattle.std.proofs.lemmas.List.{append_assoc, append-nil}
use Rattle.std.proofs.lemmas.List.Sums.{prefix_len-le-length}
use Rattle.std.proofs.lemmas.Bool.{cases_Bool, or_cases, and_parts, and_from, both_ways}
use Rattle.std.specs.List.{remove, AllByRecursion as All, slice_get}
use Rattle.kept.specs.Inserting.{place_of, entered, leads, in_rank, Total, Chained, level, Orderly}
use Rattle.kept.specs.Kept.{Alike}

-- ---- rank as a test and as a fact of each record ----

module _ {R : Type 0} (nw : R → R → Bool) where
  abbrev pub InRank : List R → Type 0
  InRank [] = Unit {0}
  InRank (x ∷ xs) = All (λ y. nw x y ≡ true) xs × InRank xs

  from_leads : (x : R) (xs : List R) → leads nw x xs ≡ true → All (λ y. nw x y ≡ true) xs
  from_leads x [] e = tt
  from_leads x (y ∷ ys) e = let p = and_parts _ _ e in (p.0, from_leads x ys p.1)

  to_leads : (x : R) (xs : List R) → All (λ y. nw x y ≡ true) xs → leads nw x xs ≡ true
  to_leads x [] a = refl
  to_leads x (y ∷ ys) a = and_from _ _ a.0 (to_leads x ys a.1)

  pub from_in_rank : (xs : List R) → in_rank nw xs ≡ true → InRank xs
  from_in_rank [] e = tt
  from_in_rank (x ∷ xs) e = let p = and_parts _ _ e in (from_leads x xs p.0, from_in_rank xs p.1)

  pub to_in_rank : (xs : List R) → InRank xs → in_rank nw xs ≡ true
  to_in_rank [] g = refl
  to_in_rank (x ∷ xs) g = and_from _ _ (to_leads x xs g.0) (to_in_rank xs g.1)

-- ---- where a record goes, one record at a time ----

module _ {R : Type 0} (nw : R → R → Bool) (x y : R) (ys : List R) where
  pub entered_further : nw y x ≡ true → entered nw x (y ∷ ys) ≡ y ∷ entered nw x ys
  entered_further e = rw (e, one-add)

  pub entered_here : nw y x ≡ false → entered nw x (y ∷ ys) ≡ x ∷ y ∷ ys
  entered_here e = rw e

-- ---- rank ----

module _ {R : Type 0} (nw : R → R → Bool) where
  pub all_entered : (P : R → Type 0) (x : R) (xs : List R) → P x → All P xs → All P (entered nw x xs)
  all_entered P x xs p a =
      All-append P (take (place_of nw x xs) xs) (x ∷ drop (place_of nw x xs) xs) (All-take P (place_of nw x xs) xs a) (p, All-drop P (place_of nw x xs) xs a)

  pub in_rank_removed : (xs : List R) (k : ℕ) → InRank nw xs → InRank nw (remove xs k)
  in_rank_removed [] zero g = tt
  in_rank_removed [] (suc k) g = tt
  in_rank_removed (x ∷ xs) zero g = g.1
  in_rank_removed (x ∷ xs) (suc k) g =
      (All-append _ (take k xs) (drop (suc k) xs) (All-take _ k xs g.0) (All-drop _ (suc k) xs g.0), in_rank_removed xs k g.1)

  all_nth : (P : R → Type 0) (xs : List R) (k : ℕ) (x : R) → slice_get xs k ≡ Some x → All P xs → P x
  all_nth P [] k x e a = absurd (let z : ◌≡◌ {A = ℕ} 0 1 = cc in omega arith)
  all_nth P (y ∷ ys) zero x e a = let s : y ≡ x = cc in subst P s a.0
  all_nth P (y ∷ ys) (suc k) x e a = all_nth P ys k x e a.1

  pub in_rank_set : (xs : List R) (k : ℕ) (x was : R) → slice_get xs k ≡ Some was → Alike nw x was → InRank nw xs → InRank nw (set xs k x)
  in_rank_set [] k x was e s g = tt
  in_rank_set (y ∷ ys) zero x was e s g =
      let same : y ≡ was = cc in
      (All-weaker (λ z. nw y z ≡ true) (λ z. nw x z ≡ true) (λ z h. (s z).0 ∙ ap (λ w. nw w z) (sym same) ∙ h) ys g.0, g.1)
  in_rank_set (y ∷ ys) (suc k) x was e s g =
      (All-set (λ z. nw y z ≡ true) ys k x ((s y).1 ∙ all_nth (λ z. nw y z ≡ true) ys k was e g.0) g.0, in_rank_set ys k x was e s g.1)

  module _ (total : Total nw) (chained : Chained nw) where
    -- a record that is not no worse than another is worse
    worse : (x y : R) → nw x y ≡ false → nw y x ≡ true
    worse x y e = elim (or_cases (nw x y) (nw y x) (total x y)) [ inl h ↦ absurd (both_ways _ e h) | inr h ↦ h ]

    pub in_rank_entered : (x : R) (xs : List R) → InRank nw xs → InRank nw (entered nw x xs)
    in_rank_entered x [] g = (tt, tt)
    in_rank_entered x (y ∷ ys) g =
        elim (cases_Bool (nw y x)) [
          | inl e ↦ rw (entered_further nw x y ys e) (all_entered (λ z. nw y z ≡ true) x ys e g.0, in_rank_entered x ys g.1)
          | inr e ↦
              let h = worse y x e in
              rw (entered_here nw x y ys e) ((h, All-weaker (λ z. nw y z ≡ true) (λ z. nw x z ≡ true) (λ z l. chained x y z h l) ys g.0), g)
        ]

    -- whatever stands behind a record that is worse than x is worse than x
    all_worse : (x y : R) (ys : List R) → nw y x ≡ false → All (λ z. nw y z ≡ true) ys → All (λ z. nw z x ≡ false) ys
    all_worse x y ys e a =
        All-weaker (λ z. nw y z ≡ true) (λ z. nw z x ≡ false)
        (λ z h. elim (cases_Bool (nw z x)) [ inl t ↦ absurd (both_ways _ e (chained y z x h t)) | inr f ↦ f ]) ys a

-- ---- filters ----

module _ {R : Type 0} (p : R → Bool) where
  kept_none : (xs : List R) → All (λ x. p x ≡ false) xs → filter p xs ≡ []
  kept_none [] a = refl
  kept_none (x ∷ xs) a = rw a.0 (kept_none xs a.1)

  kept_all : (xs : List R) → All (λ x. p x ≡ true) xs → filter p xs ≡ xs
  kept_all [] a = refl
  kept_all (x ∷ xs) a = rw a.0 (ap (λ l. x ∷ l) (kept_all xs a.1))

-- ---- the laws ----

module _ {R : Type 0} (nw : R → R → Bool) (total : Total nw) (chained : Chained nw) where
  behind_no_worse : (x : R) (xs : List R) → InRank nw xs → entered nw x xs ≡ filter (λ y. nw y x) xs ++ x ∷ filter (λ y. not (nw y x)) xs
  behind_no_worse x [] g = refl
  behind_no_worse x (y ∷ ys) g =
      elim (cases_Bool (nw y x)) [
        | inl e ↦ entered_further nw x y ys e ∙ rw e (ap (λ l. y ∷ l) (behind_no_worse x ys g.1))
        | inr e ↦
            let w = all_worse nw total chained x y ys e g.0 in
            let a = kept_none (λ z. nw z x) ys w in
            let b = kept_all (λ z. not (nw z x)) ys (All-weaker (λ z. nw z x ≡ false) (λ z. not (nw z x) ≡ true) (λ z h. ap not h) ys w) in
            entered_here nw x y ys e ∙ rw (e, a, b)
      ]

  others_stay : (x : R) (xs : List R) → remove (entered nw x xs) (place_of nw x xs) ≡ xs
  others_stay x [] = refl
  others_stay x (y ∷ ys) =
      elim (cases_Bool (nw y x)) [
        | inl e ↦ rw (e, one-add) (ap (λ l. y ∷ l) (others_stay x ys))
        | inr e ↦ rw e
      ]

  newcomer : (x d : R) (xs : List R) → get_or (entered nw x xs) (place_of nw x xs) d ≡ x
  newcomer x d xs = get_or-insert_at xs (place_of nw x xs) x d (prefix_len-le-length (λ y. nw y x) xs)

  -- of one rank, the newcomer is the last
  last_of_level : (z x : R) (xs : List R) → InRank nw xs → filter (level nw z) (entered nw x xs) ≡ filter (level nw z) xs ++ filter (level nw z) (x ∷ [])
  last_of_level z x [] g = refl
  last_of_level z x (y ∷ ys) g =
      elim (cases_Bool (nw y x)) [
        | inl e ↦
            rw (entered_further nw x y ys e, last_of_level z x ys g.1)
            (elim (cases_Bool (level nw z y)) [ inl l ↦ rw l | inr l ↦ rw l ])
        | inr e ↦ rw (entered_here nw x y ys e)
            (elim (cases_Bool (level nw z x)) [
              | inl l ↦
                  let w : All (λ v. nw v x ≡ false) (y ∷ ys) = (e, all_worse nw total chained x y ys e g.0) in
                  let n = kept_none (level nw z) (y ∷ ys) (All-weaker (λ v. nw v x ≡ false) (λ v. level nw z v ≡ false) (λ v h. apart v h l) (y ∷ ys) w) in
                  rw (l, n)
              | inr l ↦ rw l (sym (append-nil _))
            ])
      ]
    where
      -- what is worse than x is not of x's rank
      apart : (v : R) → nw v x ≡ false → level nw z x ≡ true → level nw z v ≡ false
      apart v h l =
          elim (cases_Bool (level nw z v)) [
            | inl m ↦ absurd (both_ways _ h (chained v z x (and_parts _ _ m).1 (and_parts _ _ l).0))
            | inr m ↦ m
          ]

  -- records that arrive at a list in rank
  arrive : (z : R) (xs arrived : List R) → InRank nw xs →
      filter (level nw z) (fold (λ l y. entered nw y l) xs arrived) ≡ filter (level nw z) xs ++ filter (level nw z) arrived
  arrive z xs [] g = sym (append-nil _)
  arrive z xs (y ∷ ys) g =
      arrive z (entered nw y xs) ys (in_rank_entered nw total chained y xs g)
      ∙ ap (λ l. l ++ filter (level nw z) ys) (last_of_level z y xs g)
      ∙ append_assoc (filter (level nw z) xs) (filter (level nw z) (y ∷ [])) (filter (level nw z) ys)
      ∙ ap (λ l. filter (level nw z) xs ++ l) (elim (cases_Bool (level nw z y)) [ inl l ↦ rw l | inr l ↦ rw l ])

  pub orderly : Orderly nw
  orderly =
      record {
        stays_in_rank = λ x xs g. to_in_rank nw (entered nw x xs) (in_rank_entered nw total chained x xs (from_in_rank nw xs g));
        behind_no_worse = λ x xs g. behind_no_worse x xs (from_in_rank nw xs g);
        others_stay = others_stay;
        newcomer = newcomer;
        by_arrival = λ z arrived. arrive z [] arrived tt;
      }
