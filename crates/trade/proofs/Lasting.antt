-- A list that is kept in rank, with vacant places behind its records, is kept so by a Trade.
use Rattle.std.proofs.Common.{◌≡◌, ℕ, zero, suc, ◌+◌, ◌-◌, ◌≤◌, Bool, true, false, cond, List, [], ◌∷◌, ◌++◌, length, take, replicate, filter, refl, ap, ◌∙◌, subst, arith}
use Rattle.std.proofs.lemmas.Bool.{and_parts, and_from}
use Rattle.blocks.specs.declared.Fill.{Fill}
use Rattle.kept.specs.Inserting.{leads, in_rank}
use Rattle.kept.specs.Kept.{places, standing, behind, all, SameExtent}
use Rattle.kept.specs.Standing.{Interest}
use Rattle.kept.specs.declared.KeptList.{KeptList}
use Rattle.model.specs.Fills.{given_to}
use Rattle.serving.specs.Stretch.{lower_all}
use Rattle.trade.specs.Compaction.{has_left}
use Rattle.trade.specs.Rows.{SettlesRow}
use Rattle.trade.specs.Trades.{Settles}

-- ---- rank ----

module _ {X : Type 0} (nw : X → X → Bool) where
  leads_cond : (b : Bool) (x y : X) (ys : List X) → nw x y ≡ true → leads nw x ys ≡ true → leads nw x (cond b (y ∷ ys) ys) ≡ true
  leads_cond true x y ys e l = and_from (nw x y) (leads nw x ys) e l
  leads_cond false x y ys e l = l

  rank_cond : (b : Bool) (y : X) (ys : List X) → leads nw y ys ≡ true → in_rank nw ys ≡ true → in_rank nw (cond b (y ∷ ys) ys) ≡ true
  rank_cond true y ys l r = and_from (leads nw y ys) (in_rank nw ys) l r
  rank_cond false y ys l r = r

  -- where contracts do not rank, records that are lowered or leave do not change the rank of the others
  module _ (shown : X → Interest) (lower : X → ℕ → X) (fs : List Fill) (same : (x y : X) (m n : ℕ) → nw (lower x m) (lower y n) ≡ nw x y) where
    leads_left : (x : X) (m : ℕ) (xs : List X) → leads nw x xs ≡ true → leads nw (lower x m) (filter (has_left shown) (lower_all shown lower fs xs)) ≡ true
    leads_left x m [] e = refl
    leads_left x m (y ∷ ys) e =
        let n : ℕ = given_to (shown y).holder fs in
        let w = and_parts (nw x y) (leads nw x ys) e in
        leads_cond (has_left shown (lower y n)) (lower x m) (lower y n) (filter (has_left shown) (lower_all shown lower fs ys)) (same x y m n ∙ w.0)
        (leads_left x m ys w.1)

    rank_left : (xs : List X) → in_rank nw xs ≡ true → in_rank nw (filter (has_left shown) (lower_all shown lower fs xs)) ≡ true
    rank_left [] e = refl
    rank_left (x ∷ xs) e =
        let m : ℕ = given_to (shown x).holder fs in
        let w = and_parts (leads nw x xs) (in_rank nw xs) e in
        rank_cond (has_left shown (lower x m)) (lower x m) (filter (has_left shown) (lower_all shown lower fs xs)) (leads_left x m xs w.0) (rank_left xs w.1)

-- ---- vacant places ----

vacant_more : {X : Type 0} (vacant : X → Bool) (blank : X) → vacant blank ≡ true → (n m : ℕ) (xs : List X) → all vacant (take m xs) ≡ true →
    all vacant (take (n + m) (replicate n blank ++ xs)) ≡ true
vacant_more vacant blank v zero m xs a = let e : m ≡ 0 + m = omega arith in subst (λ k. all vacant (take k xs) ≡ true) e a
vacant_more vacant blank v (suc n) m xs a =
    let e : suc (n + m) ≡ suc n + m = omega arith in
    subst (λ k. all vacant (take k (blank ∷ (replicate n blank ++ xs))) ≡ true) e
    (and_from (vacant blank) (all vacant (take (n + m) (replicate n blank ++ xs))) v (vacant_more vacant blank v n m xs a))

-- ---- the list ----

pub settled : {X : Type 0} (ranks : ℕ → X → X → Bool) (shown : X → Interest) (lower : X → ℕ → X) (blank : X) (fs : List Fill) (old new : KeptList X) →
    ((side : ℕ) (x y : X) (m n : ℕ) → ranks side (lower x m) (lower y n) ≡ ranks side x y) →
    SettlesRow shown lower blank fs old.count (places old) new.count (places new) → SameExtent old new →
    Settles ranks shown lower blank fs old new
settled ranks shown lower blank fs old new alike s same =
    record {
      few = s.few;
      stand = s.stand;
      rest = s.rest;
      same = same;
      keeps = λ side vacant v sound.
          let few = s.few in
          let b = same.bound in
          let l = same.long in
          let c1 = sound.0 in
          let c2 = sound.1 in
          let n : (old.count - new.count) + (old.bound - old.count) ≡ new.bound - new.count = omega arith in (
            (let z : new.count ≤ new.bound = omega arith in z),
            (let z : new.bound ≤ length (places new) = omega arith in z),
            ap (in_rank (ranks side)) s.stand ∙ rank_left (ranks side) shown lower fs (alike side) (standing old) sound.2,
            ap (λ xs. all vacant (take (new.bound - new.count) xs)) s.rest
                ∙ subst (λ k. all vacant (take k (replicate (old.count - new.count) blank ++ behind old)) ≡ true) n
                (vacant_more vacant blank v (old.count - new.count) (old.bound - old.count) (behind old) sound.3),
          );
    }
