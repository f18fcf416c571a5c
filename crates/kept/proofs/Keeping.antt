-- What a list keeps from call to call, and what each call promises of it.
use Rattle.std.proofs.Common.{◌≡◌, ℕ, zero, suc, ◌+◌, ◌-◌, ◌<◌, ◌≤◌, Bool, true, List, [], ◌∷◌, ◌++◌, length, get_or, take, drop, set, replicate, Some, sym, refl, ap, ◌∙◌, subst, inl, inr, arith}
use Rattle.std.proofs.Math.Seq.{take-set-lt}
use Rattle.std.proofs.lemmas.List.Edits.{length-insert, length-remove}
use Rattle.std.proofs.lemmas.List.{length-set, length-take, length-take-le, length-drop, length-append, length-replicate, get_or-take, take_all, take_at, drop_all, drop_at, drop-drop, drop-set-lt}
use Rattle.std.proofs.lemmas.List.Sums.{prefix_len-le-length}
use Rattle.std.proofs.lemmas.Bool.{cases_lt, and_parts, and_from, lt-ltb}
use Rattle.std.proofs.lemmas.Option.{slice_get-get_or, slice_get_within}
use Rattle.std.specs.List.{insert, remove, slice_get}
use Rattle.kept.specs.Inserting.{place_of, in_rank, Total, Chained}
use Rattle.kept.specs.Kept.{places, standing, behind, all, StaysSound, SameExtent, Made, Entered, Left, Overwritten, Alike}
use Rattle.kept.specs.declared.list.KeptList.{KeptList}
use Rattle.kept.proofs.Entering.{from_in_rank, to_in_rank, in_rank_removed, in_rank_set, orderly}

-- ---- the record at a place ----

pub stands_at : {R : Type 0} (l : KeptList R) (k : ℕ) (x d : R) → k < length (standing l) → x ≡ get_or (places l) k d → slice_get (standing l) k ≡ Some x
stands_at l k x d lt e =
    slice_get-get_or (standing l) k d lt
    ∙ ap Some (get_or-take l.count (places l) k d (omega (arith, length-take l.count (places l))) ∙ sym e)

-- ---- vacant places ----

module _ {R : Type 0} (vacant : R → Bool) where
  all_replicate : (n : ℕ) (blank : R) → vacant blank ≡ true → all vacant (replicate n blank) ≡ true
  all_replicate zero blank v = refl
  all_replicate (suc n) blank v = and_from _ _ v (all_replicate n blank v)

  -- one place fewer
  vacant_fewer : (n bound : ℕ) (xs ys : List R) → n < bound → ys ≡ drop 1 xs → all vacant (take (bound - n) xs) ≡ true →
      all vacant (take (bound - (n + 1)) ys) ≡ true
  vacant_fewer n bound [] ys lt e a = ap (λ l. all vacant (take (bound - (n + 1)) l)) e ∙ ap (all vacant) (take_all (bound - (n + 1)) [] (omega arith))
  vacant_fewer n bound (x ∷ xs) ys lt e a =
      let m : bound - n ≡ suc (bound - (n + 1)) = omega arith in
      rw e (and_parts _ _ (rw m at a)).1

  -- one place more
  vacant_more : (n bound : ℕ) (x : R) (xs ys : List R) → vacant x ≡ true → 0 < n → n ≤ bound → ys ≡ x ∷ xs → all vacant (take (bound - n) xs) ≡ true →
      all vacant (take (bound - (n - 1)) ys) ≡ true
  vacant_more n bound x xs ys v pos le e a =
      let m : bound - (n - 1) ≡ suc (bound - n) = omega arith in
      rw (e, m) (and_from _ _ v a)

  -- all places
  vacant_all : (n bound : ℕ) (blank : R) (xs ys : List R) → vacant blank ≡ true → n ≡ 0 → xs ≡ replicate bound blank ++ ys →
      all vacant (take (bound - n) (drop n xs)) ≡ true
  vacant_all n bound blank xs ys v z e =
      let m : bound - n ≡ bound = omega arith in
      ap (all vacant) (ap (λ k. take (bound - n) (drop k xs)) z ∙ ap (λ k. take k xs) m ∙ ap (take bound) e ∙ take_at _ _ bound (length-replicate bound blank))
      ∙ all_replicate bound blank v

-- ---- a new list ----

module _ {R : Type 0} (blank : R) (lent : List R) (l : KeptList R) where
  pub made : l.bound ≤ length lent → places l ≡ replicate l.bound blank ++ drop l.bound lent → l.count ≡ 0 → Made blank l.bound lent l
  made le e z =
      record {
        cleared = e;
        none = z;
        bounded = refl;
        sound = λ nw vacant v. (
          omega arith,
          omega (arith, simp (length-append, length-replicate) at (ap length e)),
          subst (λ k. in_rank nw (take k (places l)) ≡ true) (sym z) refl,
          vacant_all vacant l.count l.bound blank (places l) (drop l.bound lent) v z e,
        );
      }

-- ---- a record that enters, leaves or is written over ----

module _ {R : Type 0} (blank x : R) (place : ℕ) (old new : KeptList R) (bound : new.bound ≡ old.bound) where
  module _ (nw : R → R → Bool) (total : Total nw) (chained : Chained nw) (count : new.count ≡ old.count + 1)
      (slots : places new ≡ insert (standing old) place x ++ drop (old.count + 1) (places old))
      (few : old.count < old.bound) (fits : old.count < length (places old)) (placed : place ≡ place_of nw x (standing old)) where
    long : length (insert (standing old) place x) ≡ new.count
    long =
        let t = length-take-le old.count (places old) (omega arith) in
        let l = prefix_len-le-length (λ y. nw y x) (standing old) in
        omega (arith, length-insert (standing old) place x (omega arith))

    has_entered : Entered nw x place old new
    has_entered =
        record {
          room = and_from _ _ (lt-ltb _ _ few) (lt-ltb _ _ fits);
          placed = placed;
          stand = ap (take new.count) slots ∙ take_at _ _ new.count long;
          rest =
              ap (drop new.count) slots ∙ drop_at _ _ new.count long ∙ sym (drop-drop 1 old.count (places old));
          count = count;
        }

    same_extent : SameExtent old new
    same_extent =
        let n = ap length slots ∙ length-append (insert (standing old) place x) (drop (old.count + 1) (places old)) in
        record { bound = bound; long = omega (arith, long, length-drop (old.count + 1) (places old)) }

    pub entered : record { inserts : Entered nw x place old new; same : SameExtent old new; keeps : StaysSound nw blank old new }
    entered =
        record {
          inserts = has_entered;
          same = same_extent;
          keeps = λ vacant v s. (
            omega arith,
            omega (arith, same_extent.long),
            ap (in_rank nw) (has_entered.stand ∙ ap (λ k. insert (standing old) k x) placed) ∙ (orderly nw total chained).stays_in_rank x (standing old) s.2,
            ap (all vacant) (ap (λ k. take (k - new.count) (behind new)) bound ∙ ap (λ k. take (old.bound - k) (behind new)) count)
                ∙ vacant_fewer vacant old.count old.bound (behind old) (behind new) few has_entered.rest s.3,
          );
        }

  module _ (n : ℕ) (count : new.count ≡ n - 1)
      (slots : places new ≡ remove (take n (places old)) place ++ blank ∷ drop n (places old))
      (lt : place < n) (counted : n ≡ length (standing old)) (within : n ≤ length (places old)) (first : standing old ≡ take n (places old))
      (stood : slice_get (standing old) place ≡ Some x) where
    short : length (remove (take n (places old)) place) ≡ new.count
    short =
        let t = length-take-le n (places old) within in
        omega (arith, length-remove (take n (places old)) place (omega arith))

    -- behind the records that are counted stand the same as behind those that there are
    behind_first : behind old ≡ drop n (places old)
    behind_first =
        let m = length-take old.count (places old) in
        elim (cases_lt old.count (length (places old))) [
          | inl l ↦ ap (λ k. drop k (places old)) (omega arith)
          | inr l ↦ drop_all old.count (places old) l ∙ sym (drop_all n (places old) (omega arith))
        ]

    has_left : Left blank place x old new
    has_left =
        record {
          stood = stood;
          stand = ap (take new.count) slots ∙ take_at _ _ new.count short ∙ ap (λ l. remove l place) (sym first);
          rest = ap (drop new.count) slots ∙ drop_at _ _ new.count short ∙ ap (λ l. blank ∷ l) (sym behind_first);
          count = omega arith;
        }

    same_extent_left : SameExtent old new
    same_extent_left =
        let m = ap length slots ∙ length-append (remove (take n (places old)) place) (blank ∷ drop n (places old)) in
        record { bound = bound; long = omega (arith, short, length-drop n (places old)) }

    pub left : (ranks : ℕ → R → R → Bool) → record {
      removes : Left blank place x old new;
      same : SameExtent old new;
      keeps : (side : ℕ) → StaysSound (ranks side) blank old new;
    }
    left ranks =
        record {
          removes = has_left;
          same = same_extent_left;
          keeps = λ side vacant v s.
              let l = same_extent_left.long in
              let nw = ranks side in
              let all_stand = length-take-le old.count (places old) (omega arith) in
              let n_is : n ≡ old.count = omega arith in (
                omega arith,
                omega arith,
                ap (in_rank nw) has_left.stand ∙ to_in_rank nw (remove (standing old) place) (in_rank_removed nw (standing old) place (from_in_rank nw (standing old) s.2)),
                ap (all vacant) (ap (λ k. take (k - new.count) (behind new)) bound ∙ ap (λ k. take (old.bound - k) (behind new)) (count ∙ ap (λ k. k - 1) n_is))
                    ∙ vacant_more vacant old.count old.bound blank (behind old) (behind new) v (omega arith) s.0 has_left.rest s.3,
              );
        }

  module _ (was : R) (count : new.count ≡ old.count) (slots : places new ≡ set (places old) place x) (stood : slice_get (standing old) place ≡ Some was) where
    counted_place : place < old.count
    counted_place = omega (arith, slice_get_within (standing old) place was stood, length-take old.count (places old))

    has_overwritten : Overwritten place x was old new
    has_overwritten =
        record {
          stood = stood;
          stand = ap (λ k. take k (places new)) count ∙ ap (take old.count) slots ∙ take-set-lt old.count (places old) place x counted_place;
          rest = ap (λ k. drop k (places new)) count ∙ ap (drop old.count) slots ∙ drop-set-lt old.count (places old) place x counted_place;
          count = count;
        }

    same_extent_overwritten : SameExtent old new
    same_extent_overwritten = record { bound = bound; long = ap length slots ∙ length-set (places old) place x }

    pub overwritten : (ranks : ℕ → R → R → Bool) → record {
      replaces : Overwritten place x was old new;
      same : SameExtent old new;
      keeps : (side : ℕ) → Alike (ranks side) x was → StaysSound (ranks side) blank old new;
    }
    overwritten ranks =
        record {
          replaces = has_overwritten;
          same = same_extent_overwritten;
          keeps = λ side alike vacant v s.
              let l = same_extent_overwritten.long in
              let nw = ranks side in (
                omega arith,
                omega arith,
                ap (in_rank nw) has_overwritten.stand
                    ∙ to_in_rank nw (set (standing old) place x) (in_rank_set nw (standing old) place x was stood alike (from_in_rank nw (standing old) s.2)),
                ap (all vacant) (ap (λ k. take (k - new.count) (behind new)) bound ∙ ap (λ k. take (old.bound - k) (behind new)) count ∙ ap (take (old.bound - old.count)) has_overwritten.rest)
                    ∙ s.3,
              );
        }
