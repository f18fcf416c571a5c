-- Rows after a record was put in or taken out by a turn of those behind it.
use Rattle.std.proofs.Common.{◌≡◌, ℕ, ◌+◌, ◌-◌, ◌<◌, ◌≤◌, List, ◌∷◌, ◌++◌, length, take, drop, set, refl, ap, ◌∙◌, arith, rules}
use borrow.Rule.Slice.PartMut.{put_mid, mid_of}
use Rattle.std.proofs.lemmas.List.{places, same_lists, get_or-set_same}
use Rattle.std.proofs.lemmas.Bool.{cases_eq}
use Rattle.std.specs.List.{insert, remove}

module _ {R : Type 0} (xs : List R) (place count : ℕ) (x : R) where
  pub put_in : (ys : List R) → (let mid = mid_of place (count + 1 - place) xs in ys ≡ drop (length mid - 1) mid ++ take (length mid - 1) mid) →
      place ≤ count → count < length xs → set (put_mid place (count + 1 - place) xs ys) place x ≡ insert (take count xs) place x ++ drop (count + 1) xs
  put_in ys turned le lt =
      ap (λ l. set (put_mid place (count + 1 - place) xs l) place x) turned
      ∙ same_lists _ _ (search (rules, places)) (λ k d h. grind (arith, places, get_or-set_same, cases_eq k place))

  -- the turn by one, written `n`
  turned_out : (n : ℕ) → n ≡ 1 → place < count → count ≤ length xs → (let mid = mid_of place (count - place) xs in
      set (put_mid place (count - place) xs (drop n mid ++ take n mid)) (count - 1) x ≡ remove (take count xs) place ++ x ∷ drop count xs)
  turned_out n one lt le = same_lists _ _ (search (rules, places)) (λ k d h. grind (arith, places, get_or-set_same, cases_eq k (count - 1)))

  pub taken_out : (ys : List R) → (let mid = mid_of place (count - place) xs in ys ≡ drop 1 mid ++ take 1 mid) →
      place < count → count ≤ length xs → set (put_mid place (count - place) xs ys) (count - 1) x ≡ remove (take count xs) place ++ x ∷ drop count xs
  taken_out ys turned lt le = ap (λ l. set (put_mid place (count - place) xs l) (count - 1) x) turned ∙ turned_out 1 refl lt le
