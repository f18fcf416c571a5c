-- A stretch of a table at one price.
use Rattle.std.proofs.Common.{◌≡◌, ℕ, ◌+◌, ◌-◌, ◌≤◌, eqb, List, [], ◌∷◌, map, length, take, drop, sym, refl, ap, ◌∙◌, inl, inr, arith}
use Rattle.std.specs.List.{prefix_len}
use Rattle.std.proofs.lemmas.List.{take-map}
use Rattle.std.proofs.lemmas.Bool.{cases_Bool}
use Rattle.std.proofs.lemmas.Bool.Decides.{nat_tests}
use Rattle.kept.specs.Standing.{Interest}
use Rattle.serving.specs.Stretch.{front, here}

-- how many of the first records are at a price
pub front_run : {X : Type 0} (shown : X → Interest) (p : ℕ) (xs : List X) → prefix_len (λ x. eqb (shown x).price p) xs ≡ length (front p (map shown xs))
front_run shown p [] = refl
front_run shown p (x ∷ xs) = let ih = front_run shown p xs in grind (arith, nat_tests)

pub front_few : (p : ℕ) (t : List Interest) → length (front p t) ≤ length t
front_few p [] = omega arith
front_few p (r ∷ rs) = let ih = front_few p rs in elim (cases_Bool (eqb p r.price)) [ inl e ↦ rw e (omega arith) | inr e ↦ rw e (omega arith) ]

front_take : (p : ℕ) (t : List Interest) → take (length (front p t)) t ≡ front p t
front_take p [] = refl
front_take p (r ∷ rs) = elim (cases_Bool (eqb p r.price)) [ inl e ↦ rw e (ap (λ l. r ∷ l) (front_take p rs)) | inr e ↦ rw e ]

-- the stretch, shown
pub shown_stretch : {X : Type 0} (shown : X → Interest) (xs : List X) (from to p : ℕ) → to ≡ from + length (here shown from p xs) →
    map shown (take (to - from) (drop from xs)) ≡ here shown from p xs
shown_stretch shown xs from to p e =
    let n : to - from ≡ length (here shown from p xs) = omega arith in
    sym (take-map shown (to - from) (drop from xs)) ∙ ap (λ m. take m (map shown (drop from xs))) n ∙ front_take p (map shown (drop from xs))
