-- Lists made place by place.
use Rattle.std.proofs.Common.{◌≡◌, ℕ, zero, suc, ◌<◌, ◌≤◌, List, [], ◌∷◌, map, length, get_or, refl, arith}
use Rattle.std.proofs.lemmas.List.{nil_from_length}
use Rattle.sharing.specs.Rule.{EachWithin}
use Rattle.kept.specs.Standing.{Interest}
use Rattle.model.specs.Tables.{sizes_of}
use Rattle.serving.specs.Stretch.{lowered_each}

-- a list of numbers that is `f` of each record at its place is the map
pub mapped_is : {X : Type 0} (shown : X → Interest) (f : Interest → ℕ) (xs : List X) (ys : List ℕ) → length ys ≡ length xs →
    ((k : ℕ) (d : X) → k < length xs → get_or ys k 0 ≡ f (shown (get_or xs k d))) → ys ≡ map f (map shown xs)
mapped_is shown f [] ys same at = nil_from_length ys same
mapped_is shown f (x ∷ xs) [] same at = absurd (omega arith)
mapped_is shown f (x ∷ xs) (y ∷ ys) same at =
    let here : y ≡ f (shown x) = at 0 x (omega arith) in
    let rest : ys ≡ map f (map shown xs) = mapped_is shown f xs ys (omega arith) (λ k d h. at (suc k) d (omega arith)) in
    cc

-- one that is lowered at each place is the list lowered
pub lowered_is : {X : Type 0} (f : X → ℕ → X) (xs ys : List X) (ss : List ℕ) → length ys ≡ length xs → length ss ≡ length xs →
    ((k : ℕ) (d : X) → k < length xs → get_or ys k d ≡ f (get_or xs k d) (get_or ss k 0)) → ys ≡ lowered_each f xs ss
lowered_is f [] ys ss same n at = nil_from_length ys same
lowered_is f (x ∷ xs) [] ss same n at = absurd (omega arith)
lowered_is f (x ∷ xs) (y ∷ ys) [] same n at = absurd (omega arith)
lowered_is f (x ∷ xs) (y ∷ ys) (s ∷ ss) same n at =
    let here : y ≡ f x s = at 0 x (omega arith) in
    let rest : ys ≡ lowered_each f xs ss = lowered_is f xs ys ss (omega arith) (omega arith) (λ k d h. at (suc k) d (omega arith)) in
    cc

-- shares inside the sizes: as many, and each within
pub within_length : {X : Type 0} (shown : X → Interest) (xs : List X) (ss : List ℕ) → EachWithin ss (sizes_of (map shown xs)) → length ss ≡ length xs
within_length shown [] [] w = refl
within_length shown (x ∷ xs) (s ∷ ss) w = let ih = within_length shown xs ss w.1 in omega arith
within_length shown [] (s ∷ ss) w = absurd w
within_length shown (x ∷ xs) [] w = absurd w

pub within_at : {X : Type 0} (shown : X → Interest) (xs : List X) (ss : List ℕ) → EachWithin ss (sizes_of (map shown xs)) →
    (k : ℕ) (d : X) → k < length xs → get_or ss k 0 ≤ (shown (get_or xs k d)).left
within_at shown [] ss w k d h = absurd (omega arith)
within_at shown (x ∷ xs) [] w k d h = absurd w
within_at shown (x ∷ xs) (s ∷ ss) w zero d h = w.0
within_at shown (x ∷ xs) (s ∷ ss) w (suc k) d h = within_at shown xs ss w.1 k d (omega arith)
