-- What a fill that is written into a block leaves: its count and total, its room for more, and the block of one fill more.
use Rattle.std.proofs.Common.{◌≡◌, ℕ, ◌+◌, ◌<◌, ◌≤◌, List, [], ◌∷◌, length, get_or, set, refl, ap, ◌∙◌, arith, length-set}
use Rattle.std.proofs.lemmas.List.{get_or-set_same, get_or-set_other}
use Rattle.blocks.specs.Blocks.{filled_by}
use Rattle.blocks.specs.Reading.{count_in, total_in}
use Rattle.blocks.specs.declared.Fill.{Fill}
use Rattle.blocks.specs.Writing.{filled_in}
use Rattle.serving.specs.Filling.{Roomy, all_filled_in}

-- ---- the length, the count and the total of a row ----

length_filled : (k : ℕ) (f : Fill) (b : List ℕ) → length (filled_in k f b) ≡ length b
unfolding filled_in
length_filled k f b = simp length-set

count_set : (b : List ℕ) (i j x y m n : ℕ) → 0 < length b → get_or (set (set (set (set b i x) j y) 0 m) 1 n) 0 0 ≡ m
count_set b i j x y m n h =
    get_or-set_other (set (set (set b i x) j y) 0 m) 1 0 n 0 (omega arith)
    ∙ get_or-set_same (set (set b i x) j y) 0 m 0 (simp length-set h)

total_set : (b : List ℕ) (i j x y m n : ℕ) → 1 < length b → get_or (set (set (set (set b i x) j y) 0 m) 1 n) 1 0 ≡ n
total_set b i j x y m n h = get_or-set_same (set (set (set b i x) j y) 0 m) 1 n 0 (simp length-set h)

count_filled : (k : ℕ) (f : Fill) (b : List ℕ) → 1 < length b → count_in (filled_in k f b) ≡ count_in b + 1
unfolding filled_in
count_filled k f b l = count_set b _ _ _ _ _ _ (omega arith)

total_filled : (k : ℕ) (f : Fill) (b : List ℕ) → 1 < length b → total_in (filled_in k f b) ≡ total_in b + f.contracts
unfolding filled_in
total_filled k f b l = total_set b _ _ _ _ _ _ l

length_all : (k : ℕ) (fs : List Fill) (b : List ℕ) → length (all_filled_in k fs b) ≡ length b
length_all k [] b = refl
length_all k (f ∷ fs) b = length_all k fs (filled_in k f b) ∙ length_filled k f b

pub count_all : (k : ℕ) (fs : List Fill) (b : List ℕ) → 1 < length b → count_in (all_filled_in k fs b) ≡ count_in b + length fs
count_all k [] b l = omega arith
count_all k (f ∷ fs) b l =
    let e = length_filled k f b in
    let a = count_all k fs (filled_in k f b) (omega arith) in
    let d = count_filled k f b l in
    omega arith

total_all : (k : ℕ) (fs : List Fill) (b : List ℕ) → 1 < length b → total_in (all_filled_in k fs b) ≡ total_in b + filled_by fs
total_all k [] b l = omega arith
total_all k (f ∷ fs) b l =
    let e = length_filled k f b in
    let a = total_all k fs (filled_in k f b) (omega arith) in
    let d = total_filled k f b l in
    omega arith

-- ---- room ----

pub room_less : (k m n m' n' : ℕ) (b : List ℕ) → Roomy k m n b → m' ≤ m → n' ≤ n → Roomy k m' n' b
room_less k m n m' n' b r le le' =
    let free = r.free in
    let most = r.most in
    record { long = r.long; few = r.few; free = omega arith; most = omega arith }

pub room_filled : (k m n m' n' : ℕ) (f : Fill) (b b' : List ℕ) → Roomy k m n b → b' ≡ filled_in k f b → m' + 1 ≤ m → n' + f.contracts ≤ n →
    Roomy k m' n' b'
room_filled k m n m' n' f b b' r e le le' =
    let long = r.long in
    let free = r.free in
    let most = r.most in
    let l : length b' ≡ length b = ap length e ∙ length_filled k f b in
    let c : count_in b' ≡ count_in b + 1 = ap count_in e ∙ count_filled k f b (omega arith) in
    let t : total_in b' ≡ total_in b + f.contracts = ap total_in e ∙ total_filled k f b (omega arith) in
    record { long = omega arith; few = r.few; free = omega arith; most = omega arith }

pub room_all : (k m n m' n' : ℕ) (fs : List Fill) (b b' : List ℕ) → Roomy k m n b → b' ≡ all_filled_in k fs b → m' + length fs ≤ m → n' + filled_by fs ≤ n →
    Roomy k m' n' b'
room_all k m n m' n' fs b b' r e le le' =
    let long = r.long in
    let free = r.free in
    let most = r.most in
    let l : length b' ≡ length b = ap length e ∙ length_all k fs b in
    let c : count_in b' ≡ count_in b + length fs = ap count_in e ∙ count_all k fs b (omega arith) in
    let t : total_in b' ≡ total_in b + filled_by fs = ap total_in e ∙ total_all k fs b (omega arith) in
    record { long = omega arith; few = r.few; free = omega arith; most = omega arith }
