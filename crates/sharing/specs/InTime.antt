-- Time order is lawful, and how a loop comes to its shares.
use Rattle.std.specs.Prelude.{◌≡◌, ℕ, ◌+◌, ◌-◌, ◌<◌, min, List, [], ◌∷◌, ◌++◌, length, take, drop, slice_index, slice_set}
use Rattle.std.proofs.Common.{sym, ap, ◌∙◌, arith}
use Rattle.std.proofs.lemmas.List.{at_drop_more}
use Rattle.sharing.specs.Rule.{Fair}
use Rattle.sharing.specs.TimeOrder.{in_time}
use Rattle.sharing.specs.Writing.{wrote}

-- shares in time order are fair
pub time_fair : (n : ℕ) (sizes : List ℕ) → Fair n sizes (in_time n sizes)
time_fair n [] = record { inside = tt; adds_up = omega arith }
time_fair n (size ∷ sizes) =
    let more = time_fair (n - min size n) sizes in
    record { inside = (omega arith, more.inside); adds_up = omega arith }

-- one more entry takes its share
pub time_more : (n : ℕ) (sizes out : List ℕ) (i takes : ℕ) → i < length sizes → i < length out → takes ≡ min (slice_index sizes i) n →
    take (i + 1) (slice_set out i takes) ++ in_time (n - takes) (drop (i + 1) sizes) ≡ take i out ++ in_time n (drop i sizes)
time_more n sizes out i takes l m e =
    wrote out i takes (in_time (n - takes) (drop (i + 1) sizes)) m
    ∙ ap (λ z. take i out ++ (z ∷ in_time (n - z) (drop (i + 1) sizes))) e
    ∙ ap (λ l. take i out ++ l) (sym (at_drop_more (in_time n) sizes i 0 l))
