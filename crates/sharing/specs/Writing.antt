-- Rows that a loop writes from the front on: what stands so far, and behind it what is still to come.
use Rattle.std.specs.Prelude.{◌≡◌, ℕ, ◌+◌, ◌<◌, ◌≤◌, List, [], ◌∷◌, ◌++◌, length, take, slice_set}
use Rattle.std.proofs.Common.{sym, ap, ◌∙◌}
use Rattle.std.proofs.lemmas.List.{take_more_set, append_assoc, append-nil, take_all}

-- one more number is written
pub wrote : (out : List ℕ) (i v : ℕ) (rest : List ℕ) → i < length out → take (i + 1) (slice_set out i v) ++ rest ≡ take i out ++ (v ∷ rest)
wrote out i v rest lt = ap (λ l. l ++ rest) (take_more_set out i v lt) ∙ append_assoc (take i out) (v ∷ []) rest

-- all are written
pub wrote_all : (out rest goal : List ℕ) (i : ℕ) → length out ≤ i → rest ≡ [] → take i out ++ rest ≡ goal → out ≡ goal
wrote_all out rest goal i le e g =
    sym (take_all i out le) ∙ sym (append-nil (take i out)) ∙ ap (λ l. take i out ++ l) (sym e) ∙ g
