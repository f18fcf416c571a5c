-- Shares entered as fills, one record after another.
use Rattle.std.proofs.Common.{◌≡◌, ℕ, ◌<◌, List, ◌∷◌, map, sym, ◌∙◌, arith}
use Rattle.std.proofs.lemmas.Bool.{ne_eqb}
use Rattle.kept.specs.Standing.{Interest}
use Rattle.blocks.specs.Writing.{filled_in}
use Rattle.model.specs.Fills.{fills}
use Rattle.serving.specs.Filling.{all_filled_in}

module _ {X : Type 0} (shown : X → Interest) (k : ℕ) where
  some_here : (x : X) (s : ℕ) (xs : List X) (ss b : List ℕ) → 0 < s →
      all_filled_in k (fills (map shown (x ∷ xs)) (s ∷ ss)) b ≡ all_filled_in k (fills (map shown xs) ss) (filled_in k (record { holder = (shown x).holder; contracts = s }) b)
  some_here x s xs ss b h = rw (ne_eqb s 0 (omega arith))

  -- a share above 0 is entered
  pub enter_some : (x : X) (s h : ℕ) (xs xs' : List X) (ss ss' b b' goal : List ℕ) → xs ≡ x ∷ xs' → ss ≡ s ∷ ss' → 0 < s → h ≡ (shown x).holder →
      b' ≡ filled_in k (record { holder = h; contracts = s }) b →
      all_filled_in k (fills (map shown xs) ss) b ≡ goal → all_filled_in k (fills (map shown xs') ss') b' ≡ goal
  enter_some x s h xs xs' ss ss' b b' goal e f p q w g = rw (w, q) (sym (some_here x s xs' ss' b p) ∙ rw (e, f) at g)
