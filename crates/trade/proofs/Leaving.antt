-- The records that have contracts left are the table less the fills.
use Rattle.std.proofs.Common.{◌≡◌, ℕ, ◌-◌, true, false, cond, ltb, List, [], ◌∷◌, map, filter, sym, refl, ap, ◌∙◌, inl, inr, arith}
use Rattle.std.proofs.lemmas.Bool.{lt-ltb, le-ltb}
use Rattle.std.proofs.lemmas.Bool.Decides.{eqb_tells}
use Rattle.kept.specs.Standing.{Interest, with_left}
use Rattle.blocks.specs.declared.Fill.{Fill}
use Rattle.model.specs.Fills.{given_to, less}
use Rattle.serving.specs.Stretch.{lower_all}
use Rattle.trade.specs.Compaction.{has_left}

pub kept_less : {X : Type 0} (shown : X → Interest) (lower : X → ℕ → X) →
    ((x : X) (n : ℕ) → shown (lower x n) ≡ with_left ((shown x).left - n) (shown x)) → (fs : List Fill) (xs : List X) →
    map shown (filter (has_left shown) (lower_all shown lower fs xs)) ≡ less fs (map shown xs)
kept_less shown lower shows fs [] = refl
kept_less shown lower shows fs (x ∷ xs) =
    let g : ℕ = given_to (shown x).holder fs in
    let n : ℕ = (shown x).left - g in
    let ys = lower_all shown lower fs xs in
    let ih = kept_less shown lower shows fs xs in
    let e : shown (lower x g) ≡ with_left n (shown x) = shows x g in
    elim (eqb_tells n 0) [
      | inl w ↦
          let q : has_left shown (lower x g) ≡ false = ap (λ r. ltb 0 r.left) e ∙ le-ltb 0 n (omega (arith, w.1)) in
          ap (λ b. map shown (cond b (lower x g ∷ filter (has_left shown) ys) (filter (has_left shown) ys))) q ∙ ih
          ∙ sym (ap (λ b. cond b (less fs (map shown xs)) (with_left n (shown x) ∷ less fs (map shown xs))) w.0)
      | inr w ↦
          let k = w.1 in
          let q : has_left shown (lower x g) ≡ true = ap (λ r. ltb 0 r.left) e ∙ lt-ltb 0 n (omega arith) in
          ap (λ b. map shown (cond b (lower x g ∷ filter (has_left shown) ys) (filter (has_left shown) ys))) q
          ∙ ap (λ r. r ∷ map shown (filter (has_left shown) ys)) e ∙ ap (λ l. with_left n (shown x) ∷ l) ih
          ∙ sym (ap (λ b. cond b (less fs (map shown xs)) (with_left n (shown x) ∷ less fs (map shown xs))) w.0)
    ]
