-- The three classes by their number.
use Rattle.std.proofs.Common.{◌≡◌, ℕ, true, false, cond, eqb, List, [], ◌++◌, refl, ap, ◌∙◌, inl, inr, arith}
use Rattle.std.proofs.lemmas.Bool.{cases_eq}
use Rattle.terms.specs.Numbers.{within}
use Rattle.blocks.specs.Blocks.{block}
use Rattle.kept.specs.Standing.{Interest}
use Rattle.model.specs.Fills.{blocks_of, less, fills, Fills, none, then_fills, less_all, fills_at}
use Rattle.model.specs.Tables.{Tables, at_price, with_table}
use Rattle.model.specs.Trading.{at_level}
use Rattle.model.specs.Words.{places, Three, of}
use Rattle.laws.proofs.Lists.{within_parts, eqb_sym}

pub by_class : (P : ℕ → Type 0) → P 1 → P 2 → P 3 → (c : ℕ) → within 3 c ≡ true → P c
by_class P a b d c e =
    let w = within_parts 3 c e in
    elim (cases_eq c 1) [
      | inl x ↦ rw x a
      | inr x ↦
          elim (cases_eq c 2) [
            | inl y ↦ rw y b
            | inr y ↦ let z : c ≡ 3 = omega arith in rw z d
          ]
    ]

module _ (c : ℕ) (w : within 3 c ≡ true) where
  pub of_then : (x y : Fills) → of c (then_fills x y) ≡ of c x ++ of c y
  of_then x y = by_class (λ c. of c (then_fills x y) ≡ of c x ++ of c y) refl refl refl c w

  pub of_none : of c none ≡ []
  of_none = by_class (λ c. of c none ≡ []) refl refl refl c w

  pub of_level : (p : ℕ) (ts : Tables) → of c (at_level p ts) ≡ at_price p (of c ts)
  of_level p ts = by_class (λ c. of c (at_level p ts) ≡ at_price p (of c ts)) refl refl refl c w

  pub of_fills : (here : Tables) (sh : Three (List ℕ)) →
      of c (fills_at here sh.customers sh.makers sh.firms) ≡ fills (of c here) (of c sh)
  of_fills here sh =
      by_class (λ c. of c (fills_at here sh.customers sh.makers sh.firms) ≡ fills (of c here) (of c sh)) refl refl refl c w

  pub of_less : (f : Fills) (ts : Tables) → of c (less_all f ts) ≡ less (of c f) (of c ts)
  of_less f ts = by_class (λ c. of c (less_all f ts) ≡ less (of c f) (of c ts)) refl refl refl c w

  pub of_blocks : (f : Fills) → of c (blocks_of f) ≡ block (places c) (of c f)
  of_blocks f = by_class (λ c. of c (blocks_of f) ≡ block (places c) (of c f)) refl refl refl c w

  pub of_with : (k : ℕ) (t : List Interest) (ts : Tables) → of c (with_table k t ts) ≡ cond (eqb c k) t (of c ts)
  of_with k t ts =
      by_class (λ c. of c (with_table k t ts) ≡ cond (eqb k c) t (of c ts)) refl refl refl c w
      ∙ ap (λ b. cond b t (of c ts)) (eqb_sym k c)

  -- a table of another class
  pub of_other : (k : ℕ) → eqb c k ≡ false → (t : List Interest) (ts : Tables) → of c (with_table k t ts) ≡ of c ts
  of_other k e t ts = of_with k t ts ∙ ap (λ b. cond b t (of c ts)) e
