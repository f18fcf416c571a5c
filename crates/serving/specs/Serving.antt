-- One class served at one price.
use Rattle.std.specs.Prelude.{◌≡◌, ℕ, ◌+◌, ◌-◌, ◌≤◌, true, List, map, length, drop}
use Rattle.terms.specs.Numbers.{sum, distinct, all_within}
use Rattle.sharing.specs.Rule.{Inputs}
use Rattle.blocks.specs.declared.Fill.{Fill}
use Rattle.kept.specs.Standing.{Interest}
use Rattle.model.specs.Fills.{fills}
use Rattle.model.specs.Tables.{holders_of, sizes_of}
use Rattle.model.specs.Trading.{Rule, asks}
use Rattle.serving.specs.Filling.{Roomy, all_filled_in}
use Rattle.serving.specs.Stretch.{here, lowered_each, lower_all}
use Rattle.serving.specs.declared.class.Served.{Served}
use Rattle.serving.specs.declared.stretch.Portion.{Portion}

-- what a rule is asked: to share a portion among the records at a price
abbrev pub asked_of : List Interest → Portion → Inputs
asked_of rs p = asks rs p.arriving p.number p.directed

-- what a class is before it is served from a place on: no holder twice, sizes in range, and a block with room for what may come
pub record Servable {X : Type 0} (shown : X → Interest) (xs : List X) (from places number : ℕ) (b : List ℕ) : Type 0 where
  pub inside : from ≤ length xs
  pub once : distinct (holders_of (map shown xs)) ≡ true
  pub sized : all_within 99999 (sizes_of (map shown (drop from xs))) ≡ true
  pub room : Roomy places (length xs - from) number b

-- the shares of a portion among records, by a rule in its state
abbrev pub shares_of : {S : Type 0} → Rule S → S → Portion → List Interest → List ℕ
shares_of R s p rs = R.shares s (asked_of rs p)

-- a portion shared among the records xs by a rule in its state s: what is left, and the records, the state and the block after it
pub record SharesOut {X S : Type 0} (shown : X → Interest) (lower : X → ℕ → X) (R : Rule S) (p : Portion) (places : ℕ)
    (xs : List X) (s : S) (b : List ℕ) (n : ℕ) (xs' : List X) (s' : S) (b' : List ℕ) : Type 0 where
  pub left : n ≡ p.number - sum (shares_of R s p (map shown xs))
  pub rule : s' ≡ R.next s (asked_of (map shown xs) p)
  pub records : xs' ≡ lowered_each lower xs (shares_of R s p (map shown xs))
  pub block : b' ≡ all_filled_in places (fills (map shown xs) (shares_of R s p (map shown xs))) b

-- the fills of the stretch at a price that begins at a place
abbrev pub fills_here : {X S : Type 0} → (X → Interest) → Rule S → (from price : ℕ) → Portion → List X → S → List Fill
fills_here shown R from price p xs s = fills (here shown from price xs) (shares_of R s p (here shown from price xs))

-- a portion shared among the stretch at a price that begins at a place; the class can then be served from where the stretch ends
pub record Serves {X S : Type 0} (shown : X → Interest) (lower : X → ℕ → X) (R : Rule S) (from price : ℕ) (p : Portion) (places : ℕ)
    (xs : List X) (s : S) (b : List ℕ) (r : Served) (xs' : List X) (s' : S) (b' : List ℕ) : Type 0 where
  pub to : r.to ≡ from + length (here shown from price xs)
  pub left : r.left ≡ p.number - sum (shares_of R s p (here shown from price xs))
  pub rule : s' ≡ R.next s (asked_of (here shown from price xs) p)
  pub records : xs' ≡ lower_all shown lower (fills_here shown R from price p xs s) xs
  pub rest : drop r.to xs' ≡ drop r.to xs
  pub block : b' ≡ all_filled_in places (fills_here shown R from price p xs s) b
  pub ready : Servable shown xs' r.to places r.left b'
