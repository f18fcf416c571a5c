-- No more holders than a list has.
use Rattle.std.proofs.Common.{◌≡◌, ℕ, suc, ◌<◌, ◌≤◌, true, false, cond, eqb, List, [], ◌∷◌, length, sym, refl, ◌∙◌, inl, inr, arith}
use Rattle.std.proofs.lemmas.Bool.Decides.{eqb_tells}
use Rattle.std.proofs.lemmas.Bool.{or_parts, cases_Bool, both_ways, ne_eqb, eqb-false}
use Rattle.std.specs.List.{AllByRecursion as All}
use Rattle.terms.specs.Numbers.{listed}
use Rattle.kept.specs.Standing.{Interest}
use Rattle.model.specs.Tables.{has, holders_of}
use Rattle.laws.proofs.Lists.{Once}

abbrev off : ℕ → List ℕ → List ℕ
off k [] = []
off k (y ∷ ys) = cond (eqb k y) ys (y ∷ off k ys)

length_off : (k : ℕ) (ys : List ℕ) → listed k ys ≡ true → length ys ≡ suc (length (off k ys))
length_off k [] e = absurd (both_ways false refl e)
length_off k (y ∷ ys) e =
    elim (cases_Bool (eqb k y)) [
      | inl w ↦ rw w refl
      | inr w ↦ rw w (let a = length_off k ys (rw w at e) in omega arith)
    ]

listed_off : (k x : ℕ) (ys : List ℕ) → listed x ys ≡ true → eqb k x ≡ false → listed x (off k ys) ≡ true
listed_off k x [] e n = e
listed_off k x (y ∷ ys) e n =
    elim (eqb_tells k y) [
      | inl w ↦
          let z : eqb x y ≡ false = ne_eqb x y (λ q. eqb-false k x n (w.1 ∙ sym q)) in
          rw w.0 (rw z at e)
      | inr w ↦ rw w.0 (
          elim (cases_Bool (eqb x y)) [ inl z ↦ rw z | inr z ↦ rw z (listed_off k x ys (rw z at e) n) ])
    ]

each_off : (k : ℕ) (ys : List ℕ) (t : List Interest) → has k t ≡ false → All (λ (r : Interest). listed r.holder ys ≡ true) t →
    All (λ (r : Interest). listed r.holder (off k ys) ≡ true) t
each_off k ys [] e g = tt
each_off k ys (r ∷ rs) e g =
    let w = or_parts (eqb k r.holder) (has k rs) e in
    (listed_off k r.holder ys g.0 w.0, each_off k ys rs w.1 g.1)

as_few : (t : List Interest) (ys : List ℕ) → Once (holders_of t) → All (λ (r : Interest). listed r.holder ys ≡ true) t → length t ≤ length ys
as_few [] ys o g = omega arith
as_few (r ∷ rs) ys o g =
    let a = as_few rs (off r.holder ys) o.1 (each_off r.holder ys rs o.0 g.1) in
    let b = length_off r.holder ys g.0 in omega arith

-- a listed one that is not among them leaves room
pub as_fewer : (ys : List ℕ) (k : ℕ) (t : List Interest) → listed k ys ≡ true → has k t ≡ false → Once (holders_of t) →
    All (λ (r : Interest). listed r.holder ys ≡ true) t → length t < length ys
as_fewer ys k t l e o g =
    let a = as_few t (off k ys) o (each_off k ys t e g) in
    let b = length_off k ys l in omega arith
