-- Fills: what they give to a holder, and the shares that make them.
use Rattle.std.proofs.Common.{◌≡◌, ℕ, ◌+◌, ◌≤◌, cond, eqb, List, [], ◌∷◌, ◌++◌, length, inl, inr, arith}
use Rattle.std.proofs.lemmas.Bool.Decides.{eqb_tells}
use Rattle.std.proofs.lemmas.Bool.{cases_Bool}
use Rattle.terms.specs.Numbers.{sum}
use Rattle.blocks.specs.declared.Fill.{Fill}
use Rattle.kept.specs.Standing.{Interest}
use Rattle.sharing.specs.Rule.{EachWithin}
use Rattle.model.specs.Fills.{given_to, fills}
use Rattle.model.specs.Tables.{left_to, sizes_of, holders_of}
use Rattle.laws.proofs.Lists.{Once}
use Rattle.laws.proofs.Lookup.{left_none}

-- ---- fills behind fills ----

pub given_append : (h : ℕ) (xs ys : List Fill) → given_to h (xs ++ ys) ≡ given_to h xs + given_to h ys
given_append h [] ys = omega arith
given_append h (x ∷ xs) ys = let a = given_append h xs ys in omega arith

-- ---- shares ----

within_sum : (ns ms : List ℕ) → EachWithin ns ms → sum ns ≤ sum ms
within_sum [] [] e = omega arith
within_sum [] (m ∷ ms) e = omega arith
within_sum (n ∷ ns) [] e = absurd e
within_sum (n ∷ ns) (m ∷ ms) e = let a = within_sum ns ms e.1 in omega arith

-- what the fills of some shares give, one share further
pub fills_more : (h : ℕ) (r : Interest) (rs : List Interest) (n : ℕ) (ns : List ℕ) →
    given_to h (fills (r ∷ rs) (n ∷ ns)) ≡ cond (eqb h r.holder) n 0 + given_to h (fills rs ns)
fills_more h r rs n ns =
    elim (eqb_tells n 0) [
      | inl e ↦ rw (e.0, e.1) (elim (cases_Bool (eqb h r.holder)) [ inl w ↦ rw w (omega arith) | inr w ↦ rw w (omega arith) ])
      | inr e ↦ rw e.0
    ]

pub fills_under : (h : ℕ) (rs : List Interest) (ns : List ℕ) → Once (holders_of rs) → EachWithin ns (sizes_of rs) → given_to h (fills rs ns) ≤ left_to h rs
fills_under h [] ns g e = omega arith
fills_under h (r ∷ rs) [] g e = absurd e
fills_under h (r ∷ rs) (n ∷ ns) g e =
    let ih = fills_under h rs ns g.1 e.1 in
    let m = fills_more h r rs n ns in
    elim (eqb_tells h r.holder) [
      | inl w ↦
          let z : left_to h rs ≡ 0 = rw w.1 (left_none r.holder rs g.0) in
          let m' = rw w.0 at m in let x = e.0 in rw w.0 (omega arith)
      | inr w ↦ let m' = rw w.0 at m in rw w.0 (omega arith)
    ]

pub fills_some : (h : ℕ) (rs : List Interest) (ns : List ℕ) → given_to h (fills rs ns) ≤ sum ns
fills_some h [] ns = omega arith
fills_some h (r ∷ rs) [] = omega arith
fills_some h (r ∷ rs) (n ∷ ns) =
    let ih = fills_some h rs ns in
    let m = fills_more h r rs n ns in
    elim (cases_Bool (eqb h r.holder)) [
      | inl w ↦ let m' = rw w at m in omega arith
      | inr w ↦ let m' = rw w at m in omega arith
    ]

-- shares that use up all
pub fills_full : (h : ℕ) (rs : List Interest) (ns : List ℕ) → EachWithin ns (sizes_of rs) → sum (sizes_of rs) ≤ sum ns →
    left_to h rs ≤ given_to h (fills rs ns)
fills_full h [] ns e s = omega arith
fills_full h (r ∷ rs) [] e s = absurd e
fills_full h (r ∷ rs) (n ∷ ns) e s =
    let b = within_sum ns (sizes_of rs) e.1 in
    let x = e.0 in
    let ih = fills_full h rs ns e.1 (omega arith) in
    let m = fills_more h r rs n ns in
    elim (cases_Bool (eqb h r.holder)) [
      | inl w ↦ let m' = rw w at m in rw w (omega arith)
      | inr w ↦ let m' = rw w at m in rw w (omega arith)
    ]

pub length_fills : (rs : List Interest) (ns : List ℕ) → length (fills rs ns) ≤ length rs
length_fills [] ns = omega arith
length_fills (r ∷ rs) [] = omega arith
length_fills (r ∷ rs) (n ∷ ns) =
    let ih = length_fills rs ns in
    elim (cases_Bool (eqb n 0)) [ inl e ↦ rw e (omega arith) | inr e ↦ rw e (omega arith) ]
