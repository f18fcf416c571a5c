-- What an accepted Make, and a call that is carried out, are known to have.
use Rattle.std.proofs.Common.{◌≡◌, ℕ, suc, ◌<◌, ◌≤◌, Bool, true, false, cond, not, ◌&&◌, ◌||◌, eqb, ltb, List, [], ◌∷◌, length, refl, arith}
use Rattle.std.proofs.lemmas.Bool.{and_parts, not-false, ltb-false, leb-false}
use Rattle.terms.specs.Numbers.{listed, within, distinct, all_within}
use Rattle.model.specs.Make.{Accepted}
use Rattle.model.specs.Refusals.{Check, ◌if◌, first, orders, refusal}
use Rattle.model.specs.Tables.{Tables, has, left_to}
use Rattle.model.specs.Words.{Three, of, enter, reduce, quote, trade}

-- a check that let a call pass
pub passed : (n : ℕ) (b : Bool) (k : ℕ) → cond b (suc n) k ≡ 0 → (b ≡ false) × (k ≡ 0)
passed n true k e = absurd (omega arith)
passed n false k e = (refl, e)

-- the roster of an accepted Make
pub record RosterAllowed (roster : List ℕ) : Type 0 where
  pub few : length roster ≤ 16
  pub numbered : all_within 65535 roster ≡ true

pub roster_allowed : (side : ℕ) (roster : List ℕ) → Accepted side roster → RosterAllowed roster
roster_allowed side roster a =
    let good : Bool = all_within 65535 roster && distinct roster in
    let later : List Check =
    5 if not (eqb a.specialist 0 || listed a.specialist roster)
    ∷ 6 if (ltb a.lengths.customers 64 || (ltb a.lengths.makers 16 || ltb a.lengths.firms 64)) ∷ [] in
    let x = passed 1 (not (eqb side 1 || eqb side 2)) (first (3 if ltb 16 (length roster) ∷ 4 if not good ∷ later)) a.no_refusal in
    let y = passed 2 (ltb 16 (length roster)) (first (4 if not good ∷ later)) x.1 in
    let z = passed 3 (not good) (first later) y.1 in
    record {
      few = ltb-false 16 (length roster) y.0;
      numbered = (and_parts (all_within 65535 roster) (distinct roster) (not-false good z.0)).0;
    }

module _ (roster : List ℕ) (ts : Tables) where
  -- a carried-out Enter
  pub record EnterAllowed (k n p s : ℕ) : Type 0 where
    pub class_ok : orders k ≡ true
    pub number_ok : within 999999 n ≡ true
    pub price_ok : within 999999 p ≡ true
    pub size_ok : within 99999 s ≡ true
    pub new : has n (of k ts) ≡ false
    pub room : length (of k ts) < 64

  pub enter_allowed : (k n p s : ℕ) → refusal roster ts (enter k n p s) ≡ 0 → EnterAllowed k n p s
  enter_allowed k n p s e =
      let x7 = passed 6 _ _ e in
      let x8 = passed 7 _ _ x7.1 in
      let x9 = passed 8 _ _ x8.1 in
      let x10 = passed 9 _ _ x9.1 in
      let x11 = passed 10 _ _ x10.1 in
      let x12 = passed 11 _ _ x11.1 in
      record {
        class_ok = not-false (orders k) x7.0;
        number_ok = not-false (within 999999 n) x8.0;
        price_ok = not-false (within 999999 p) x9.0;
        size_ok = not-false (within 99999 s) x10.0;
        new = x11.0;
        room = leb-false 64 (length (of k ts)) x12.0;
      }

  -- a carried-out Reduce takes no more than is left
  pub reduce_allowed : (k n red : ℕ) → refusal roster ts (reduce k n red) ≡ 0 → red ≤ left_to n (of k ts)
  reduce_allowed k n red e =
      let x7 = passed 6 (not (orders k)) _ e in
      let x8 = passed 7 (not (within 999999 n)) _ x7.1 in
      let x10 = passed 9 (not (within 99999 red)) _ x8.1 in
      let x13 = passed 12 (not (has n (of k ts))) _ x10.1 in
      ltb-false (left_to n (of k ts)) red (passed 13 (ltb (left_to n (of k ts)) red) 0 x13.1).0

  -- a carried-out Quote; one of size 0 may have any price
  pub record QuoteAllowed (party p s : ℕ) : Type 0 where
    pub on_roster : listed party roster ≡ true
    pub size_ok : s ≤ 99999
    pub price_ok : eqb s 0 ≡ false → within 999999 p ≡ true

  pub quote_allowed : (party p s : ℕ) → refusal roster ts (quote party p s) ≡ 0 → QuoteAllowed party p s
  quote_allowed party p s e =
      let x15 = passed 14 _ _ e in
      let x10 = passed 9 _ _ x15.1 in
      let x9 : (not (eqb s 0) && not (within 999999 p)) ≡ false = (passed 8 _ _ x10.1).0 in
      record {
        on_roster = not-false (listed party roster) x15.0;
        size_ok = ltb-false 99999 s x10.0;
        price_ok = λ z. not-false (within 999999 p) (rw z at x9);
      }

  -- the size of a carried-out Trade
  pub trade_allowed : (limit size directed : ℕ) (given : Three (List ℕ)) → refusal roster ts (trade limit size directed given) ≡ 0 → within 999999 size ≡ true
  trade_allowed limit size directed given e =
      let x9 = passed 8 (not (within 999999 limit)) _ e in
      not-false (within 999999 size) (passed 9 (not (within 999999 size)) _ x9.1).0
