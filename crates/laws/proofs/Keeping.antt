-- Through a possible day the tables stay sound, and are as the day tells.
use Rattle.std.proofs.Common.{◌≡◌, ℕ, true, List, [], refl, arith}
use Rattle.terms.specs.Numbers.{within}
use Rattle.model.specs.Book.{cleared}
use Rattle.model.specs.Make.{Accepted}
use Rattle.model.specs.Tables.{Tables}
use Rattle.model.specs.Words.{of, enter, reduce, withdraw, quote, trade, tally, answered, refused, event, ∅, ◌▸◌, Day}
use Rattle.laws.specs.Possible.{ComesTo}
use Rattle.laws.proofs.Allowed.{roster_allowed}
use Rattle.laws.proofs.Calls.{State, enter_keeps, withdraw_keeps, reduce_keeps, trade_keeps, quote_keeps}
use Rattle.laws.proofs.Classes.{by_class}
use Rattle.laws.proofs.Sound.{Sound, Told}

module _ (side : ℕ) (roster : List ℕ) (acc : Accepted side roster) where
  pub kept : (d : Day) (ts : Tables) → ComesTo side roster d ts → (c : ℕ) → within 3 c ≡ true → State side roster c (of c ts) d
  kept ∅ ts e c w =
      rw e (by_class (λ c. State side roster c (of c cleared) ∅) at_first at_first at_first c w)
    where
      at_first : {c : ℕ} → Sound side roster c [] × Told [] (λ h. 0) (λ h. 0) 0 0 0
      at_first = (
        record { once = tt; fit = tt; few = omega arith; ranked = tt },
        record { contracts = λ h. refl; priced = λ h p. absurd (omega arith); balanced = refl },
      )
  kept (d ▸ event call (refused n)) ts x c w = rw x.last.next (kept d x.before x.earlier c w)
  kept (d ▸ event (enter k n p s) (answered a)) ts x c w =
      let y = x.last in
      let st = kept d x.before x.earlier c w in
      rw y.next (enter_keeps side roster c w x.before d y.given k n p s a y.not_refused st)
  kept (d ▸ event (reduce k n red) (answered a)) ts x c w =
      let y = x.last in
      let st = kept d x.before x.earlier c w in
      rw y.next (reduce_keeps side roster c w x.before d y.given k n red a y.not_refused st)
  kept (d ▸ event (withdraw k n) (answered a)) ts x c w =
      let y = x.last in
      let st = kept d x.before x.earlier c w in
      rw y.next (withdraw_keeps side roster c w x.before d y.given k n a y.not_refused y.answers st)
  kept (d ▸ event (quote party p s) (answered a)) ts x c w =
      let y = x.last in
      let st = kept d x.before x.earlier c w in
      let few = (roster_allowed side roster acc).few in
      rw y.next (quote_keeps side roster c w x.before d few y.given party p s a y.not_refused y.answers st)
  kept (d ▸ event (trade limit size directed given) (answered a)) ts x c w =
      let y = x.last in
      let st = kept d x.before x.earlier in
      rw (y.next, y.answers) (trade_keeps side roster c w x.before d y.left y.given limit size directed given y.may_fill st)
  kept (d ▸ event (tally k) (answered a)) ts x c w = rw x.last.next (kept d x.before x.earlier c w)
