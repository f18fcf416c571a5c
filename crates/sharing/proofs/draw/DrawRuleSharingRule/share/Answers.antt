use Rattle.std.proofs.Common.{◌≡◌, ◌-◌, false, leb, take, ap, arith}
use Rattle.std.proofs.lemmas.Bool.{lt-leb}
use Rattle.terms.specs.Numbers as row
use Rattle.sharing.specs.Asking.{inputs_of}
use Rattle.sharing.specs.Draw.{takers}
use Rattle.sharing.specs.Made.{drawn}
use Rattle.terms.proofs.Rows.{sum_most}
use Rattle.sharing.specs.Entitled.{base_low}
use Rattle.sharing.proofs.Queueing.{drawn_shares}
use Rattle.sharing.specs.Rosters.{same_rule, turned_turn, drawn_turn}
use Rattle.sharing.proofs.draw.DrawRuleSharingRule.share.Goals as goal

pub sum-total-requires : goal.sum-total-requires
sum-total-requires c = omega (arith, sum_most 99999 c.args.asked.sizes.now c.args.asked.valid.sized)

pub sum-requires : goal.sum-requires
sum-requires c =
    let low = base_low c.args.self.now.specialist (inputs_of c.args.asked) c.sum-total.result c.share_base.new.out c.args.asked.valid c.sum-total.ensures c.if-asked-total.false c.share_base.ensures in
    omega arith

pub overflow_sub-left : goal.overflow_sub-left
overflow_sub-left c =
    let low = base_low c.args.self.now.specialist (inputs_of c.args.asked) c.sum-total.result c.share_base.new.out c.args.asked.valid c.sum-total.ensures c.if-asked-total.false c.share_base.ensures in
    omega (arith, c.sum.ensures)

pub invariant_of-self : goal.invariant_of-self
invariant_of-self c = record {
  sound = (
    c.args.self.now.sound.0,
    turned_turn (drawn c.args.self.now.roster) c.args.self.now.state.turn c.give_by_turn-left.new.state.turn
        (take (c.args.asked.number - c.sum.result) (takers (drawn c.args.self.now.roster) c.args.self.now.state.turn c.args.asked.holders.now c.args.asked.sizes.now c.share_base.new.out))
        c.give_by_turn-left.ensures.turn_is c.args.self.now.sound.1,
  );
}

pub returns : goal.returns
returns c =
    let short : leb (row.sum c.args.asked.sizes.now) c.args.asked.number ≡ false =
    lt-leb (row.sum c.args.asked.sizes.now) c.args.asked.number (omega (arith, c.sum-total.ensures)) in
    let left : c.args.asked.number - c.sum.result ≡ c.args.asked.number - row.sum c.share_base.new.out = ap (λ n. c.args.asked.number - n) c.sum.ensures in
    record {
      shares = drawn_shares (drawn c.args.self.now.roster) c.args.self.now.specialist c.args.self.now.state.turn (inputs_of c.args.asked) c.share_base.new.out _
          c.give_by_turn-left.result c.give_by_turn-left.new.shares c.give_outside.new.shares short c.share_base.ensures left
          c.give_by_turn-left.ensures.left_is c.give_by_turn-left.ensures.shares_are c.give_outside.ensures;
      next = same_rule c.args.self.now.roster c.args.self.now.specialist c.give_by_turn-left.new.state _ _ _
          (drawn_turn c.args.self.now (inputs_of c.args.asked) c.share_base.new.out _ c.give_by_turn-left.new.state.turn short c.share_base.ensures left c.give_by_turn-left.ensures.turn_is);
    }
