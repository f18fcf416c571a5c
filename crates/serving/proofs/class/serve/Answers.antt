use Rattle.std.proofs.Common.{◌≡◌, ℕ, ◌-◌, ◌≤◌, List, map, length, take, drop, ap, ◌∙◌, subst, arith}
use Rattle.std.proofs.lemmas.List.{length-take, length-drop}
use Rattle.std.proofs.lemmas.Slice.{drop-put_mid}
use Rattle.terms.specs.Numbers.{sum}
use Rattle.kept.specs.Standing.{Interest}
use Rattle.model.specs.Fills.{fills}
use Rattle.serving.specs.Filling.{all_filled_in}
use Rattle.serving.specs.Serving.{asked_of}
use Rattle.serving.specs.Stretch.{here, lower_all}
use Rattle.serving.proofs.Counting.{room_less}
use Rattle.serving.proofs.Lowering.{valid_stretch, part_lowered}
use Rattle.serving.proofs.Mapped.{within_length}
use Rattle.serving.proofs.Ready.{servable_after}
use Rattle.serving.proofs.Stretches.{shown_stretch}
use Rattle.serving.proofs.class.serve.Goals as goal

pub serve_stretch-left-requires : goal.serve_stretch-left-requires
serve_stretch-left-requires g c =
    let v = c.requires.table in
    let p = c.args.portion in
    let xs = c.args.records.now in
    let from = c.args.from in
    let to = c.stretch_end-to.result in
    let u = length-take (to - from) (drop from xs) in
    let u' = length-drop from xs in
    let few = v.room.few in
    let free = v.room.free in
    record {
      valid = (valid_stretch g.R.Standing.shown xs from to c.args.places p c.args.block.now v (omega arith) c.requires.portion.0 c.requires.portion.1, omega arith);
      room = room_less c.args.places (length xs - from) p.number _ p.number c.args.block.now v.room (omega arith) (omega arith);
    }

pub returns : goal.returns
returns g c =
    let v = c.requires.table in
    let p = c.args.portion in
    let xs = c.args.records.now in
    let from = c.args.from in
    let to = c.stretch_end-to.result in
    let st = take (to - from) (drop from xs) in
    let left-call = c.serve_stretch-left in
    let shares : List Interest → List ℕ = λ t. g.S.SharingRule.shares c.args.rule.now (asked_of t p) in
    let e : map g.R.Standing.shown st ≡ here g.R.Standing.shown from c.args.price xs = shown_stretch g.R.Standing.shown xs from to c.args.price c.stretch_end-to.ensures.end in
    let le : from ≤ to = omega arith in
    let ok = valid_stretch g.R.Standing.shown xs from to c.args.places p c.args.block.now v le c.requires.portion.0 c.requires.portion.1 in
    let fair = g.met.S.SharingRule.keeps.fair c.args.rule.now (asked_of (map g.R.Standing.shown st) p) ok in
    let n = within_length g.R.Standing.shown st (shares (map g.R.Standing.shown st)) fair.inside in
    let sum_is : sum (shares (map g.R.Standing.shown st)) ≤ p.number = omega (arith, fair.adds_up) in
    let t : List Interest = here g.R.Standing.shown from c.args.price xs in
    let sum_here : sum (shares t) ≤ p.number = subst (λ z. sum (shares z) ≤ p.number) e sum_is in
    let left : left-call.result ≡ p.number - sum (shares t) = left-call.ensures.left ∙ ap (λ z. p.number - sum (shares z)) e in
    let recs = part_lowered g.R.Standing.shown g.R.Standing.lower g.met.R.Standing.still xs left-call.new.records from to (shares (map g.R.Standing.shown st)) le v.once n left-call.ensures.records
    ∙ ap (λ z. lower_all g.R.Standing.shown g.R.Standing.lower (fills z (shares z)) xs) e in
    let kept : length left-call.new.records ≡ to - from =
    left-call.auto.records ∙ (let u = length-take (to - from) (drop from xs) in let u' = length-drop from xs in let z : length (take (to - from) (drop from xs)) ≡ to - from = omega arith in z) in
    let rest = drop-put_mid from (to - from) xs left-call.new.records to (omega arith) (omega (arith, v.inside)) kept in
    let block : left-call.new.block ≡ all_filled_in c.args.places (fills t (shares t)) c.args.block.now =
    left-call.ensures.block ∙ ap (λ z. all_filled_in c.args.places (fills z (shares z)) c.args.block.now) e in
    record {
      to = c.stretch_end-to.ensures.end;
      left = left;
      rule = left-call.ensures.rule ∙ ap (λ z. g.S.SharingRule.next c.args.rule.now (asked_of z p)) e;
      records = recs;
      rest = rest;
      block = block;
      ready = servable_after g.R.Standing.shown g.R.Standing.lower g.met.R.Standing.shows xs _ from to c.args.price c.args.places p.number left-call.result (shares t) c.args.block.now left-call.new.block
          v c.stretch_end-to.ensures.end recs rest block left sum_here;
    }
