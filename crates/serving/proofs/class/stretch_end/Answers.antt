use Rattle.std.proofs.Common.{◌≡◌, ℕ, ◌+◌, ◌-◌, ◌≤◌, Bool, eqb, List, length, take, drop, ap, ◌∙◌, arith, rules}
use Rattle.std.specs.List.{prefix_len}
use Rattle.std.proofs.lemmas.List.{take_rest, length-drop}
use Rattle.std.proofs.lemmas.List.Sums.{prefix_len-le-length}
use Rattle.serving.proofs.Stretches.{front_run}
use Rattle.serving.proofs.class.stretch_end.Goals as goal

-- the stretch is the run of records at the price, which ends within the row
run_is : {X : Type 0} (at_price : X → Bool) (xs : List X) (from n : ℕ) → n ≡ prefix_len at_price (take (length xs - from) (drop from xs)) → from ≤ length xs →
    (n ≡ prefix_len at_price (drop from xs)) × (from + n ≤ length xs)
run_is at_price xs from n e h =
    let run : n ≡ prefix_len at_price (drop from xs) = rw take_rest at e in
    let few = prefix_len-le-length at_price (drop from xs) in
    let rest = length-drop from xs in
    (run, omega arith)

pub overflow_add-result : goal.overflow_add-result
overflow_add-result g c =
    let run = run_is (λ x. eqb (g.R.Standing.shown x).price c.args.price) c.args.records.now c.args.from c.leading.result c.leading.ensures c.requires in search rules

pub returns : goal.returns
returns g c =
    let run = run_is (λ x. eqb (g.R.Standing.shown x).price c.args.price) c.args.records.now c.args.from c.leading.result c.leading.ensures c.requires in
    record {
      end = ap (λ n. c.args.from + n) (run.0 ∙ front_run g.R.Standing.shown c.args.price (drop c.args.from c.args.records.now));
      inside = run.1;
    }
