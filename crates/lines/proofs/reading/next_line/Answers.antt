use Rattle.std.proofs.Common.{◌≢◌, ◌||◌, ◌++◌, nat_lt, sym, ap, ◌∙◌, true≢false}
use Rattle.std.proofs.lemmas.List.Elements.{All-append}
use Rattle.std.proofs.KnownBytes.{Consumes-trans}
use Rattle.std.proofs.BufReadLemmas.{Consumes_through}
use Rattle.lines.proofs.Kept.{line_kept, part_kept, some_left, some_more}
use Rattle.lines.proofs.reading.next_line.Goals as goal

pub loop-preserved : goal.loop-preserved
loop-preserved g c =
    let (done, _, kept, some, none, read) = c.loop.invariant in
    let took = c.in_ok-taken.ensures.took in
    let none' = took.goes_on (λ e. true≢false (sym e ∙ c.if-done.false)) in (
      done ++ took.part,
      c.in_ok-taken.ensures.within,
      part_kept _ done took.part _ _ kept took.kept none',
      ap (λ b. b || nat_lt 0 c.in_ok-taken.taken) some ∙ some_more _ done took.part (sym took.count),
      All-append (λ b. b ≢ 10) done took.part none none',
      Consumes-trans _ _ _ _ _ read took.moved,
    )

pub returns-then-done : goal.returns-then-done
returns-then-done g c =
    let (done, _, kept, some, none, read) = c.loop.invariant in
    let took = c.in_ok-taken.ensures.took in
    let all = Consumes_through 10 _ _ _ done took.part read none took.moved took.stops (took.ends c.if-done.true) (took.at_end c.if-done.true) in
    record {
      within = c.in_ok-taken.ensures.within;
      line = line_kept _ done took.part _ _ kept took.kept _ none all.0;
      some = some_left _ _ (done ++ took.part) (ap (λ b. b || nat_lt 0 c.in_ok-taken.taken) some ∙ some_more _ done took.part (sym took.count)) all.0;
      rest = all.1;
    }
