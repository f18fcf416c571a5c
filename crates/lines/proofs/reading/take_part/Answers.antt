use Rattle.std.proofs.Common.{◌≢◌, ◌+◌, ◌≤◌, All, take, length, refl, sym, subst, ◌∙◌, arith, eqb-true, length-take-le, take_all}
use Rattle.std.specs.Io.BufRead.{FillKeeps}
use Rattle.std.specs.Io.KnownBytes.{Consumes}
use Rattle.std.proofs.BufReadLemmas.{Consumes_shown}
use Rattle.std.proofs.Transfers.{StopsAt-take, StopsAt-of_All}
use Rattle.lines.proofs.Kept.{end_at, end_last, end_nowhere, kept_part, strip_end, strip_none}
use Rattle.lines.proofs.reading.take_part.Goals as goal

-- the line's end is among what the input shows
pub returns-in-Some-clause-took : goal.returns-in-Some-clause-took
returns-in-Some-clause-took g c =
    let shown = c.in_ok-shown.shown.now in
    let k = c.in-Some.end in
    let at = end_at shown k (sym c.in-Some.is ∙ c.first.ensures) in
    let within : k + 1 ≤ length shown = omega (arith, at.0) in
    let long = length-take-le (k + 1) shown within in
    let rested = c.fill_buf.follows.lender-at-none in
    let filled = subst (FillKeeps _ (g.R.Read.remaining rested) (g.R.BufRead.consumable_len rested)) c.in_ok-shown.was c.fill_buf.follows.holds-at-none in
    let moved = Consumes_shown _ _ _ _ shown (k + 1) within c.in_ok-shown.ensures.front c.in_ok-shown.ensures.end filled.0 filled.1 c.consume.ensures.bytes in
    record {
      part = take (k + 1) shown;
      count = long;
      stops = StopsAt-take shown 10 (k + 1) within (subst (λ n. All (λ b. b ≢ 10) (take n shown)) (omega arith) at.2);
      moved = moved.0;
      goes_on = λ h. absurd (h refl);
      ends = λ _. end_last shown k at.0 at.1;
      at_end = λ _ none. absurd (omega (arith, long, none));
      kept = kept_part _ _ _ _ (take (k + 1) shown) c.in_ok-keep.ensures.kept (strip_end shown k at.0 at.1 at.2);
    }

-- no end is shown: all that is shown belongs to the line, and where nothing is, the input has ended
pub returns-clause-took : goal.returns-clause-took
returns-clause-took g c =
    let shown = c.in_ok-shown.shown.now in
    let none = end_nowhere shown (sym c.in_default.is ∙ c.first.ensures) in
    let rested = c.fill_buf.follows.lender-at-none in
    let filled = subst (FillKeeps _ (g.R.Read.remaining rested) (g.R.BufRead.consumable_len rested)) c.in_ok-shown.was c.fill_buf.follows.holds-at-none in
    let moved = Consumes_shown _ _ _ _ shown (length shown) (omega arith) c.in_ok-shown.ensures.front c.in_ok-shown.ensures.end filled.0 filled.1 c.consume-2.ensures.bytes in
    record {
      part = shown;
      count = refl;
      stops = StopsAt-of_All shown 10 none;
      moved = subst (Consumes _ _) (take_all (length shown) shown (omega arith)) moved.0;
      goes_on = λ _. none;
      ends = λ done some. absurd (omega (arith, some, eqb-true (length shown) 0 done));
      at_end = λ _ empty. moved.1 empty;
      kept = kept_part _ _ _ _ shown c.in_ok-keep-2.ensures.kept (strip_none shown none);
    }
