use Rattle.std.proofs.Common.{◌≡◌, ℕ, length, get_or, Err, Result, sym}
use Rattle.blocks.specs.Layouts.{places_of}
use Rattle.blocks.specs.Reading.{Shown, reads}
use Rattle.blocks.proofs.Agreement.{written_parts, back_as_read, only_as_read}
use Rattle.blocks.proofs.Checking.{layout_read, cut_first_holders, cut_first_contracts, reads_ok}
use Rattle.blocks.proofs.reading.read.Goals as goal

pub returns-then-not-is_written : goal.returns-then-not-is_written
returns-then-not-is_written c =
    let b = c.args.block.now in
    let o = layout_read (length c.args.block.now) _ c.in_ok-layout.ensures in
    let answer : ◌≡◌ {A = Result Shown ℕ} (Err 17) (reads b) = rw (← o, ← c.if-not-is_written.ensures) in
    record { answer = answer; back = back_as_read b (Err 17) answer; only = only_as_read b (Err 17) answer }

pub returns : goal.returns
returns c =
    let b = c.args.block.now in
    let l = c.in_ok-layout.layout in
    let w = c.if-not-is_written.ensures in
    let few = (written_parts l b (sym w)).0 in
    let answer = reads_ok l b _ _ (layout_read (length c.args.block.now) _ c.in_ok-layout.ensures) w
    (cut_first_holders b (places_of l) (get_or b 0 0) few)
    (cut_first_contracts b (places_of l) c.places-places.result (get_or b 0 0) c.places-places.ensures few) in
    record { answer = answer; back = back_as_read b _ answer; only = only_as_read b _ answer }
