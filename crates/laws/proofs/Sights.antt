-- What an event may show of customers: nothing, a customer call, or the parts of a Trade.
use Rattle.std.proofs.Common.{◌≡◌, ℕ, ◌-◌, ◌≤◌, true, false, eqb, List, [], ◌∷◌, length, sym, refl, ap, ◌∙◌, arith}
use Rattle.std.proofs.lemmas.Bool.{ne_eqb, and_parts, leb-true}
use Rattle.terms.specs.Numbers.{within, all_within}
use Rattle.blocks.proofs.Parts.{fills_in_block}
use Rattle.blocks.specs.Blocks.{block}
use Rattle.blocks.specs.Reading.{fills_in}
use Rattle.blocks.specs.declared.Fill.{Fill}
use Rattle.kept.specs.Standing.{Interest}
use Rattle.model.specs.Customers.{Part, customer_call, with_parts, call_noted, block_noted, with_block, parts_at, best_first, customer_view, customer_record}
use Rattle.model.specs.Fills.{less}
use Rattle.model.specs.Tables.{Tables, sizes_of}
use Rattle.model.specs.Words.{Call, Ending, ◌▸◌, Day}
use Rattle.laws.proofs.Filling.{filled_at}
use Rattle.laws.proofs.Parts.{fills_by, parts_ext, parts_none}
use Rattle.laws.proofs.Replay.{reply, acted, table_from_view, record_from_view, table_from_record, view_from_record}

-- view and record both give the customer table, and each gives the other
pub record Replayed (side : ℕ) (d : Day) (ts : Tables) : Type 0 where
  pub table_by_view : table_from_view side (customer_view side d) ≡ ts.customers
  pub table_by_record : table_from_record side (customer_record d) ≡ ts.customers
  pub by_view : record_from_view side (customer_view side d) ≡ customer_record d
  pub by_record : view_from_record side (customer_record d) ≡ customer_view side d

-- ---- what one event may show ----

-- nothing of customers
pub unseen : (side : ℕ) (d d' : Day) (b ts : Tables) → customer_view side d' ≡ customer_view side d → customer_record d' ≡ customer_record d →
    ts.customers ≡ b.customers → Replayed side d b → Replayed side d' ts
unseen side d d' b ts v r t y =
    record {
      table_by_view = rw (v, t) y.table_by_view;
      table_by_record = rw (r, t) y.table_by_record;
      by_view = rw (v, r) y.by_view;
      by_record = rw (v, r) y.by_record;
    }

-- a customer call
pub called : (side : ℕ) (d d' : Day) (b ts : Tables) (c : Call) (e : Ending ℕ) → customer_view side d' ≡ customer_view side d ▸ customer_call c →
    customer_record d' ≡ customer_record d ▸ call_noted c e → e ≡ reply side c b.customers → ts.customers ≡ acted side c b.customers →
    Replayed side d b → Replayed side d' ts
called side d d' b ts c e v r a t y =
    record {
      table_by_view = rw (v, t, y.table_by_view) refl;
      table_by_record = rw (r, t, y.table_by_record) refl;
      by_view = rw (v, r, y.by_view, y.table_by_view, a) refl;
      by_record = rw (v, r, y.by_record) refl;
    }

-- with no fills a table stays
less_none : (t : List Interest) → all_within 99999 (sizes_of t) ≡ true → less [] t ≡ t
less_none [] a = refl
less_none (r ∷ rs) a =
    let w = and_parts (within 99999 r.left) (all_within 99999 (sizes_of rs)) a in
    let l = leb-true 1 r.left (and_parts _ _ w.0).0 in
    let z : r.left - 0 ≡ r.left = omega arith in
    rw (z, ne_eqb r.left 0 (λ e. omega arith), less_none rs w.1) refl

-- a Trade with parts xs and customer fills fs
pub traded : (side : ℕ) (d d' : Day) (b ts : Tables) (xs : List Part) (fs : List Fill) → customer_view side d' ≡ with_parts (customer_view side d) xs →
    customer_record d' ≡ with_block (customer_record d) (block 64 fs) → fills_by xs b.customers ≡ fs →
    parts_at (λ p. filled_at p b.customers fs) (best_first side) ≡ xs → length fs ≤ 64 → all_within 99999 (sizes_of b.customers) ≡ true →
    ts.customers ≡ less fs b.customers → Replayed side d b → Replayed side d' ts
traded side d d' b ts xs [] v r by_parts by_fills few sized t y =
    let n : xs ≡ [] = sym by_fills ∙ parts_none (best_first side) in
    unseen side d d' b ts (v ∙ ap (with_parts (customer_view side d)) n) r (t ∙ less_none b.customers sized) y
traded side d d' b ts [] (f ∷ fs) v r by_parts by_fills few sized t y =
    let z : ◌≡◌ {A = ℕ} 0 1 = cc in absurd (omega arith)
traded side d d' b ts (x ∷ xs) (f ∷ fs) v r by_parts by_fills few sized t y =
    let more : eqb (length (f ∷ fs)) 0 ≡ false = ne_eqb (length (f ∷ fs)) 0 (λ e. omega arith) in
    let r' : customer_record d' ≡ customer_record d ▸ block_noted (block 64 (f ∷ fs)) = r ∙ rw more refl in
    let read : fills_in 64 (block 64 (f ∷ fs)) ≡ f ∷ fs = fills_in_block 64 (f ∷ fs) few in
    record {
      table_by_view = rw (v, y.table_by_view, by_parts, t) refl;
      table_by_record = rw (r', y.table_by_record, read, t) refl;
      by_view = rw (v, r', y.by_view, y.table_by_view, by_parts) refl;
      by_record = rw (v, r', y.by_record) (ap (with_parts (customer_view side d)) (parts_ext
          (λ p. filled_at p (table_from_record side (customer_record d)) (fills_in 64 (block 64 (f ∷ fs)))) (λ p. filled_at p b.customers (f ∷ fs)) (best_first side)
          (λ p. ap (filled_at p (table_from_record side (customer_record d))) read ∙ ap (λ t. filled_at p t (f ∷ fs)) y.table_by_record) ∙ by_fills));
    }
