-- A Trade under way: from where it has come to, it ends as it would have from the start.
use Rattle.std.proofs.Common.{◌≡◌, ℕ, ◌+◌, ◌-◌, ◌<◌, ◌≤◌, true, false, List, [], ◌∷◌, ◌++◌, map, length, drop, sym, refl, ap, ◌∙◌, subst, arith, None, Some}
use Rattle.std.proofs.lemmas.List.{drop-drop, drop-map, length-map}
use Rattle.blocks.specs.Reading.{count_in}
use Rattle.blocks.specs.declared.Fill.{Fill}
use Rattle.kept.specs.Orders.{order_shown, order_lower}
use Rattle.kept.specs.Quotes.{quote_shown, quote_lower}
use Rattle.kept.specs.Ranked.{better}
use Rattle.kept.specs.Standing.{Interest, with_left}
use Rattle.kept.specs.declared.Order.{Order}
use Rattle.kept.specs.declared.Quote.{Quote}
use Rattle.model.specs.Fills.{given_to}
use Rattle.model.specs.Prices.{prices}
use Rattle.model.specs.Tables.{Tables}
use Rattle.model.specs.Trading.{Rule, Swept, at_end, ◌then_swept◌}
use Rattle.serving.specs.Filling.{all_filled_in}
use Rattle.serving.specs.Stretch.{here, lower_all}
use Rattle.trade.specs.Level.{Filled, LevelServed, Ready, ServesLevel, level_at}
use Rattle.trade.specs.Prices.{BestFirst, best_ahead}
use Rattle.trade.specs.State.{SameRoom, State, start, state, to_come}
use Rattle.trade.specs.Sweep.{Sweeps, outcome, ends_in, swept_with, outcome_from}
use Rattle.trade.specs.declared.incoming.Incoming.{Incoming}
use Rattle.trade.specs.declared.market.Market.{Market}
use Rattle.trade.specs.declared.reached.Reached.{Reached}
use Rattle.trade.proofs.Sorting.{past, past_drop}
use Rattle.trade.proofs.Walking.{pasts, all_sorted, first_past, three_same, walk_step, walk_end, walk_nothing, walk_out, some_best}

-- ---- one class ----

module _ {X : Type 0} (shown : X → Interest) (lower : X → ℕ → X) where
  filled_past : (p k : ℕ) (fs : List Fill) (from : ℕ) (xs : List X) (b : List ℕ) (to : ℕ) (xs' : List X) (b' : List ℕ) →
      Filled shown lower p k fs from xs b to xs' b' → map shown (drop to xs') ≡ past p (map shown (drop from xs))
  filled_past p k fs from xs b to xs' b' d =
      let n : ℕ = length (here shown from p xs) in
      ap (map shown) (d.rest ∙ ap (λ z. drop z xs) d.moved ∙ sym (drop-drop n from xs))
      ∙ sym (drop-map shown n (drop from xs)) ∙ past_drop p (map shown (drop from xs))

  given_append : (h : ℕ) (a b : List Fill) → given_to h (a ++ b) ≡ given_to h a + given_to h b
  given_append h [] b = omega arith
  given_append h (f ∷ a) b = let ih = given_append h a b in omega arith

  lower_again : ((x : X) (m n : ℕ) → lower (lower x m) n ≡ lower x (m + n)) → ((x : X) (n : ℕ) → shown (lower x n) ≡ with_left ((shown x).left - n) (shown x)) →
      (a b : List Fill) (xs : List X) → lower_all shown lower b (lower_all shown lower a xs) ≡ lower_all shown lower (a ++ b) xs
  lower_again again shows a b [] = refl
  lower_again again shows a b (x ∷ xs) =
      let m : ℕ = given_to (shown x).holder a in
      let h : (shown (lower x m)).holder ≡ (shown x).holder = ap (λ r. r.holder) (shows x m) in
      let e : lower (lower x m) (given_to (shown (lower x m)).holder b) ≡ lower x (given_to (shown x).holder (a ++ b)) =
      ap (λ z. lower (lower x m) (given_to z b)) h ∙ again x m (given_to (shown x).holder b) ∙ ap (lower x) (sym (given_append (shown x).holder a b)) in
      ap (λ z. z ∷ lower_all shown lower b (lower_all shown lower a xs)) e
      ∙ ap (λ l. lower x (given_to (shown x).holder (a ++ b)) ∷ l) (lower_again again shows a b xs)

  lower_nothing : ((x : X) → lower x 0 ≡ x) → (xs : List X) → lower_all shown lower [] xs ≡ xs
  lower_nothing still [] = refl
  lower_nothing still (x ∷ xs) = ap (λ z. z ∷ lower_all shown lower [] xs) (still x) ∙ ap (λ l. x ∷ l) (lower_nothing still xs)

filled_again : (k : ℕ) (a b : List Fill) (c : List ℕ) → all_filled_in k b (all_filled_in k a c) ≡ all_filled_in k (a ++ b) c
filled_again k [] b c = refl
filled_again k (f ∷ a) b c = filled_again k a b _

-- ---- the two kinds of records, and blocks ----

order_again : (x : Order) (m n : ℕ) → order_lower (order_lower x m) n ≡ order_lower x (m + n)
order_again x m n = let e : x.left - m - n ≡ x.left - (m + n) = omega arith in ap (λ z. record { number = x.number; price = x.price; left = z }) e

order_still : (x : Order) → order_lower x 0 ≡ x
order_still x = let e : x.left - 0 ≡ x.left = omega arith in ap (λ z. record { number = x.number; price = x.price; left = z }) e

quote_again : (x : Quote) (m n : ℕ) → quote_lower (quote_lower x m) n ≡ quote_lower x (m + n)
quote_again x m n = let e : x.left - m - n ≡ x.left - (m + n) = omega arith in ap (λ z. record { party = x.party; price = x.price; left = z; place = x.place }) e

quote_still : (x : Quote) → quote_lower x 0 ≡ x
quote_still x = let e : x.left - 0 ≡ x.left = omega arith in ap (λ z. record { party = x.party; price = x.price; left = z; place = x.place }) e

orders_on : (x y : List Fill) (cs ds : List Order) → ds ≡ lower_all order_shown order_lower x cs → lower_all order_shown order_lower y ds ≡ lower_all order_shown order_lower (x ++ y) cs
orders_on x y cs ds e = ap (lower_all order_shown order_lower y) e ∙ lower_again order_shown order_lower order_again (λ z n. refl) x y cs

quotes_on : (x y : List Fill) (cs ds : List Quote) → ds ≡ lower_all quote_shown quote_lower x cs → lower_all quote_shown quote_lower y ds ≡ lower_all quote_shown quote_lower (x ++ y) cs
quotes_on x y cs ds e = ap (lower_all quote_shown quote_lower y) e ∙ lower_again quote_shown quote_lower quote_again (λ z n. refl) x y cs

block_on : (k : ℕ) (x y : List Fill) (b d : List ℕ) → d ≡ all_filled_in k x b → all_filled_in k y d ≡ all_filled_in k (x ++ y) b
block_on k x y b d e = ap (all_filled_in k y) e ∙ filled_again k x y b

same_end : {S T : Type 0} (n : ℕ) (s : S) (t : T) (cs cs' : List Order) (ms ms' : List Quote) (fs fs' : List Order) (bc bc' bm bm' bf bf' : List ℕ) →
    cs ≡ cs' → ms ≡ ms' → fs ≡ fs' → bc ≡ bc' → bm ≡ bm' → bf ≡ bf' → outcome n (state cs ms fs s t bc bm bf) ≡ outcome n (state cs' ms' fs' s t bc' bm' bf')
same_end n s t cs cs' ms ms' fs fs' bc bc' bm bm' bf bf' a b c d e f = cc

-- ---- the Trade ----

-- no block shows more fills than it has places
counts_few : {S T : Type 0} (a : Reached) (w : State S T) → Ready a w →
    (count_in w.blocks.customers ≤ 64) × (count_in w.blocks.makers ≤ 16) × (count_in w.blocks.firms ≤ 64)
counts_few a w r =
    let c = r.customers.room.free in
    let m = r.makers.room.free in
    let f = r.firms.room.free in
    (omega arith, omega arith, omega arith)

module _ {S T : Type 0} (M : Rule S) (F : Rule T) (side : ℕ) (i : Incoming) where
  stopped : (a : Reached) (w : State S T) →
      swept_with M F side i a.left (to_come a w) w.makers_rule w.firms_rule ≡ at_end a.left w.makers_rule w.firms_rule →
      outcome a.left w ≡ outcome_from M F side i a w
  stopped a w e =
      sym (ap (λ z. ends_in z w) e
      ∙ same_end a.left w.makers_rule w.firms_rule _ _ _ _ _ _ _ _ _ _ _ _
      (lower_nothing order_shown order_lower order_still w.customers) (lower_nothing quote_shown quote_lower quote_still w.makers)
      (lower_nothing order_shown order_lower order_still w.firms) refl refl refl)

  pub none_left : (a : Reached) (w : State S T) → a.left ≡ 0 → outcome a.left w ≡ outcome_from M F side i a w
  none_left a w z = stopped a w (walk_nothing M F side i.limit i.directed (to_come a w) (prices side (to_come a w)) a.left w.makers_rule w.firms_rule z)

  pub none_ahead : (a : Reached) (w : State S T) → None ≡ best_ahead side (to_come a w) → outcome a.left w ≡ outcome_from M F side i a w
  none_ahead a w e = stopped a w (walk_out M F side i.limit i.directed (to_come a w) a.left w.makers_rule w.firms_rule (sym e))

  pub none_reached : (p : ℕ) (a : Reached) (w : State S T) → Some p ≡ best_ahead side (to_come a w) → BestFirst side (to_come a w) →
      true ≡ better side i.limit p → outcome a.left w ≡ outcome_from M F side i a w
  none_reached p a w e o v =
      stopped a w (walk_end M F side i.limit i.directed p (to_come a w) a.left w.makers_rule w.firms_rule (sym e) (all_sorted side (to_come a w) o) (sym v))

  -- one level on
  pub level_on : (p : ℕ) (a : Reached) (w : State S T) (a' : Reached) (w' : State S T) → Some p ≡ best_ahead side (to_come a w) → BestFirst side (to_come a w) →
      false ≡ better side i.limit p → 0 < a.left → ServesLevel M F p i.directed a w a' w' →
      (outcome_from M F side i a' w' ≡ outcome_from M F side i a w) × BestFirst side (to_come a' w')
      × (a.customers + a.makers + a.firms < a'.customers + a'.makers + a'.firms)
  level_on p a w a' w' e o u some d =
      let limit : ℕ = i.limit in
      let directed : ℕ = i.directed in
      let ts : Tables = to_come a w in
      let us : Tables = pasts p ts in
      let x : Swept S T = level_at M F p directed a w in
      let dc = d.customers in
      let dm = d.makers in
      let df = d.firms in
      let te : to_come a' w' ≡ us =
      three_same _ _ _ _ _ _ (filled_past order_shown order_lower p 64 _ a.customers w.customers _ a'.customers w'.customers _ dc)
      (filled_past quote_shown quote_lower p 16 _ a.makers w.makers _ a'.makers w'.makers _ dm)
      (filled_past order_shown order_lower p 64 _ a.firms w.firms _ a'.firms w'.firms _ df) in
      let y : Swept S T = swept_with M F side i x.left us x.makers_next x.firms_next in
      let on : swept_with M F side i a'.left (to_come a' w') w'.makers_rule w'.firms_rule ≡ y =
      ap (λ t. swept_with M F side i a'.left t w'.makers_rule w'.firms_rule) te
      ∙ ap (λ z. swept_with M F side i z us w'.makers_rule w'.firms_rule) d.left
      ∙ ap (λ z. swept_with M F side i x.left us z w'.firms_rule) d.makers_rule
      ∙ ap (λ z. swept_with M F side i x.left us x.makers_next z) d.firms_rule in
      let step : swept_with M F side i a.left ts w.makers_rule w.firms_rule ≡ (x then_swept y) =
      walk_step M F side limit directed p ts a.left w.makers_rule w.firms_rule (sym e) (all_sorted side ts o) (sym u) some in
      let mid : ends_in y w' ≡ ends_in (x then_swept y) w =
      same_end y.left y.makers_next y.firms_next _ _ _ _ _ _ _ _ _ _ _ _
      (orders_on x.given.customers y.given.customers w.customers w'.customers dc.records)
      (quotes_on x.given.makers y.given.makers w.makers w'.makers dm.records)
      (orders_on x.given.firms y.given.firms w.firms w'.firms df.records)
      (block_on 64 x.given.customers y.given.customers w.blocks.customers w'.blocks.customers dc.block)
      (block_on 16 x.given.makers y.given.makers w.blocks.makers w'.blocks.makers dm.block)
      (block_on 64 x.given.firms y.given.firms w.blocks.firms w'.blocks.firms df.block) in
      let more : 0 < length (here order_shown a.customers p w.customers) + length (here quote_shown a.makers p w.makers) + length (here order_shown a.firms p w.firms) =
      (some_best side p ts (sym e)).0 in
      let e1 = dc.moved in
      let e2 = dm.moved in
      let e3 = df.moved in (
        ap (λ z. ends_in z w') on ∙ mid ∙ sym (ap (λ z. ends_in z w) step),
        subst (BestFirst side) (sym te) (first_past side p ts o),
        omega arith,
      )

  -- a Trade that ends here has swept as it would have from the start
  pub sweeps : (v : State S T) (a : Reached) (w : State S T) → Ready a w → outcome_from M F side i a w ≡ outcome_from M F side i (start i) v →
      outcome a.left w ≡ outcome_from M F side i a w → Sweeps M F side i v a.left w
  sweeps v a w r on here = let few = counts_few a w r in record { outcome = here ∙ on; customers = few.0; makers = few.1; firms = few.2 }

-- as many records as before, and fewer of them to come
pub fewer : {S T : Type 0} (x : Swept S T) (p : ℕ) (a : Reached) (w : State S T) (a' : Reached) (w' : State S T) → LevelServed x p a w a' w' →
    a.customers + a.makers + a.firms < a'.customers + a'.makers + a'.firms →
    length w'.customers + length w'.makers + length w'.firms - (a'.customers + a'.makers + a'.firms)
    < length w.customers + length w.makers + length w.firms - (a.customers + a.makers + a.firms)
fewer x p a w a' w' d h =
    let c = ap length d.customers.records ∙ length-map w.customers _ in
    let m = ap length d.makers.records ∙ length-map w.makers _ in
    let f = ap length d.firms.records ∙ length-map w.firms _ in
    let inside_c = d.ready.customers.inside in
    let inside_m = d.ready.makers.inside in
    let inside_f = d.ready.firms.inside in omega arith

-- a market that was lent twice is the one that was lent
pub same_again : {S T : Type 0} (m n k : Market S T) → SameRoom m n → SameRoom n k → SameRoom m k
same_again m n k p q =
    record {
      customers = q.customers ∙ p.customers;
      makers = q.makers ∙ p.makers;
      firms = q.firms ∙ p.firms;
      makers_rule = q.makers_rule ∙ p.makers_rule;
      firms_rule = q.firms_rule ∙ p.firms_rule;
      customer_block = q.customer_block ∙ p.customer_block;
      maker_block = q.maker_block ∙ p.maker_block;
      firm_block = q.firm_block ∙ p.firm_block;
    }
