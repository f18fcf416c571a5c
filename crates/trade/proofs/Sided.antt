-- A number trades as the side that it stands for, which is offers for each but 1.
use Rattle.std.proofs.Common.{◌≡◌, ℕ, cond, not, ◌&&◌, List, [], ◌∷◌, ◌++◌, refl, ap, sym, subst, ◌∙◌, inl, inr, nat_lt, ◌==◌}
use Rattle.std.proofs.lemmas.Bool.{cases_Bool}
use Rattle.terms.specs.Sides.{side_number, side_of}
use Rattle.terms.specs.declared.side.Side.{Side}
use Rattle.kept.specs.Inserting.{in_rank, leads}
use Rattle.kept.specs.Ranked.{better}
use Rattle.kept.specs.Standing.{Interest}
use Rattle.kept.specs.declared.KeptList.{KeptList}
use Rattle.kept.specs.declared.Tables.{Tables as Held}
use Rattle.model.specs.Prices.{rung, ladder}
use Rattle.model.specs.Shown.{tables_shown}
use Rattle.model.specs.Tables.{Tables}
use Rattle.model.specs.Trading.{Rule, at_end, at_level, level, reached, sweep, ◌then_swept◌}
use Rattle.model.specs.Words.{Blocks}
use Rattle.trade.specs.Prices.{by_price}
use Rattle.trade.specs.Trades.{Tradable, Traded, Trades, swept}
use Rattle.trade.specs.declared.incoming.Incoming.{Incoming}

module _ (n : ℕ) (side : Side) (is : side ≡ side_of n) where
  abbrev pub stands_for : ℕ
  stands_for = side_number side

  better_for : (p q : ℕ) → better n p q ≡ better stands_for p q
  better_for p q = of_number ∙ ap (λ s. better (side_number s) p q) (sym is)
    where
      of_number : better n p q ≡ better (side_number (side_of n)) p q
      of_number = elim (cases_Bool (n == 1)) [ inl e ↦ rw e refl | inr e ↦ rw e refl ]

  rung_for : (p : ℕ) (qs : List ℕ) → rung n p qs ≡ rung stands_for p qs
  rung_for p [] = refl
  rung_for p (q ∷ qs) =
      ap (λ b. cond (p == q) (q ∷ qs) (cond b (p ∷ q ∷ qs) (q ∷ rung n p qs))) (better_for p q)
      ∙ ap (λ l. cond (p == q) (q ∷ qs) (cond (better stands_for p q) (p ∷ q ∷ qs) (q ∷ l))) (rung_for p qs)

  ladder_for : (rs : List Interest) → ladder n rs ≡ ladder stands_for rs
  ladder_for [] = refl
  ladder_for (r ∷ rs) = rung_for r.price (ladder n rs) ∙ ap (rung stands_for r.price) (ladder_for rs)

  leads_for : (x : Interest) (ys : List Interest) → leads (by_price n) x ys ≡ leads (by_price stands_for) x ys
  leads_for x [] = refl
  leads_for x (y ∷ ys) =
      ap (λ b. not b && leads (by_price n) x ys) (better_for y.price x.price) ∙ ap (λ b. by_price stands_for x y && b) (leads_for x ys)

  ranked_for : (xs : List Interest) → in_rank (by_price n) xs ≡ in_rank (by_price stands_for) xs
  ranked_for [] = refl
  ranked_for (x ∷ xs) = ap (λ b. b && in_rank (by_price n) xs) (leads_for x xs) ∙ ap (λ b. leads (by_price stands_for) x xs && b) (ranked_for xs)

  -- a list that can be traded against on the one can be on the other
  pub tradable_for : {X : Type 0} (shown : X → Interest) (most : ℕ) (l : KeptList X) → Tradable shown n most l → Tradable shown stands_for most l
  tradable_for shown most l t =
      record {
        inside = t.inside;
        row =
            record {
              few = t.row.few;
              once = t.row.once;
              sized = t.row.sized;
              ranked = sym (ranked_for _) ∙ t.row.ranked;
            };
      }

  module _ {S T : Type 0} (M : Rule S) (F : Rule T) where
    sweep_for : (limit directed : ℕ) (ts : Tables) (ps : List ℕ) (k : ℕ) (s : S) (t : T) →
        sweep M F n limit directed ts ps k s t ≡ sweep M F stands_for limit directed ts ps k s t
    sweep_for limit directed ts [] k s t = refl
    sweep_for limit directed ts (p ∷ ps) k s t =
        let x = level M F directed (at_level p ts) k s t in
        ap (λ b. cond (not b && nat_lt 0 k) (x then_swept sweep M F n limit directed ts ps x.left x.makers_next x.firms_next) (at_end k s t)) (better_for limit p)
        ∙ ap (λ y. cond (reached stands_for limit p k) (x then_swept y) (at_end k s t)) (sweep_for limit directed ts ps x.left x.makers_next x.firms_next)

    swept_for : (i : Incoming) (ts : Tables) (s : S) (t : T) → swept M F n i ts s t ≡ swept M F stands_for i ts s t
    swept_for i ts s t =
        ap (λ ps. sweep M F n i.limit i.directed ts ps i.size s t) (ladder_for (ts.customers ++ (ts.makers ++ ts.firms)))
        ∙ sweep_for i.limit i.directed ts _ i.size s t

    -- and what a Trade leaves on the other it leaves on the one
    pub trades_for : (i : Incoming) (before : Held) (s : S) (t : T) {left : ℕ} {after : Held} {s' : S} {t' : T} {b : Blocks} →
        Trades M F stands_for i before s t left after s' t' b → Trades M F n i before s t left after s' t' b
    trades_for i before s t {left} {after} {s'} {t'} {b} = subst (λ x. Traded x before left after s' t' b) (sym (swept_for i (tables_shown before) s t))
