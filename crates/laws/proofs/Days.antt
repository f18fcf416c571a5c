-- The days of a book under two lawful rules are possible days, and have what those have.
use Rattle.std.proofs.Common.{◌≡◌, ℕ, zero, suc, ◌-◌, ◌≤◌, true, List, [], ◌∷◌, sym, refl, ◌∙◌, subst, inl, inr, arith}
use Rattle.std.proofs.lemmas.Bool.{cases_Bool}
use Rattle.std.proofs.lemmas.List.{length-map}
use Rattle.terms.specs.Numbers.{sum, within}
use Rattle.kept.specs.Standing.{Interest}
use Rattle.sharing.specs.Rule.{Inputs, Valid, Lawful}
use Rattle.sharing.specs.TimeOrder.{in_time}
use Rattle.model.specs.Book.{Book, made, swept_by, after, after_all, day, ends}
use Rattle.model.specs.Make.{Accepted}
use Rattle.model.specs.Prices.{prices}
use Rattle.model.specs.Refusals.{refusal}
use Rattle.model.specs.Tables.{Tables, at_price, sizes_of, total, holders_of}
use Rattle.model.specs.Trading.{Rule, Swept, asks, at_level, reached, level, sweep}
use Rattle.model.specs.Words.{places, maker, firm, of, Call, enter, reduce, withdraw, quote, trade, tally, event, Row, ∅, ◌▸◌}
use Rattle.laws.specs.Law.{TallyBalances}
use Rattle.laws.specs.Possible.{FairSweep, MayFill, Leads, ComesTo, PossibleDay}
use Rattle.laws.specs.Priority.{PriorityKept}
use Rattle.laws.specs.Tables.{TableHoldsWhatStands}
use Rattle.laws.proofs.Allowed.{trade_allowed}
use Rattle.laws.proofs.Changing.{part_at}
use Rattle.laws.proofs.Holding.{fit_sizes, holds, balances}
use Rattle.laws.proofs.Keeping.{kept}
use Rattle.laws.proofs.Lists.{within_parts, once_distinct}
use Rattle.laws.proofs.Priority.{priority_kept}
use Rattle.laws.proofs.Sound.{Sound, sound_part, who}

-- what a rule is given at a price of a sound table is valid
valid_at : (side : ℕ) (roster : List ℕ) (class : ℕ) (t : List Interest) → Sound side roster class t → (p n number directed : ℕ) → number ≤ n → n ≤ 999999 →
    Valid (asks (at_price p t) n number directed)
valid_at side roster class t s p n number directed a b =
    let rs : List Interest = at_price p t in
    let x = sound_part side roster class (part_at p t) s in
    let hs = length-map rs (λ r. r.holder) in
    let ss = length-map rs (λ r. r.left) in
    let most : places class ≤ 64 = grind arith in
    record {
      paired = ss ∙ sym hs;
      few = let l = x.few in omega arith;
      once = once_distinct (holders_of rs) x.once;
      sized = fit_sizes (who class roster) rs x.fit;
      share = a;
      arrives = b;
    }

-- every class's table is sound
abbrev AllSound : (side : ℕ) (roster : List ℕ) → Tables → Type 0
AllSound side roster ts = (c : ℕ) → within 3 c ≡ true → Sound side roster c (of c ts)

module _ {S T : Type 0} (M : Rule S) (F : Rule T) (lm : Lawful M.shares M.next) (lf : Lawful F.shares F.next) where
  swept_fairly : (side limit directed : ℕ) (roster : List ℕ) (ts : Tables) → AllSound side roster ts → (ps : List ℕ) (n : ℕ) → n ≤ 999999 → (s : S) (f : T) →
      FairSweep side limit ts ps n (sweep M F side limit directed ts ps n s f).left (sweep M F side limit directed ts ps n s f).given
  swept_fairly side limit directed roster ts ok [] n b s f = record { all_left = refl; no_fills = refl }
  swept_fairly side limit directed roster ts ok (p ∷ ps) n b s f =
      let here : Tables = at_level p ts in
      let x : Swept S T = level M F directed here n s f in
      let c : List ℕ = in_time n (sizes_of here.customers) in
      let mi : Inputs = asks here.makers n (n - sum c) directed in
      let fi : Inputs = asks here.firms n (n - sum c - sum (M.shares s mi)) directed in
      let mv : Valid mi = valid_at side roster maker ts.makers (ok maker refl) p n (n - sum c) directed (omega arith) b in
      let fv : Valid fi = valid_at side roster firm ts.firms (ok firm refl) p n (n - sum c - sum (M.shares s mi)) directed (omega arith) b in
      elim (cases_Bool (reached side limit p n)) [
        | inl e ↦ rw e (record {
          makers_shares = M.shares s mi;
          firms_shares = F.shares f fi;
          later = (sweep M F side limit directed ts ps x.left x.makers_next x.firms_next).given;
          makers_fair = lm.fair s mi mv;
          firms_fair = lf.fair f fi fv;
          onward = swept_fairly side limit directed roster ts ok ps x.left (omega arith) x.makers_next x.firms_next;
          filled = refl;
        })
        | inr e ↦ rw e (record { all_left = refl; no_fills = refl })
      ]

  leads : (b : Book S T) → AllSound b.side b.roster b.tables → (c : Call) →
      Leads b.side b.roster b.tables (event c (ends M F b c)) (after M F b c).tables
  leads b ok c = go (refusal b.roster b.tables c) refl
    where
      may : (c : Call) → refusal b.roster b.tables c ≡ 0 → MayFill b.side b.tables c (swept_by M F b c).left (swept_by M F b c).given
      may (enter class number price size) e = tt
      may (reduce class number reduction) e = tt
      may (withdraw class number) e = tt
      may (quote party price size) e = tt
      may (trade limit size directed given) e =
          swept_fairly b.side limit directed b.roster b.tables ok (prices b.side b.tables) size
          (within_parts 999999 size (trade_allowed b.roster b.tables limit size directed given e)).1 b.makers_rule b.firms_rule
      may (tally class) e = tt

      go : (r : ℕ) → refusal b.roster b.tables c ≡ r → Leads b.side b.roster b.tables (event c (ends M F b c)) (after M F b c).tables
      go zero e =
          rw e (record {
            left = (swept_by M F b c).left;
            given = (swept_by M F b c).given;
            not_refused = e;
            may_fill = may c e;
            answers = refl;
            next = refl;
          })
      go (suc r) e = rw e (record { above_zero = omega arith; refusal_is = e; next = refl })

  -- side and roster stay
  stays : (b : Book S T) (c : Call) → ((after M F b c).side ≡ b.side) × ((after M F b c).roster ≡ b.roster)
  stays b c = go (refusal b.roster b.tables c) refl
    where
      go : (r : ℕ) → refusal b.roster b.tables c ≡ r → ((after M F b c).side ≡ b.side) × ((after M F b c).roster ≡ b.roster)
      go zero e = rw e (refl, refl)
      go (suc r) e = rw e (refl, refl)

  module _ (side : ℕ) (roster : List ℕ) (acc : Accepted side roster) (s : S) (f : T) where
    stay : (calls : Row Call) →
        ((after_all M F (made side roster s f) calls).side ≡ side) × ((after_all M F (made side roster s f) calls).roster ≡ roster)
    stay ∅ = (refl, refl)
    stay (cs ▸ c) =
        let a = stay cs in
        let b = stays (after_all M F (made side roster s f) cs) c in
        (b.0 ∙ a.0, b.1 ∙ a.1)

    pub comes : (calls : Row Call) → ComesTo side roster (day M F (made side roster s f) calls) (after_all M F (made side roster s f) calls).tables
    comes ∅ = refl
    comes (cs ▸ c) =
        let b : Book S T = after_all M F (made side roster s f) cs in
        let x = comes cs in
        let a = stay cs in
        let ok : AllSound b.side b.roster b.tables = rw (a.0, a.1) (λ c w. (kept side roster acc (day M F (made side roster s f) cs) b.tables x c w).0) in
        record {
          before = b.tables;
          earlier = x;
          last =
              subst (λ k. Leads k roster b.tables (event c (ends M F b c)) (after M F b c).tables) a.0
              (subst (λ r. Leads b.side r b.tables (event c (ends M F b c)) (after M F b c).tables) a.1 (leads b ok c));
        }

    pub possible_day : (calls : Row Call) → PossibleDay side (day M F (made side roster s f) calls)
    possible_day calls =
        record { roster = roster; accepted = acc; tables = (after_all M F (made side roster s f) calls).tables; comes = comes calls }

    pub accounts_hold : (calls : Row Call) (c : ℕ) → within 3 c ≡ true →
        TallyBalances M F c (day M F (made side roster s f) calls) (after_all M F (made side roster s f) calls)
    accounts_hold calls c w =
        let b : Book S T = after_all M F (made side roster s f) calls in
        record {
          standing = total (of c b.tables);
          tallied = rw w;
          balance = balances side roster acc (day M F (made side roster s f) calls) b.tables (comes calls) c w;
        }

    pub priority_holds : (calls : Row Call) → PriorityKept side (day M F (made side roster s f) calls)
    priority_holds calls =
        priority_kept side roster acc (day M F (made side roster s f) calls) (after_all M F (made side roster s f) calls).tables (comes calls)

    pub tables_hold : (calls : Row Call) (c : ℕ) → within 3 c ≡ true →
        TableHoldsWhatStands side roster c (of c (after_all M F (made side roster s f) calls).tables) (day M F (made side roster s f) calls)
    tables_hold calls c w =
        holds side roster acc (day M F (made side roster s f) calls) (after_all M F (made side roster s f) calls).tables (comes calls) c w
