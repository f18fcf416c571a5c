-- What is kept of one class's table through the day, and how each change of the table keeps it.
use Rattle.std.proofs.Common.{◌≡◌, ℕ, ◌+◌, ◌-◌, ◌<◌, ◌≤◌, Bool, true, false, cond, eqb, List, length, sym, ◌∙◌, inl, inr, arith}
use Rattle.std.proofs.lemmas.Bool.{cases_Bool}
use Rattle.std.specs.List.{AllByRecursion as All}
use Rattle.terms.specs.Numbers.{listed, within}
use Rattle.blocks.specs.Blocks.{filled_by}
use Rattle.blocks.specs.declared.Fill.{Fill}
use Rattle.kept.proofs.Entering.{InRank, all_entered, in_rank_entered}
use Rattle.kept.specs.Inserting.{entered}
use Rattle.kept.specs.Standing.{Interest}
use Rattle.model.specs.Fills.{given_to, less}
use Rattle.model.specs.Tables.{has, left_to, total, without, price_of, ranks, holders_of}
use Rattle.model.specs.Words.{places, maker}
use Rattle.laws.proofs.Changing.{PartOf, Lowers, once_part, each_part, length_part, once_entered, length_entered}
use Rattle.laws.proofs.Lists.{Once}
use Rattle.laws.proofs.Lookup.{look_entered, look_without, left_less, price_less}
use Rattle.laws.proofs.Ranking.{ranked_as, ranks_total, ranks_chained, in_rank_part}
use Rattle.laws.proofs.Totals.{Covers, total_entered, total_without, total_less_all}

-- a record that may stand: its holder passes, its contracts and price are in their bounds
abbrev pub Fit : (who : ℕ → Bool) → Interest → Type 0
Fit who r = (who r.holder ≡ true) × (0 < r.left) × (r.left ≤ 99999) × (0 < r.price) × (r.price ≤ 999999)

fit_lowers : (who : ℕ → Bool) → Lowers (Fit who)
fit_lowers who r n f a b = let x = f.2 in (f.0, a, omega arith, f.3, f.4)

-- who may stand in the table of a class
abbrev pub who : (class : ℕ) → (roster : List ℕ) → ℕ → Bool
who class roster h = cond (eqb class maker) (listed h roster) (within 999999 h)

-- a sound table of a class
pub record Sound (side : ℕ) (roster : List ℕ) (class : ℕ) (t : List Interest) : Type 0 where
  pub once : Once (holders_of t)
  pub fit : All (Fit (who class roster)) t
  pub few : length t ≤ places class
  pub ranked : InRank (ranks side class roster) t

-- a table as a day tells of it: contracts and prices by holder, and the account
pub record Told (t : List Interest) (stands at : ℕ → ℕ) (entered filled off : ℕ) : Type 0 where
  pub contracts : (h : ℕ) → left_to h t ≡ stands h
  pub priced : (h : ℕ) → 0 < stands h → price_of h t ≡ at h
  pub balanced : entered ≡ filled + off + total t

-- ---- a new record ----

pub sound_entered : (side : ℕ) (roster : List ℕ) (class : ℕ) (r : Interest) (t : List Interest) → Fit (who class roster) r → has r.holder t ≡ false →
    length t < places class → Sound side roster class t → Sound side roster class (entered (ranks side class roster) r t)
sound_entered side roster class r t f e l s =
    record {
      once = once_entered (ranks side class roster) r t e s.once;
      fit = all_entered (ranks side class roster) (Fit (who class roster)) r t f s.fit;
      few = let a = length_entered (ranks side class roster) r t in omega arith;
      ranked = in_rank_entered (ranks side class roster) (ranks_total side class roster) (ranks_chained side class roster) r t s.ranked;
    }

pub told_entered : (nw : Interest → Interest → Bool) (r : Interest) (t : List Interest) (st at : ℕ → ℕ) (en fi off : ℕ) →
    has r.holder t ≡ false → Told t st at en fi off →
    Told (entered nw r t) (λ h. cond (eqb h r.holder) r.left (st h)) (λ h. cond (eqb h r.holder) r.price (at h))
    (en + r.left) fi off
told_entered nw r t st at en fi off e s =
    record {
      contracts = λ h. (look_entered nw r t h e).0 ∙ rw (s.contracts h);
      priced = λ h p.
          elim (cases_Bool (eqb h r.holder)) [
            | inl w ↦ (look_entered nw r t h e).1 ∙ rw w
            | inr w ↦ (look_entered nw r t h e).1 ∙ rw w (s.priced h (rw w at p))
          ];
      balanced = let a = total_entered nw r t in let b = s.balanced in omega arith;
    }

-- ---- a record that leaves ----

-- what is left of a sound table is sound
pub sound_part : (side : ℕ) (roster : List ℕ) (class : ℕ) {t t' : List Interest} → PartOf t' t → Sound side roster class t → Sound side roster class t'
sound_part side roster class p s =
    record {
      once = once_part p s.once;
      fit = each_part (Fit (who class roster)) (fit_lowers (who class roster)) p s.fit;
      few = let a = length_part p in let b = s.few in omega arith;
      ranked = in_rank_part (ranked_as side class roster) p s.ranked;
    }

pub told_without : (k : ℕ) (t : List Interest) (st at : ℕ → ℕ) (en fi off : ℕ) → Once (holders_of t) → Told t st at en fi off →
    Told (without k t) (λ h. cond (eqb h k) 0 (st h)) at en fi (off + left_to k t)
told_without k t st at en fi off o s =
    record {
      contracts = λ h. (look_without k t h o).0 ∙ rw (s.contracts h);
      priced = λ h p.
          elim (cases_Bool (eqb h k)) [
            | inl w ↦ let p' = rw w at p in absurd (omega arith)
            | inr w ↦ (look_without k t h o).1 ∙ rw w (s.priced h (rw w at p))
          ];
      balanced = let a = total_without k t in let b = s.balanced in omega arith;
    }

-- ---- fills ----

pub told_less : (fs : List Fill) (t : List Interest) (st st' at : ℕ → ℕ) (en fi off fi' off' : ℕ) → Once (holders_of t) → Covers fs t →
    ((h : ℕ) → st' h ≡ st h - given_to h fs) → fi' + off' ≡ fi + off + filled_by fs → Told t st at en fi off →
    Told (less fs t) st' at en fi' off'
told_less fs t st st' at en fi off fi' off' o c e m s =
    let l : (h : ℕ) → left_to h (less fs t) ≡ st' h = λ h. left_less fs t h o ∙ rw (s.contracts h, e h) in
    record {
      contracts = l;
      priced = λ h p.
          let a = l h in let b = e h in
          price_less fs t h o (omega arith) ∙ s.priced h (omega arith);
      balanced = let a = total_less_all fs t o c in let b = s.balanced in omega arith;
    }

-- ---- the same table, told another way ----

pub told_ext : {t : List Interest} {st at st' at' : ℕ → ℕ} {en fi off en' fi' off' : ℕ} → Told t st at en fi off →
    ((h : ℕ) → st' h ≡ st h) → ((h : ℕ) → 0 < st' h → at' h ≡ at h) → en' + fi + off ≡ en + fi' + off' → Told t st' at' en' fi' off'
told_ext s a b c =
    record {
      contracts = λ h. s.contracts h ∙ sym (a h);
      priced = λ h p. s.priced h (rw (a h) at p) ∙ sym (b h p);
      balanced = let x = s.balanced in omega arith;
    }
