-- The two rounds of leftovers as the code goes through them: by turn round the roster, and along the list for those outside it.
use Rattle.std.proofs.Common.{◌≡◌, ℕ, ◌+◌, ◌-◌, ◌<◌, ◌≤◌, true, false, cond, ◌&&◌, eqb, ltb, ◌⊎◌, List, [], ◌∷◌, ◌++◌, length, Bor, Bool, Iter, MatchOption, Option, Some, None, get_or, take, drop, sym, refl, ap, ◌∙◌, inl, inr, arith}
use Rattle.std.proofs.lemmas.Option.{same_Some}
use Rattle.std.proofs.lemmas.List.{nil_from_length, at_drop_more, at_drop_all}
use Rattle.std.proofs.lemmas.Bool.{cases_Bool, eq-eqb, lt-ltb}
use Rattle.std.proofs.lemmas.Bool.Decides.{nat_tests}
use Rattle.std.specs.Bool.{MatchBool}
use Rattle.std.specs.Iterator.Adapters.{chain_steps}
use Rattle.std.specs.Slice.Iter.{iter_steps}
use Rattle.std.specs.declared.iter.Chain.{Chain}
use Rattle.terms.specs.Numbers.{listed}
use Rattle.sharing.specs.Draw.{unspent, among, outside, round, takers, with_leftovers, behind, turn_after}
use Rattle.sharing.specs.Placed.{Turned}
use Rattle.sharing.specs.Counts.{Single, listed_tells, single_rest, single_first, count_outside, count_round}
use Rattle.sharing.proofs.Handing.{handed, moved, hand_out, hand_out_is}
use Rattle.sharing.specs.Remaining.{count_unspent}

-- ---- a round over two rows ----

-- what is still to come of two rows, one behind the other
abbrev pub to_come : Chain (Iter ℕ) (Iter ℕ) → List ℕ
to_come it = cond it.a_done it.b.rest.now (it.a.rest.now ++ it.b.rest.now)

module _ (s t : Chain (Iter ℕ) (Iter ℕ)) (more : s.b_done ≡ false) where
  -- the second row's answer, where the first has ended
  abbrev Second : Option (Bor ℕ) → Type 0
  Second r = MatchBool s.b_done (r ≡ None) (iter_steps s.b r t.b) × (t.a_done ≡ true)

  abbrev Either : Option (Bor ℕ) → Option (Bor ℕ) → Type 0
  Either r o = MatchOption o (Second r) (λ x. (r ≡ Some x) × (t.b ≡ s.b) × (t.a_done ≡ false))

  second_next : (x : Bor ℕ) → Second (Some x) → (s.b.rest.now ≡ x.now ∷ t.b.rest.now) × (t.a_done ≡ true)
  second_next x k = (rw more at k.0, k.1)

  first_next : (x : Bor ℕ) → s.a_done ≡ false → (o : Option (Bor ℕ)) → iter_steps s.a o t.a → Either (Some x) o → to_come s ≡ x.now ∷ to_come t
  first_next x e None h k = let w = second_next x k in rw (e, nil_from_length s.a.rest.now h.0, w.1) w.0
  first_next x e (Some y) h k = rw (e, h, k.2, k.1) (sym (ap (λ z. z.now ∷ (t.a.rest.now ++ s.b.rest.now)) (same_Some x y k.0)))

  pub next_of_both : (x : Bor ℕ) → chain_steps iter_steps iter_steps s (Some x) t → to_come s ≡ x.now ∷ to_come t
  next_of_both x h = pick s.a_done refl
    where
      pick : (d : Bool) → s.a_done ≡ d → to_come s ≡ x.now ∷ to_come t
      pick true e = let k = second_next x (rw e at h.1) in rw (e, k.1) k.0
      pick false e = let k = rw e at h.1 in first_next x e k.0 k.1 k.2

  second_ends : Second None → s.b.rest.now ≡ []
  second_ends k = nil_from_length s.b.rest.now (rw more at k.0).0

  first_ends : s.a_done ≡ false → (o : Option (Bor ℕ)) → iter_steps s.a o t.a → Either None o → to_come s ≡ []
  first_ends e None h k = rw (e, nil_from_length s.a.rest.now h.0) (second_ends k)
  first_ends e (Some y) h k = absurd cc

  pub end_of_both : chain_steps iter_steps iter_steps s None t → to_come s ≡ []
  end_of_both h = pick s.a_done refl
    where
      pick : (d : Bool) → s.a_done ≡ d → to_come s ≡ []
      pick true e = rw e (second_ends (rw e at h.1))
      pick false e = let k = rw e at h.1 in first_ends e k.0 k.1 k.2

-- ---- by turn ----

-- the turn moves behind each receiver
abbrev pub on : (roster : List ℕ) → ℕ → ℕ → ℕ
on roster turn x = behind roster x

module _ (roster holders sizes : List ℕ) (ys xs : List ℕ) (x : ℕ) (e : ys ≡ x ∷ xs) (left turn : ℕ) (shares : List ℕ) where
  pub turn_gives : (after : ℕ) (given : List ℕ) → 0 < left → listed x (unspent holders sizes shares) ≡ true → after ≡ behind roster x →
      given ≡ with_leftovers (x ∷ []) holders shares →
      hand_out (on roster) holders sizes xs (left - 1) after given ≡ hand_out (on roster) holders sizes ys left turn shares
  turn_gives after given p t a g = rw (a, g) (sym (rw (e, lt-ltb 0 left p, t)))

  pub turn_passes : (left ≡ 0) ⊎ (listed x (unspent holders sizes shares) ≡ false) →
      hand_out (on roster) holders sizes xs left turn shares ≡ hand_out (on roster) holders sizes ys left turn shares
  turn_passes n =
      let none : (ltb 0 left && listed x (unspent holders sizes shares)) ≡ false = grind (arith, nat_tests) in
      sym (rw (e, none))

moved_on : (roster : List ℕ) (turn : ℕ) (xs : List ℕ) → moved (on roster) turn xs ≡ turn_after roster turn xs
moved_on roster turn [] = refl
moved_on roster turn (x ∷ xs) = moved_on roster (behind roster x) xs

-- the round is done
pub turned : (roster holders sizes : List ℕ) (start number : ℕ) (shares : List ℕ) (left turn : ℕ) (given : List ℕ) → Single roster →
    length shares ≡ length holders →
    handed left turn given ≡ hand_out (on roster) holders sizes (round start roster) number start shares →
    Turned roster start number holders sizes shares left turn given
turned roster holders sizes start number shares left turn given o e h =
    let once : Single (round start roster) = λ x. omega (arith, count_round x start roster, o x) in
    let done = h ∙ hand_out_is (on roster) holders sizes (round start roster) number start shares once e in
    record {
      left_is = ap (λ d. d.left) done;
      turn_is = ap (λ d. d.turn) done ∙ moved_on roster start (take number (takers roster start holders sizes shares));
      shares_are = ap (λ d. d.shares) done;
    }

-- ---- outside the roster ----

-- no turn moves
abbrev pub stays : ℕ → ℕ → ℕ
stays turn x = turn

module _ (roster holders sizes : List ℕ) (i holder : ℕ) (l : i < length holders) (e : get_or holders i 0 ≡ holder) where
  pub outside_gives : (left : ℕ) (shares given : List ℕ) → 0 < left → listed holder roster ≡ false → listed holder (unspent holders sizes shares) ≡ true →
      given ≡ with_leftovers (holder ∷ []) holders shares →
      hand_out stays holders sizes (outside (drop (i + 1) holders) roster) (left - 1) 0 given ≡ hand_out stays holders sizes (outside (drop i holders) roster) left 0 shares
  outside_gives left shares given p n t g =
      let here = at_drop_more (λ xs. hand_out stays holders sizes (outside xs roster) left 0 shares) holders i 0 l in
      rw g (sym (rw (e, n, lt-ltb 0 left p, t) at here))

  pub outside_passes : (left : ℕ) (shares : List ℕ) → (left ≡ 0) ⊎ (listed holder roster ≡ true) ⊎ (listed holder (unspent holders sizes shares) ≡ false) →
      hand_out stays holders sizes (outside (drop (i + 1) holders) roster) left 0 shares ≡ hand_out stays holders sizes (outside (drop i holders) roster) left 0 shares
  outside_passes left shares n =
      let here = at_drop_more (λ xs. hand_out stays holders sizes (outside xs roster) left 0 shares) holders i 0 l in
      elim (cases_Bool (listed holder roster)) [
        | inl t ↦ sym (rw (e, t) at here)
        | inr t ↦
            let none : (ltb 0 left && listed holder (unspent holders sizes shares)) ≡ false = grind (arith, nat_tests) in
            sym (rw (e, t, none) at here)
      ]

-- who is not among them does not matter
among_skip : (x : ℕ) (xs ys : List ℕ) → listed x xs ≡ false → among xs (x ∷ ys) ≡ among xs ys
among_skip x [] ys n = refl
among_skip x (z ∷ zs) ys n =
    let more = among_skip x zs ys (grind arith) in
    let other : eqb z x ≡ false = grind (arith, nat_tests) in rw (other, more)

-- those with size unspent that are outside the roster, found either way
among_outside : (holders sizes shares roster : List ℕ) → length sizes ≡ length holders → length shares ≡ length holders → Single holders →
    among (outside holders roster) (unspent holders sizes shares) ≡ outside (unspent holders sizes shares) roster
among_outside [] sizes shares roster e f o = refl
among_outside (holder ∷ holders) [] shares roster e f o = absurd (omega arith)
among_outside (holder ∷ holders) (size ∷ sizes) [] roster e f o = absurd (omega arith)
among_outside (holder ∷ holders) (size ∷ sizes) (share ∷ shares) roster e f o =
    let more = among_outside holders sizes shares roster (omega arith) (omega arith) (single_rest holder holders o) in
    let none = single_first holder holders o in
    let left_out : listed holder (outside holders roster) ≡ false =
    grind (arith, listed_tells holder (outside holders roster), count_outside holder holders roster) in
    let spent : listed holder (unspent holders sizes shares) ≡ false =
    grind (arith, listed_tells holder (unspent holders sizes shares), count_unspent holder holders sizes shares) in
    let skip = among_skip holder (outside holders roster) (unspent holders sizes shares) left_out in
    let self : eqb holder holder ≡ true = eq-eqb holder holder refl in
    elim (cases_Bool (listed holder roster)) [
      | inl r ↦ elim (cases_Bool (ltb share size)) [ inl t ↦ rw (r, t, skip, r) more | inr t ↦ rw (r, t) more ]
      | inr r ↦ elim (cases_Bool (ltb share size)) [ inl t ↦ rw (r, t, self, skip, r) (ap (λ xs. holder ∷ xs) more) | inr t ↦ rw (r, t, spent) more ]
    ]

pub outsiders : (roster holders sizes : List ℕ) (i number : ℕ) (shares : List ℕ) (left : ℕ) (given : List ℕ) → Single holders → length holders ≤ i →
    length sizes ≡ length holders → length shares ≡ length holders →
    hand_out stays holders sizes (outside (drop i holders) roster) left 0 given ≡ hand_out stays holders sizes (outside holders roster) number 0 shares →
    given ≡ with_leftovers (take number (outside (unspent holders sizes shares) roster)) holders shares
outsiders roster holders sizes i number shares left given o l z e h =
    let once : Single (outside holders roster) = λ x. grind (arith, count_outside x holders roster, o x) in
    let done = sym (at_drop_all (λ xs. hand_out stays holders sizes (outside xs roster) left 0 given) holders i l)
    ∙ h ∙ hand_out_is stays holders sizes (outside holders roster) number 0 shares once e in
    ap (λ d. d.shares) done ∙ ap (λ xs. with_leftovers (take number xs) holders shares) (among_outside holders sizes shares roster z e o)
