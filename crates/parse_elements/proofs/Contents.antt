-- Reading content, one law for each way through the loop.
use mathlib.Core.Path.{◌≡◌, refl, sym, ap, ◌∙◌}
use mathlib.Core.List.{List, [], ◌∷◌}
use mathlib.Core.Bool.{Bool, true, false, cond, not, ◌&&◌}
use mathlib.Core.Logic.{◌⊎◌, inl, inr, ⊎_elim}
use Prim.Native.Nat.{ℕ, ◌+◌, ◌-◌, ◌%◌, ◌≤◌, ◌<◌}
use native.Mathlib.Omega.{arith}
use borrow.Author.Rules.{rules}
use borrow.Author.Tests.{eq-eqb, ne_eqb, eqb-true}
use lib.Dec.{eqb, ltb}
use lib.IntN.{ℤ}
use lib.ListN.{length, drop, drop_of_length-le}
use Rattle.cdi.specs.Lists.{while, is_empty}
use Rattle.cdi.specs.Faults.{unless, lesser, least}
use Rattle.cdi.specs.Markup.{outside, markup_faults}
use Rattle.cdi.proofs.Tests.{both_left, both_right}
use Rattle.cdi.specs.Pieces.{Piece, text, refer, blank, pieces}
use Rattle.cdi.proofs.Quiet.{impossible}
use Rattle.scan.proofs.Tests.{eq_or_ne}
use Rattle.pieces_cuts.specs.Places.{part}
use Rattle.pieces_cuts.specs.Cuts.{piece_of, text_of, Stands}
use Rattle.pieces_cuts.specs.declared.Kind.{Kind}
use Rattle.pieces_cuts.specs.declared.Kind.TheVariants.{Start, Finish, Remark, Refer, Text, Malformed, Unsupported}
use Rattle.pieces_cuts.specs.declared.Cut.{Cut}
use Rattle.marks_cuts.specs.Marks.{sort_at}
use Rattle.marks_cuts.proofs.Others.{other_text}
use Rattle.marks_cuts.proofs.Sorts.{sort_is, end_sort, end_room, text_sort, other_sort}
use Rattle.marks_runs.specs.Runs.{Runs}
use Rattle.marks_ends.specs.Ends.{Finishes}
use Rattle.rules_judge.specs.declared.Judge.{Judge}
use Rattle.judges_state.specs.Steps.{rare_of}
use Rattle.judges_model.proofs.Rare.{a_reference}
use Rattle.parse_steps.specs.Asks.{step_of, around_of}
use Rattle.parse_steps.specs.declared.Step.TheVariants.{Pass}
use Rattle.parse_steps.specs.declared.Around.TheVariants.{Skip, Stray}
use Rattle.parse_marks.specs.Rare.{is_refer, Rares}
use Rattle.parse_marks.proofs.Rarely.{rare_stops, rare_passes}
use Rattle.parse_sums.specs.Sums.{other_of, at_first}
use Rattle.parse_sums.specs.declared.State.{State as Summed}
use Rattle.parse_laws.specs.Passing.{Passed, Fails}
use Rattle.parse_laws.proofs.Steps.{none_yet, farther, fails_later, unclosed, stopped, passes}
use Rattle.parse_laws.proofs.Outside.{stray_piece, blank_piece}
use Rattle.parse_state.specs.States.{state_of, Fits}
use Rattle.parse_state.specs.declared.State.{State}
use Rattle.parse_elements.specs.Reading.{ElementReads, ContentReads}
use Rattle.parse_elements.specs.declared.Reached.{Reached}
use Rattle.parse_elements.proofs.Leaves.{counted}

-- the way so far
pub record Going (s : List ℕ) (left at b₀ : ℕ) (st₀ : Summed) (t₀ : List ℤ) (i b : ℕ) (st : State) (t : List ℤ) : Type 0 where
  pub way : Passed s left at b₀ st₀ t₀ i b (state_of st) t
  pub fit : Fits st
  pub eight : length t % 8 ≡ 0

pub begun : (s : List ℕ) (left at b : ℕ) (st : State) (t : List ℤ) → at ≤ length s → b ≤ 4096 → Fits st → st.tally.records ≤ b → length t % 8 ≡ 0 → Going s left at b (state_of st) t at b st t
begun s left at b st t h l f k e = record { way = none_yet s left at b (state_of st) t h l (omega (arith, counted st)); fit = f; eight = e }

module _ {s : List ℕ} {left at b₀ : ℕ} {st₀ : Summed} {t₀ : List ℤ} {i b : ℕ} {st : State} {t : List ℤ} (v : Going s left at b₀ st₀ t₀ i b st t) where
  -- what the next step is asked for
  pub some_begun : b ≤ 4096
  some_begun = v.way.begun

  pub still_fits : Fits st
  still_fits = v.fit

  pub few_records : st.tally.records ≤ b
  few_records = omega (arith, v.way.few, counted st)

  pub still_eight : length t % 8 ≡ 0
  still_eight = v.eight

  -- a refusal
  refuses : (n p x : ℕ) (y : State) {t' : List ℤ} → (n ≡ 0 → ⊥) → Fails s left at b₀ n p → ContentReads s left at b₀ st₀ t₀ t' (record { number = n; place = p; begun = x; state = y })
  refuses n p x y z f = record { done = λ e. absurd (z e); fits = λ e. absurd (z e); tag = λ e. absurd (z e); over = λ e. absurd (z e); fails = λ e. f }

  -- a piece that is refused outside the root, one that is passed there, and one that is passed inside it
  outside_fails : left ≡ 24 → {c : Cut} → Stands s i c → {n p : ℕ} → around_of c.kind i c.solid c.end ≡ Stray n p → Fails s left at b₀ n p
  outside_fails l u q = let w : Passed s 24 at b₀ st₀ t₀ i b (state_of st) t = rw (← l) v.way in rw l (stray_piece w u q)

  outside_passes : left ≡ 24 → {c : Cut} → Stands s i c → around_of c.kind i c.solid c.end ≡ Skip → (st₁ : State) → state_of st₁ ≡ other_of (state_of st) i (piece_of c.kind s i c) → Fits st₁ → st₁.tally.records ≤ st.tally.records
      → Going s left at b₀ st₀ t₀ c.end b st₁ t
  outside_passes l u q st₁ g fit m = let w : Passed s 24 at b₀ st₀ t₀ i b (state_of st) t = rw (← l) v.way in record { way = rw l (blank_piece w u q g (omega (arith, counted st, counted st₁))); fit = fit; eight = v.eight }

  inside_passes : (left ≡ 24 → ⊥) → left ≤ 24 → {c : Cut} → Stands s i c → step_of c.kind ≡ Pass → (st₁ : State) → state_of st₁ ≡ other_of (state_of st) i (piece_of c.kind s i c) → Fits st₁ → st₁.tally.records ≤ st.tally.records
      → Going s left at b₀ st₀ t₀ c.end b st₁ t
  inside_passes l h u q st₁ g fit m = record { way = passes v.way u q (omega arith) g (omega (arith, counted st, counted st₁)); fit = fit; eight = v.eight }

  -- without a root the text's end is the fault
  no_root_at : left ≡ 24 → length s ≤ i → b ≡ 0 → Fails s left at b₀ 6 (length s)
  unfolding pieces markup_faults outside is_empty unless least lesser
  no_root_at l h z = record { first = λ ms e. let none : ms ≡ [] = empty ms (omega (arith, l, e)) in ap least (v.way.faults ms e) ∙ rw (none, drop_of_length-le s h, z) }
    where
      empty : (ms : List (List ℕ)) → length ms ≤ 0 → ms ≡ []
      empty [] k = refl
      empty (m ∷ ms) k = absurd (omega arith)

  -- ── an element ──

  module _ {t' : List ℤ} (r : Reached) (w : ElementReads s left i b (state_of st) t t' r) where
    pub child_refused : (r.number ≡ 0 → ⊥) → ContentReads s left at b₀ st₀ t₀ t' r
    child_refused z = record { done = λ e. absurd (z e); fits = λ e. absurd (z e); tag = λ e. absurd (z e); over = λ e. absurd (z e); fails = λ e. fails_later v.way (w.fails z) }

    pub child_read : r.number ≡ 0 → Going s left at b₀ st₀ t₀ r.place r.begun r.state t'
    child_read z = record { way = farther v.way (w.done z); fit = w.fits z; eight = rw (w.done z).long v.eight }

    pub child_less : r.number ≡ 0 → i < length s → length s - r.place < length s - i
    child_less z h = omega (arith, w.ahead z, (w.done z).high)

  -- ── a run of text ──

  module _ (h : left ≤ 24) {e d : ℕ} (w : Runs s i e d) where
    pub run_refused : (x : ℕ) (y : State) → e ≡ 0 → ContentReads s left at b₀ st₀ t₀ t (record { number = 4; place = i; begun = x; state = y })
    unfolding step_of
    run_refused x y z = refuses 4 i x y (λ q. omega arith) (stopped v.way (w.bad z) refl)

    module _ (z : e ≡ 0 → ⊥) {k : Bool} (f : k ≡ (eqb left 24 && ltb d e)) where
      pub run_stray : (x : ℕ) (y : State) → k ≡ true → ContentReads s left at b₀ st₀ t₀ t (record { number = 6; place = d; begun = x; state = y })
      run_stray x y q = refuses 6 d x y (λ r. omega arith) (outside_fails (eqb-true left 24 (both_left (eqb left 24) (ltb d e) (sym f ∙ q))) (w.text z) (unfold around_of in rw (both_right (eqb left 24) (ltb d e) (sym f ∙ q))))

      pub run_read : (st₁ : State) → k ≡ false → state_of st₁ ≡ other_of (state_of st) i (text (part s i e)) → Fits st₁ → st₁.tally.records ≤ st.tally.records → Going s left at b₀ st₀ t₀ e b st₁ t
      run_read st₁ q g fit m = ⊎_elim
          (λ (l : left ≡ 24). outside_passes l (w.text z) (unfold around_of in rw (second l)) st₁ (unfold piece_of in g) fit m)
          (λ (l : left ≡ 24 → ⊥). inside_passes l h (w.text z) (unfold step_of in refl) st₁ (unfold piece_of in g) fit m)
          (eq_or_ne left 24)
        where
          second : left ≡ 24 → ltb d e ≡ false
          second l = rw (eq-eqb left 24 l) at (sym f ∙ q)

      pub run_low : i < e
      run_low = (w.text z).cut.low

      pub run_high : e ≤ length s
      run_high = (w.text z).cut.high

      pub run_solid_high : d ≤ e
      run_solid_high = (w.text z).cut.solid_high

      pub run_solid_is : d ≡ i + length (while blank (part s i e))
      unfolding piece_of text_of
      run_solid_is = (w.text z).cut.solid ∙ ap (λ (x : Piece × List ℕ). i + length (while blank (text_of x.0))) (w.text z).cut.is

      pub run_less : length s - e < length s - i
      run_less = omega (arith, (w.text z).cut.low, (w.text z).cut.high)

  -- ── an end tag ──

  module _ {k : ℕ} (q : k ≡ sort_at (drop i s)) (z : k ≡ 1) where
    pub tag_reached : (left ≡ 24 → ⊥) → ContentReads s left at b₀ st₀ t₀ t (record { number = 0; place = i; begun = b; state = st })
    tag_reached l = record { done = λ e. v.way; fits = λ e. v.fit; tag = λ e y. end_sort s i q z; over = λ e y. absurd (l y); fails = λ e. absurd (e refl) }

  pub tag_stray : {n e m : ℕ} (x : ℕ) (y : State) → left ≡ 24 → Finishes s i n e → m ≡ cond (eqb e 0) 4 6 → ContentReads s left at b₀ st₀ t₀ t (record { number = m; place = i; begun = x; state = y })
  tag_stray {n} {e} {m} x y l w f = ⊎_elim
      (λ (z : e ≡ 0). let g : m ≡ 4 = f ∙ rw (eq-eqb e 0 z) in refuses m i x y (λ r. omega arith) (rw g (outside_fails l (w.bad z) (unfold around_of in refl))))
      (λ (z : e ≡ 0 → ⊥). let g : m ≡ 6 = f ∙ rw (ne_eqb e 0 z) in refuses m i x y (λ r. omega arith) (rw g (outside_fails l (w.tag z) (unfold around_of in refl))))
      (eq_or_ne e 0)

  -- ── any other piece ──

  module _ (h : left ≤ 24) (third : sort_at (drop i s) ≡ 3) {n e : ℕ} {r : Bool} (w : Rares s i n e r) where
    pub rare_refused : (x : ℕ) (y : State) → (n ≡ 0 → ⊥) → ContentReads s left at b₀ st₀ t₀ t (record { number = n; place = i; begun = x; state = y })
    rare_refused x y z = refuses n i x y z (stopped v.way w.stands (rare_stops w third z))

    module _ (z : n ≡ 0) {k : Bool} (f : k ≡ (eqb left 24 && r)) where
      is_rare : (c : Kind) → w.cut.kind ≡ c → (c ≡ Remark) ⊎ (c ≡ Refer)
      unfolding step_of
      is_rare Start q = let g : step_of Start ≡ Pass = ap step_of (sym q) ∙ rare_passes w third z in impossible (cc)
      is_rare Finish q = let g : step_of Finish ≡ Pass = ap step_of (sym q) ∙ rare_passes w third z in impossible (cc)
      is_rare Remark q = inl refl
      is_rare Refer q = inr refl
      is_rare Text q = absurd (other_text third w.stands q)
      is_rare Malformed q = let g : step_of Malformed ≡ Pass = ap step_of (sym q) ∙ rare_passes w third z in impossible (cc)
      is_rare Unsupported q = let g : step_of Unsupported ≡ Pass = ap step_of (sym q) ∙ rare_passes w third z in impossible (cc)

      refers_so : w.cut.kind ≡ Refer → r ≡ true
      unfolding is_refer
      refers_so q = w.refer ∙ rw q

      remarks_so : w.cut.kind ≡ Remark → r ≡ false
      unfolding is_refer
      remarks_so q = w.refer ∙ rw q

      pub rare_stray : (x : ℕ) (y : State) → k ≡ true → ContentReads s left at b₀ st₀ t₀ t (record { number = 6; place = i; begun = x; state = y })
      rare_stray x y q = refuses 6 i x y (λ p. omega arith) (outside_fails (eqb-true left 24 (both_left (eqb left 24) r (sym f ∙ q))) w.stands (⊎_elim
          (λ (c : w.cut.kind ≡ Remark). let g : false ≡ true = sym (remarks_so c) ∙ both_right (eqb left 24) r (sym f ∙ q) in impossible (cc))
          (λ (c : w.cut.kind ≡ Refer). unfold around_of in rw c)
          (is_rare w.cut.kind refl)))

      rare_state : (st₁ : State) → state_of st₁ ≡ other_of (state_of st) i (rare_of r) → state_of st₁ ≡ other_of (state_of st) i (piece_of w.cut.kind s i w.cut)
      rare_state st₁ g = ⊎_elim
          (λ (c : w.cut.kind ≡ Remark). g ∙ (unfold piece_of rare_of in rw (c, remarks_so c)))
          (λ (c : w.cut.kind ≡ Refer). g ∙ (unfold piece_of other_of in rw (c, refers_so c) (ap (λ (j : Judge). record { judge = j; tally = (state_of st).tally; root = (state_of st).root }) (a_reference (state_of st).judge i w.cut.code))))
          (is_rare w.cut.kind refl)

      pub rare_read : (st₁ : State) → k ≡ false → state_of st₁ ≡ other_of (state_of st) i (rare_of r) → Fits st₁ → st₁.tally.records ≤ st.tally.records → Going s left at b₀ st₀ t₀ e b st₁ t
      rare_read st₁ q g fit m = rw w.end (⊎_elim
          (λ (l : left ≡ 24). outside_passes l w.stands (skipped l) st₁ (rare_state st₁ g) fit m)
          (λ (l : left ≡ 24 → ⊥). inside_passes l h w.stands (rare_passes w third z) st₁ (rare_state st₁ g) fit m)
          (eq_or_ne left 24))
        where
          skipped : left ≡ 24 → around_of w.cut.kind i w.cut.solid w.cut.end ≡ Skip
          skipped l = ⊎_elim
              (λ (c : w.cut.kind ≡ Remark). unfold around_of in rw c)
              (λ (c : w.cut.kind ≡ Refer). let g : true ≡ false = sym (refers_so c) ∙ (rw (eq-eqb left 24 l) at (sym f ∙ q)) in impossible (cc))
              (is_rare w.cut.kind refl)

      pub rare_less : length s - e < length s - i
      rare_less = omega (arith, w.end, w.stands.cut.low, w.stands.cut.high)

  -- ── the end ──

  module _ (h : left ≤ 24) (u : length s ≤ i) {k : Bool} (f : k ≡ (eqb left 24 && not (eqb b 0))) where
    at_end : i ≡ length s
    at_end = omega (arith, v.way.high)

    pub text_read : k ≡ true → ContentReads s left at b₀ st₀ t₀ t (record { number = 0; place = length s; begun = b; state = st })
    text_read q = record {
      done = λ e. rw (← at_end) v.way;
      fits = λ e. v.fit;
      tag = λ e l. absurd (l (eqb-true left 24 (both_left (eqb left 24) (not (eqb b 0)) (sym f ∙ q))));
      over = λ e l. (omega arith, λ z. let g : false ≡ true = rw (eq-eqb b 0 z) at (both_right (eqb left 24) (not (eqb b 0)) (sym f ∙ q)) in impossible (cc));
      fails = λ e. absurd (e refl);
    }

    pub text_ended : (x : ℕ) (y : State) → k ≡ false → ContentReads s left at b₀ st₀ t₀ t (record { number = 6; place = length s; begun = x; state = y })
    text_ended x y q = refuses 6 (length s) x y (λ p. omega arith) (⊎_elim
        (λ (l : left ≡ 24). rootless l (none_begun l))
        (λ (l : left ≡ 24 → ⊥). unclosed v.way (omega arith) u)
        (eq_or_ne left 24))
      where
        none_begun : left ≡ 24 → b ≡ 0
        none_begun l = ⊎_elim (λ (z : b ≡ 0). z) (λ (z : b ≡ 0 → ⊥). let g : true ≡ false = rw (eq-eqb left 24 l, ne_eqb b 0 z) at (sym f ∙ q) in impossible (cc)) (eq_or_ne b 0)

        rootless : left ≡ 24 → b ≡ 0 → Fails s left at b₀ 6 (length s)
        rootless l z = no_root_at l u z

pub ruleset content_loop = (begun, some_begun, still_fits, few_records, still_eight, child_refused, child_read, child_less, run_refused, run_stray, run_read, run_low, run_high, run_solid_high, run_solid_is, run_less, tag_reached, tag_stray, rare_refused, rare_stray, rare_read, rare_less, text_read, text_ended, sort_is, end_sort, end_room, text_sort, other_sort, rules)

-- from the state before the text
pub from_first : (s : List ℕ) (left at b : ℕ) (st : State) (t t' : List ℤ) (r : Reached) → state_of st ≡ at_first → ContentReads s left at b (state_of st) t t' r → ContentReads s left at b at_first t t' r
from_first s left at b st t t' r e w = rw (← e) w

pub ruleset reading = (from_first, rules)
