-- A plain leaf put together: an element of text only that is entered, holds one run of text or nothing, and is left. Inside the root it moves no tally, and it has no record.
use mathlib.Core.Path.{◌≡◌, refl, sym, ap, ◌∙◌}
use mathlib.Core.List.{List, []}
use mathlib.Core.Bool.{Bool, true, false, cond, not, ◌&&◌, ◌||◌}
use Prim.Native.Nat.{ℕ, ◌≤◌, ◌<◌}
use native.Mathlib.Omega.{arith}
use borrow.Author.Tests.{le-leb, lt-leb, ne_eqb}
use lib.Dec.{eqb}
use lib.IntN.{ℤ}
use Rattle.cdi.specs.Lists.{between}
use Rattle.cdi.specs.Pieces.{Attribute, text}
use Rattle.cdi.specs.Numbers.{number}
use Rattle.names.specs.Names.{element_number}
use Rattle.rules_judge.specs.declared.Said.TheVariants.{Silent}
use Rattle.rules_judge.specs.declared.Judge.{Judge as Known}
use Rattle.rules_judge.specs.Judging as J
use Rattle.rules_judge.specs.Judging.{said_by, is_value}
use Rattle.rules_judge.specs.Tables.{entry_at}
use Rattle.rules_judge.specs.Parts.{is_numeric}
use Rattle.judges_state.specs.Decoded.{said_of, judge_of}
use Rattle.judges_state.specs.Steps.{leaf_by}
use Rattle.judges_model.proofs.Answers.{leaf_with_run, leaf_with_nothing}
use Rattle.tally_tag.specs.Tallying as G
use Rattle.tally_tag.specs.Numbered.{numbers_by, segment_at, data_at, recorded_by, enter_by, leave_by, written_by}
use Rattle.tally_tag.specs.declared.Tally.{Tally as Tallied}
use Rattle.tally_tag.specs.declared.Numbers.{Numbers}
use Rattle.tally.proofs.Named.{enter_named, leave_named, written_named}
use Rattle.tallies_state.specs.Flat.{tally_of}
use Rattle.parse_sums.specs.Sums.{records_of, enter_of, other_of, leave_of, written_of}
use Rattle.parse_sums.specs.declared.State.{State as Summed}
use Rattle.parse_state.specs.States.{state_of, leaf_of}
use Rattle.parse_state.specs.declared.State.{State}
use Rattle.parse_state.proofs.Beside.{beside}

-- ── the tally of an element of text only ──

and-false : (t : Bool) → (t && false) ≡ false
and-false true = refl
and-false false = refl

module _ (child : ℕ) (h : 12 ≤ child) where
  no_segment : (d : ℕ) → segment_at d child ≡ false
  unfolding segment_at
  no_segment d = rw (ne_eqb child 4 (λ z. omega arith)) (and-false (eqb d 1))

  no_data : (d : ℕ) → data_at d child ≡ false
  unfolding data_at between
  no_data d = rw (le-leb 5 child (omega arith), lt-leb child 9 (omega arith)) (and-false (eqb d 2))

  no_record : (d : ℕ) → recorded_by d child ≡ false
  unfolding recorded_by
  no_record d = rw (no_segment d, no_data d)

  as_it_was : (g : Tallied) (p : ℕ) (m : Numbers) → (g.level ≡ 0 → ⊥) → leave_by g p child m (enter_by g child) ≡ g
  unfolding leave_by enter_by
  as_it_was g p m z = rw (no_record g.level, no_segment g.level, no_data g.level, ne_eqb g.level 0 z)

module _ (g : Tallied) (p : ℕ) (n : List ℕ) (s : List Attribute) {child : ℕ} (ec : child ≡ element_number n) (h : 12 ≤ child) where
  tally_kept : (g.level ≡ 0 → ⊥) → G.leave_of g p n s (G.enter_of g n) ≡ g
  tally_kept z = rw (← enter_named n g, ← leave_named n g p s (enter_by g (element_number n)), ← ec) (as_it_was child h g p (numbers_by child s) z)

  records_kept : (G.enter_of g n).records ≡ g.records
  records_kept = rw (← enter_named n g, ← ec) (unfold enter_by in rw (no_record child h g.level))

  table_kept : (i : Tallied) (t : List ℤ) → G.written g p n s i t ≡ t
  table_kept i t = rw (← written_named n g p s i t, ← ec) (unfold written_by in rw (no_record child h g.level))

-- ── the state ──

module _ (st : State) (p : ℕ) (n : List ℕ) {child : ℕ} (ec : child ≡ element_number n) (h : 12 ≤ child) where
  pub leaf_unrecorded : records_of (enter_of (state_of st) p n []) ≡ records_of (state_of st)
  unfolding records_of enter_of
  leaf_unrecorded = records_kept (state_of st).tally p n [] ec h

  pub leaf_unwritten : (i : Summed) (t : List ℤ) → t ≡ written_of (state_of st) p n [] i t
  unfolding written_of
  leaf_unwritten i t = sym (table_kept (state_of st).tally p n [] ec h i.tally t)

  module _ {entry : ℕ} (ee : entry ≡ entry_at st.judge.row child) (o : st.judge.last < entry) (z : st.tally.level ≡ 0 → ⊥) (said m : ℕ) (t : List ℕ)
      (es : said_of said m ≡ cond (st.judge.numeric && is_numeric child) (said_by (number t)) Silent) (g : (not (st.judge.numeric && is_numeric child) || is_value (said_of said 0)) ≡ true)
      (r : State) (er : state_of r ≡ leaf_of (state_of st) p child entry (said_of said m)) where
    judged : judge_of r.judge ≡ leaf_by (judge_of st.judge) p child entry (said_of said m)
    judged = unfold state_of leaf_of in ap (λ (x : Summed). x.judge) er

    -- judge and tally beside each other, where the judge is left
    together : (i : Known) → judge_of r.judge ≡ J.leave_of (judge_of st.judge) p n [] i → state_of r ≡ leave_of (state_of st) p n [] (record { judge = i; tally = G.enter_of (state_of st).tally n; root = cond (eqb (state_of st).tally.level 0) p (state_of st).root })
    together i e = unfold state_of leaf_of leave_of tally_of in beside e (ap (λ (x : Summed). x.tally) er ∙ sym (tally_kept (state_of st).tally p n [] ec h z)) (ap (λ (x : Summed). x.root) er ∙ rw (ne_eqb st.tally.level 0 z))

    -- with one run of text
    pub leaf_one_run : (q : ℕ) → state_of r ≡ leave_of (state_of st) p n [] (other_of (enter_of (state_of st) p n []) q (text t))
    unfolding other_of enter_of state_of
    leaf_one_run q = together _ (leaf_with_run st.judge r.judge p n ec ee h o said m t es refl g judged q)

    -- with nothing in it
    pub leaf_nothing : t ≡ [] → state_of r ≡ leave_of (state_of st) p n [] (enter_of (state_of st) p n [])
    unfolding enter_of state_of
    leaf_nothing e = together _ (leaf_with_nothing st.judge r.judge p n ec ee h o said m t es refl g judged e)
