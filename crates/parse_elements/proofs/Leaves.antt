-- Reading a plain leaf, which is entering it, one run of text or nothing, and leaving it.
use mathlib.Core.Path.{◌≡◌, refl, ap, ◌∙◌}
use mathlib.Core.List.{List, []}
use mathlib.Core.Bool.{false}
use mathlib.Core.Logic.{⊎_elim}
use Prim.Native.Nat.{ℕ, ◌+◌, ◌-◌, ◌≤◌}
use native.Mathlib.Omega.{arith}
use lib.IntN.{ℤ}
use lib.ListN.{drop, take}
use Rattle.cdi.specs.Pieces.{attributes, text}
use Rattle.scan.proofs.Tests.{eq_or_ne}
use Rattle.names.specs.Names.{element_number}
use Rattle.pieces_cuts.specs.Places.{part}
use Rattle.pieces_cuts.specs.Cuts.{piece_of}
use Rattle.marks_leaf.specs.Leaves.{Leaves}
use Rattle.marks_leaf.proofs.Told.{leaf_same, leaf_ahead}
use Rattle.rules_judge.specs.Tables.{entry_at}
use Rattle.judges_state.specs.Decoded.{said_of}
use Rattle.tallies_state.specs.Flat.{tally_of}
use Rattle.parse_steps.specs.Asks.{step_of, begin_fault}
use Rattle.parse_leaves.specs.Leaves.{Plainly}
use Rattle.parse_leaves.specs.declared.Leaf.{Leaf}
use Rattle.parse_sums.specs.Sums.{records_of, enter_of, other_of, leave_of}
use Rattle.parse_sums.specs.declared.State.{State as Summed}
use Rattle.parse_laws.specs.Passing.{Passed}
use Rattle.parse_laws.proofs.Steps.{none_yet, passes, long_element}
use Rattle.parse_state.specs.States.{state_of, Fits, leaf_of}
use Rattle.parse_state.specs.declared.State.{State}
use Rattle.parse_state.proofs.Leaf.{leaf_unrecorded, leaf_unwritten, leaf_one_run, leaf_nothing}
use Rattle.parse_elements.specs.Reading.{ElementReads}

-- the records that a state counts
pub counted : (st : State) → records_of (state_of st) ≡ st.tally.records
unfolding records_of state_of tally_of
counted st = refl

module _ {s : List ℕ} {left at b : ℕ} (st : State) {n child entry : ℕ} (ec : child ≡ element_number (part s (at + 1) n)) (ee : entry ≡ entry_at st.judge.row child)
    {m : ℕ} (f : m ≡ begin_fault false left b) (one : 1 ≤ left + m) (room : b + 1 ≤ 4096 + m) (h : left ≤ 24) (few : st.tally.records ≤ b)
    (l : Leaf) (w : Plainly s at n m child entry st.judge.last st.tally.level st.judge.numeric l) (z : l.end ≡ 0 → ⊥)
    (r : State) (er : state_of r ≡ leaf_of (state_of st) at child entry (said_of l.said l.magnitude)) (fr : r.tally.records ≤ st.tally.records) (t : List ℤ) where
  abbrev name : List ℕ
  name = part s (at + 1) n

  abbrev inner : Summed
  inner = enter_of (state_of st) at name (attributes n 0 (drop n s))

  v : Leaves s at n w.to l.end
  v = record { plain = λ e. w.plain }

  bare : attributes n 0 (drop n s) ≡ []
  bare = w.plain.bare

  few_inside : records_of inner ≡ st.tally.records
  few_inside = rw bare (leaf_unrecorded st at name ec w.worded) ∙ counted st

  begin : Passed s (left - 1) (n + 1) (b + 1) inner t (n + 1) (b + 1) inner t
  begin = none_yet s (left - 1) (n + 1) (b + 1) inner t w.plain.start.cut.high (omega (arith, w.begun)) (omega (arith, few_inside))

  -- its own end tag behind one run of text or nothing
  finish : (last : Summed) → Passed s (left - 1) (n + 1) (b + 1) inner t w.to (b + 1) last t → records_of last ≡ st.tally.records → state_of r ≡ leave_of (state_of st) at name (attributes n 0 (drop n s)) last
      → Passed s left at b (state_of st) t l.end (b + 1) (state_of r) t
  finish last way same_records e = long_element s left at b (state_of st) t w.plain.start refl f w.begun refl (omega (arith, w.begun)) way w.plain.finish refl (leaf_same v z) refl
      e (rw bare (leaf_unwritten st at name ec w.worded last t)) (omega (arith, same_records, counted r)) refl

  with_run : (w.to ≡ n + 1 → ⊥) → Passed s left at b (state_of st) t l.end (b + 1) (state_of r) t
  unfolding step_of piece_of
  with_run y = finish (other_of inner (n + 1) (text (part s (n + 1) w.to)))
      (passes begin (w.plain.text y) refl (omega (arith, w.begun)) refl (unfold records_of other_of in omega arith))
      (unfold records_of other_of in few_inside)
      (rw bare (leaf_one_run st at name ec w.worded ee w.later w.inside l.said l.magnitude (part s (n + 1) w.to) w.says w.good r er (n + 1)))

  without : w.to ≡ n + 1 → Passed s left at b (state_of st) t l.end (b + 1) (state_of r) t
  without y = finish inner (rw y begin) few_inside
      (rw bare (leaf_nothing st at name ec w.worded ee w.later w.inside l.said l.magnitude (part s (n + 1) w.to) w.says w.good r er nothing))
    where
      nothing : part s (n + 1) w.to ≡ []
      nothing = ap (λ (k : ℕ). take k (drop (n + 1) s)) (let e : w.to - (n + 1) ≡ 0 = omega arith in e)

  pub leaf_read : {b' : ℕ} → b' ≡ b + 1 → Fits r → ElementReads s left at b (state_of st) t t (record { number = 0; place = l.end; begun = b'; state = r })
  leaf_read e fit = rw e (record { done = λ q. ⊎_elim without with_run (eq_or_ne w.to (n + 1)); ahead = λ q. leaf_ahead v z; fits = λ q. fit; fails = λ q. absurd (q refl) })
