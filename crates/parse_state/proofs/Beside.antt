-- The steps of the state: judge and tally beside each other.
use mathlib.Core.Path.{◌≡◌, refl, sym, ap, ◌∙◌}
use mathlib.Core.List.{List}
use mathlib.Core.Bool.{false, cond}
use Prim.Native.Nat.{ℕ, ◌+◌, ◌≤◌, ◌<◌}
use native.Mathlib.Omega.{arith}
use borrow.Author.Rules.{rules}
use lib.Dec.{eqb}
use lib.IntN.{ℤ}
use lib.ListN.{drop}
use Rattle.cdi.specs.Pieces.{Piece, attributes}
use Rattle.cdi.proofs.Named.{attributes_behind}
use Rattle.names.specs.Names.{element_number}
use Rattle.rules_judge.specs.Judging as J
use Rattle.rules_judge.specs.Tables.{entry_at}
use Rattle.std.specs.Prelude.{None}
use Rattle.rules_judge.specs.declared.Said.{Said}
use Rattle.rules_judge.specs.declared.Judge.{Judge as Known}
use Rattle.keys.specs.Keys.{fault_in}
use Rattle.judges_state.specs.Decoded.{judge_of, Placed}
use Rattle.judges_state.specs.Steps.{entered_by, left_by, leaf_by}
use Rattle.judges_state.specs.declared.Judge.{Judge}
use Rattle.judges_model.proofs.Answers.{child_entered, child_left}
use Rattle.tally_tag.specs.Tallying as G
use Rattle.tally_tag.specs.Numbered.{numbers_by, enter_by, leave_by, written_by}
use Rattle.tally_tag.specs.declared.Tally.{Tally as Tallied}
use Rattle.tally.proofs.Named.{enter_named, leave_named, written_named}
use Rattle.tallies_state.specs.Flat.{tally_of, Kept}
use Rattle.tallies_state.specs.declared.Tally.{Tally}
use Rattle.tags_numbers.specs.Given.{numbers_of, Bounded}
use Rattle.tallies.proofs.Leaving.{left_by_law, stored_by}
use Rattle.tags.specs.Reads.{Reads}
use Rattle.tags.specs.declared.Tag.{Tag}
use Rattle.parse_sums.specs.Sums.{at_first, enter_of, other_of, leave_of, written_of}
use Rattle.parse_sums.specs.declared.State.{State as Summed}
use Rattle.parse_state.specs.States.{state_of, Fits, leaf_of}
use Rattle.parse_state.specs.declared.State.{State}

abbrev all : Known → Tallied → ℕ → Summed
all j g r = record { judge = j; tally = g; root = r }

pub beside : {j k : Known} {g h : Tallied} {r q : ℕ} → j ≡ k → g ≡ h → r ≡ q → all j g r ≡ all k h q
beside {k = k} {g = g} {h = h} {r = r} e f u = ap (λ x. all x g r) e ∙ ap (λ x. all k x r) f ∙ ap (all k h) u

-- the parts that a caller is asked for
module _ {st : State} (v : Fits st) where
  pub placed : Placed st.judge
  placed = v.placed

  pub kept : Kept st.tally
  kept = v.kept

  pub total_kept : st.tally.total ≤ 1000001
  total_kept = v.kept.total

  pub few : st.tally.records ≤ 4096
  few = v.few

pub fits : {j : Judge} {g : Tally} → Placed j → Kept g → g.records ≤ 4096 → Fits (record { judge = j; tally = g })
fits a b c = record { placed = a; kept = b; few = c }

pub left_fits : {j : Judge} {g : Tally} (inner : State) → Placed j → Kept g → g.records ≡ inner.tally.records → Fits inner → Fits (record { judge = j; tally = g })
left_fits inner a b c v = record { placed = a; kept = b; few = omega (arith, c, v.few) }

pub started : (j : Judge) (g : Tally) → judge_of j ≡ J.fresh None 0 false → tally_of g ≡ G.at_start → g.root ≡ 0 → state_of (record { judge = j; tally = g }) ≡ at_first
unfolding state_of at_first
started j g e f h = beside e f h

pub others : (st : State) (j : Judge) (p : ℕ) (c : Piece) → judge_of j ≡ J.other_of (judge_of st.judge) p c → state_of (record { judge = j; tally = st.tally }) ≡ other_of (state_of st) p c
unfolding state_of other_of
others st j p c e = beside e refl refl

pub leafs : (st : State) (j : Judge) (p child entry : ℕ) (said : Said) → judge_of j ≡ leaf_by (judge_of st.judge) p child entry said → state_of (record { judge = j; tally = st.tally }) ≡ leaf_of (state_of st) p child entry said
unfolding state_of leaf_of
leafs st j p child entry said e = beside e refl refl

module _ (s : List ℕ) (st : State) (p behind : ℕ) (n : List ℕ) {child entry : ℕ} {tag : Tag} (r : Reads s p behind child tag) (z : tag.end ≡ 0 → ⊥) (ec : child ≡ element_number n) (ee : entry ≡ entry_at st.judge.row child) where
  pub bounded : Bounded child tag.given
  bounded = r.bounded z

  pub enters : (j : Judge) (g : Tally) → p < behind → judge_of j ≡ entered_by (judge_of st.judge) p child entry (fault_in tag.told) → tally_of g ≡ enter_by (tally_of st.tally) child → g.root ≡ cond (eqb st.tally.level 0) p st.tally.root
      → state_of (record { judge = j; tally = g }) ≡ enter_of (state_of st) p n (attributes behind 0 (drop behind s))
  unfolding state_of enter_of tally_of
  enters j g l a b u = beside
      (child_entered st.judge p n (attributes behind 0 (drop behind s)) ec ee j (fault_in tag.told) (attributes_behind (p + 1) behind 0 (drop behind s) (omega arith)) (sym (r.told' z)) a)
      (b ∙ ap (enter_by (tally_of st.tally)) ec ∙ enter_named n (tally_of st.tally))
      u

  module _ (inner : State) where
    pub leaves : (j : Judge) (g : Tally) {x : ℕ} → x ≡ tag.exact → judge_of j ≡ left_by (judge_of st.judge) p child entry tag.bare x (judge_of inner.judge) → tally_of g ≡ leave_by (tally_of st.tally) p child (numbers_of tag.given) (tally_of inner.tally) → g.root ≡ inner.tally.root
        → state_of (record { judge = j; tally = g }) ≡ leave_of (state_of st) p n (attributes behind 0 (drop behind s)) (state_of inner)
    unfolding state_of leave_of
    leaves j g q a b u = beside
        (child_left st.judge p n (attributes behind 0 (drop behind s)) ec ee inner.judge j (r.alone z) (q ∙ r.size z) a)
        (left_by_law (tally_of st.tally) p child (numbers_by child (attributes behind 0 (drop behind s))) (tally_of inner.tally) (r.numbers z) b ∙ rw ec (leave_named n (tally_of st.tally) p (attributes behind 0 (drop behind s)) (tally_of inner.tally)))
        u

    pub stores : (t : List ℤ) {u : List ℤ} → u ≡ written_by (tally_of st.tally) p child (numbers_of tag.given) (tally_of inner.tally) t → u ≡ written_of (state_of st) p n (attributes behind 0 (drop behind s)) (state_of inner) t
    unfolding state_of written_of
    stores t b = stored_by (tally_of st.tally) p child (numbers_by child (attributes behind 0 (drop behind s))) (tally_of inner.tally) (r.numbers z) t b ∙ rw ec (written_named n (tally_of st.tally) p (attributes behind 0 (drop behind s)) (tally_of inner.tally) t)

pub ruleset steps = (placed, kept, total_kept, few, fits, left_fits, started, others, leafs, bounded, enters, leaves, stores, rules)
