-- The fold of a tree is that of the judge and that of the tally beside each other; and the root's place is the place that the definitions name.
use mathlib.Core.Path.{◌≡◌, refl, ap, ◌∙◌}
use mathlib.Core.List.{List}
use mathlib.Core.Bool.{Bool, true, false, cond, ◌&&◌, ◌||◌}
use Prim.Native.Nat.{ℕ}
use lib.Dec.{eqb}
use lib.IntN.{ℤ}
use Rattle.cdi.specs.Tree.{Nodes, end, element, other}
use Rattle.cdi.specs.Planning.{describe}
use Rattle.rules_judge.specs.Judging as J
use Rattle.rules_judge.specs.declared.Judge.{Judge}
use Rattle.tally_tag.specs.Tallying as G
use Rattle.tally_tag.specs.Tallying.{Tallied, level_in, is_segment, is_group}
use Rattle.parse_sums.specs.Sums.{enter_of, other_of, leave_of, written_of}
use Rattle.parse_sums.specs.Folding.{Folded, fold_nodes}
use Rattle.parse_sums.specs.declared.State.{State}

-- The judge goes its own way.
pub judge_alone : (st : State) (t : List ℤ) (u : Nodes) → (fold_nodes st t u).state.judge ≡ J.judge_nodes st.judge u
unfolding fold_nodes J.judge_nodes enter_of other_of leave_of
judge_alone st t end = refl
judge_alone st t (other p c following) = judge_alone (other_of st p c) t following
judge_alone st t (element p n s kids following) =
    let i = fold_nodes (enter_of st p n s) t kids in
    judge_alone (leave_of st p n s i.state) (written_of st p n s i.state i.table) following
    ∙ ap (λ (j : Judge). J.judge_nodes (J.leave_of st.judge p n s j) following) (judge_alone (enter_of st p n s) t kids)

tallied_in : Folded → Tallied
tallied_in f = record { tally = f.state.tally; table = f.table }

-- So do the tally and the table.
tally_beside : (st : State) (t : List ℤ) (u : Nodes) → tallied_in (fold_nodes st t u) ≡ G.tally_nodes st.tally t u
unfolding tallied_in fold_nodes G.tally_nodes enter_of other_of leave_of written_of
tally_beside st t end = refl
tally_beside st t (other p c following) = tally_beside (other_of st p c) t following
tally_beside st t (element p n s kids following) =
    let i = fold_nodes (enter_of st p n s) t kids in
    tally_beside (leave_of st p n s i.state) (written_of st p n s i.state i.table) following
    ∙ ap
    (λ (g : Tallied). G.tally_nodes (G.leave_of st.tally p n s g.tally) (G.written st.tally p n s g.tally g.table) following)
    (tally_beside (enter_of st p n s) t kids)

module _ (st : State) (t : List ℤ) (u : Nodes) where
  pub tally_alone : (fold_nodes st t u).state.tally ≡ (G.tally_nodes st.tally t u).tally
  unfolding tallied_in
  tally_alone = ap (λ (g : Tallied). g.tally) (tally_beside st t u)

  pub table_alone : (fold_nodes st t u).table ≡ (G.tally_nodes st.tally t u).table
  unfolding tallied_in
  table_alone = ap (λ (g : Tallied). g.table) (tally_beside st t u)

-- ── the root ──

-- inside an element no level is that of the text
inside : (d : ℕ) (n : List ℕ) → eqb (level_in d n) 0 ≡ false
unfolding level_in
inside d n = by (eqb d 0) ((eqb d 1 && is_segment n) || (eqb d 2 && is_group n))
  where
    by : (a b : Bool) → eqb (cond a 1 (cond b 2 3)) 0 ≡ false
    by true b = refl
    by false true = refl
    by false false = refl

-- nor behind it
behind : (d : ℕ) → eqb (cond (eqb d 0) 3 d) 0 ≡ false
behind d = by (eqb d 0) refl
  where
    by : (a : Bool) → eqb d 0 ≡ a → eqb (cond a 3 d) 0 ≡ false
    by true e = refl
    by false e = e

-- below the root and behind it, the root's place is kept
root_kept : (st : State) (t : List ℤ) (u : Nodes) → eqb st.tally.level 0 ≡ false → (fold_nodes st t u).state.root ≡ st.root
unfolding fold_nodes enter_of other_of leave_of G.enter_of G.leave_of
root_kept st t end e = refl
root_kept st t (other p c following) e = root_kept (other_of st p c) t following e
root_kept st t (element p n s kids following) e =
    let i = fold_nodes (enter_of st p n s) t kids in
    root_kept (leave_of st p n s i.state) (written_of st p n s i.state i.table) following (behind st.tally.level)
    ∙ root_kept (enter_of st p n s) t kids (inside st.tally.level n)
    ∙ ap (λ (b : Bool). cond b p st.root) e

-- from the text's own level it is the root's
pub root_alone : (st : State) (t : List ℤ) (v u : Nodes) → eqb st.tally.level 0 ≡ true → st.root ≡ 0 → (fold_nodes st t u).state.root ≡ (describe v u).root
unfolding fold_nodes enter_of other_of leave_of G.enter_of G.leave_of describe
root_alone st t v end e z = z
root_alone st t v (other p c following) e z = root_alone (other_of st p c) t v following e z
root_alone st t v (element p n s kids following) e z =
    let i = fold_nodes (enter_of st p n s) t kids in
    root_kept (leave_of st p n s i.state) (written_of st p n s i.state i.table) following (behind st.tally.level)
    ∙ root_kept (enter_of st p n s) t kids (inside st.tally.level n)
    ∙ ap (λ (b : Bool). cond b p st.root) e
