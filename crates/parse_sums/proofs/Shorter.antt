-- A shorter table: the fold of a tree gives the same state, and the front of the same table.
use mathlib.Core.Path.{◌≡◌, refl, ap, ◌∙◌}
use mathlib.Core.List.{List, [], ◌∷◌}
use mathlib.Core.Bool.{Bool, true, false, cond}
use Prim.Native.Nat.{ℕ, zero, suc, ◌*◌}
use lib.IntN.{ℤ}
use lib.ListN.{take, set}
use lib.Seq.{sets}
use Rattle.cdi.specs.Pieces.{Attribute}
use Rattle.cdi.specs.Tree.{Nodes, end, element, other}
use Rattle.tally_tag.specs.Tallying as G
use Rattle.parse_sums.specs.Sums.{enter_of, other_of, leave_of, written_of}
use Rattle.parse_sums.specs.Folding.{Folded, folded, fold_nodes}
use Rattle.parse_sums.specs.declared.State.{State}

-- ── the front of a list ──

module _ {A : Type 0} where
  -- A number is written into the front of a list, or behind it, as into the list.
  pub set_front : (n : ℕ) (t : List A) (k : ℕ) (x : A) → set (take n t) k x ≡ take n (set t k x)
  set_front zero t k x = refl
  set_front (suc n) [] k x = refl
  set_front (suc n) (y ∷ t) zero x = refl
  set_front (suc n) (y ∷ t) (suc k) x = ap (λ (u : List A). y ∷ u) (set_front n t k x)

  -- So are many.
  pub sets_front : (n : ℕ) (t : List A) (k : ℕ) (xs : List A) → sets (take n t) k xs ≡ take n (sets t k xs)
  sets_front n t k [] = refl
  sets_front n t k (x ∷ xs) = ap (λ (u : List A). sets u (suc k) xs) (set_front n t k x) ∙ sets_front n (set t k x) (suc k) xs

-- ── the fold ──

written_front : (n : ℕ) (o : State) (p : ℕ) (w : List ℕ) (s : List Attribute) (i : State) (t : List ℤ) → written_of o p w s i (take n t) ≡ take n (written_of o p w s i t)
unfolding written_of G.written
written_front n o p w s i t = by (G.recorded o.tally.level w)
  where
    r : List ℤ
    r = G.record_of o.tally p w s i.tally

    by : (b : Bool) → cond b (sets (take n t) (o.tally.records * 8) r) (take n t) ≡ take n (cond b (sets t (o.tally.records * 8) r) t)
    by true = sets_front n t (o.tally.records * 8) r
    by false = refl

-- what a fold gives, with the front of the table
abbrev pub front : ℕ → Folded → Folded
front n f = folded f.state (take n f.table)

-- Into the front of a table, the fold of a tree gives its state, and the front of its table.
pub fold_front : (n : ℕ) (st : State) (t : List ℤ) (u : Nodes) → fold_nodes st (take n t) u ≡ front n (fold_nodes st t u)
unfolding fold_nodes
fold_front n st t end = refl
fold_front n st t (other p c following) = fold_front n (other_of st p c) t following
fold_front n st t (element p w s kids following) =
    let i = fold_nodes (enter_of st p w s) t kids in
    ap (λ (f : Folded). fold_nodes (leave_of st p w s f.state) (written_of st p w s f.state f.table) following) (fold_front n (enter_of st p w s) t kids)
    ∙ ap (λ (x : List ℤ). fold_nodes (leave_of st p w s i.state) x following) (written_front n st p w s i.state i.table)
    ∙ fold_front n (leave_of st p w s i.state) (written_of st p w s i.state i.table) following
