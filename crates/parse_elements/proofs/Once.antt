-- One answer: any two results that the contract of `read` allows have the same number and place and, where the text was read, the same meaning of the state and the same rows. It doesn't
-- determine how many elements were begun, nor, of a refused text, the state and the rows.
use mathlib.Core.Path.{◌≡◌, refl, sym, ap, ◌∙◌}
use mathlib.Core.List.{List, []}
use mathlib.Core.Option.{none, some}
use mathlib.Core.Logic.{⊎_elim}
use Prim.Native.Nat.{ℕ}
use native.Mathlib.Omega.{arith}
use lib.IntN.{ℤ}
use lib.ListN.{length}
use Rattle.cdi.specs.Faults.{Fault, fault, least}
use Rattle.cdi.specs.Markup.{progress, markup_faults}
use Rattle.cdi.specs.Tree.{tree}
use Rattle.cdi.proofs.Quiet.{impossible}
use Rattle.scan.proofs.Tests.{eq_or_ne}
use Rattle.levels.specs.Ahead.{from}
use Rattle.parse_sums.specs.Sums.{at_first}
use Rattle.parse_sums.specs.Folding.{Folded, folded, fold_nodes}
use Rattle.parse_laws.proofs.Outside.{clean, folded_all}
use Rattle.parse_state.specs.States.{state_of}
use Rattle.parse_elements.specs.Reading.{ContentReads}
use Rattle.parse_elements.specs.declared.Reached.{Reached}

-- ── what the contract tells of one result ──

module _ {s : List ℕ} {at : ℕ} {t u : List ℤ} {r : Reached} (w : ContentReads s 24 at 0 at_first t u r) where
  no_fault : r.number ≡ 0 → least (markup_faults (length s) (progress [] 0) (from s at)) ≡ none
  unfolding least
  no_fault z = ap least (clean (w.done z) (w.over z refl).0 (w.over z refl).1)

  one_fault : (r.number ≡ 0 → ⊥) → least (markup_faults (length s) (progress [] 0) (from s at)) ≡ some (fault r.number r.place)
  one_fault z = (w.fails z).first [] refl

  to_the_end : r.number ≡ 0 → r.place ≡ length s
  to_the_end z = omega (arith, (w.over z refl).0, (w.done z).high)

  all_read : r.number ≡ 0 → fold_nodes at_first t (tree (from s at)) ≡ folded (state_of r.state) u
  all_read z = folded_all (w.done z) (w.over z refl).0

-- ── two results ──

the_fault : {a b : Fault} → some a ≡ some b → a ≡ b
the_fault e = cc

module _ (s : List ℕ) (at : ℕ) (t : List ℤ) (q r : Reached) (u v : List ℤ) (a : ContentReads s 24 at 0 at_first t u q) (b : ContentReads s 24 at 0 at_first t v r) where
  both_refused : (q.number ≡ 0 → ⊥) → (r.number ≡ 0 → ⊥) → fault q.number q.place ≡ fault r.number r.place
  both_refused y z = the_fault (sym (one_fault a y) ∙ one_fault b z)

  read_too : q.number ≡ 0 → r.number ≡ 0
  read_too y = ⊎_elim (λ z. z) (λ z. let e : none ≡ some (fault r.number r.place) = sym (no_fault a y) ∙ one_fault b z in impossible (cc)) (eq_or_ne r.number 0)

  refused_too : (q.number ≡ 0 → ⊥) → r.number ≡ 0 → ⊥
  refused_too y z = let e : none ≡ some (fault q.number q.place) = sym (no_fault b z) ∙ one_fault a y in impossible (cc)

  -- of parse_elements::read
  pub number_once : q.number ≡ r.number
  number_once = ⊎_elim (λ y. y ∙ sym (read_too y)) (λ y. ap (λ (f : Fault). f.number) (both_refused y (refused_too y))) (eq_or_ne q.number 0)

  -- of parse_elements::read
  pub place_once : q.place ≡ r.place
  place_once = ⊎_elim (λ y. to_the_end a y ∙ sym (to_the_end b (read_too y))) (λ y. ap (λ (f : Fault). f.place) (both_refused y (refused_too y))) (eq_or_ne q.number 0)

  -- of parse_elements::read
  pub state_once : q.number ≡ 0 → state_of q.state ≡ state_of r.state
  state_once y = ap (λ (f : Folded). f.state) (sym (all_read a y) ∙ all_read b (read_too y))

  -- of parse_elements::read
  pub rows_once : q.number ≡ 0 → u ≡ v
  rows_once y = ap (λ (f : Folded). f.table) (sym (all_read a y) ∙ all_read b (read_too y))
