-- One answer: a name has one end, and what tells two answers apart or shows them to be one.
use mathlib.Core.Path.{◌≡◌, sym, ap, ◌∙◌}
use mathlib.Core.List.{List}
use mathlib.Core.Option.{Option, none, some}
use mathlib.Core.Logic.{⊎_elim}
use Prim.Native.Nat.{ℕ, ◌≤◌}
use native.Mathlib.Omega.{arith}
use borrow.Author.Tests.{eq-eqb, ne_eqb}
use lib.ListN.{length, drop, length-drop}
use Rattle.cdi.specs.Pieces.{name_at}
use Rattle.scan.proofs.Tests.{eq_or_ne}
use Rattle.pieces_cuts.specs.Places.{part, Name}

-- a place is known by what follows it
pub same_rest : (s : List ℕ) (r q : ℕ) → r ≤ length s → q ≤ length s → drop r s ≡ drop q s → r ≡ q
same_rest s r q h k e = let l : length (drop r s) ≡ length (drop q s) = ap length e in omega (arith, length-drop r s, length-drop q s)

-- nothing is not something
pub apart : {A B : Type 0} {o : Option A} {a : A} → o ≡ none → o ≡ some a → B
apart e f = let z : ◌≡◌ {A = ℕ} 0 1 = cc in absurd (omega arith)

pub both : {A : Type 0} {o : Option A} {a b : A} → o ≡ some a → o ≡ some b → a ≡ b
both e f = cc

module _ {s : List ℕ} {at r : ℕ} (v : Name s at r) where
  name_none : r ≡ at → name_at (drop at s) ≡ none
  name_none e = v.is ∙ rw (eq-eqb r at e)

  name_some : (r ≡ at → ⊥) → name_at (drop at s) ≡ some (part s at r, drop r s)
  name_some e = v.is ∙ rw (ne_eqb r at e)

pub name_end_once : {s : List ℕ} {at r q : ℕ} → Name s at r → Name s at q → r ≡ q
name_end_once {s} {at} {r} {q} v w = ⊎_elim
    (λ a. ⊎_elim (λ b. a ∙ sym b) (λ b. apart (name_none v a) (name_some w b)) (eq_or_ne q at))
    (λ a. ⊎_elim
    (λ b. apart (name_none w b) (name_some v a))
    (λ b. same_rest s r q v.high w.high (ap (λ x. x.1) (both (name_some v a) (name_some w b))))
    (eq_or_ne q at))
    (eq_or_ne r at)
