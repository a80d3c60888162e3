-- Whether a run of text is blank, by the place of its first byte that isn't.
use mathlib.Core.Path.{◌≡◌, refl, sym, ap, ◌∙◌}
use mathlib.Core.List.{List, [], ◌∷◌}
use mathlib.Core.Bool.{Bool, true, false, cond, ◌&&◌}
use mathlib.Core.Logic.{⊎_elim}
use Prim.Native.Nat.{ℕ, suc, ◌+◌, ◌≤◌}
use native.Mathlib.Omega.{arith}
use borrow.Author.Tests.{eq-eqb, ne_eqb}
use lib.Dec.{eqb}
use lib.ListN.{length}
use Rattle.cdi.specs.Lists.{all, while}
use Rattle.cdi.specs.Pieces.{blank}
use Rattle.scan.proofs.Tests.{eq_or_ne}
use Rattle.pieces_cuts.specs.Places.{part}
use Rattle.pieces_marks.proofs.Reading.{part_length}

-- every byte passes exactly if the longest beginning that passes is the whole
all_while : (p : ℕ → Bool) (s : List ℕ) → all p s ≡ eqb (length (while p s)) (length s)
unfolding all while
all_while p [] = refl
all_while p (x ∷ s) = by (p x) (all_while p s)
  where
    shift : (a b : ℕ) → eqb a b ≡ eqb (suc a) (suc b)
    shift a b = ⊎_elim (λ h. rw (eq-eqb a b h, eq-eqb (suc a) (suc b) (ap suc h))) (λ h. rw (ne_eqb a b h, ne_eqb (suc a) (suc b) (λ z. h (omega arith)))) (eq_or_ne a b)

    by : (t : Bool) → all p s ≡ eqb (length (while p s)) (length s) → (t && all p s) ≡ eqb (length (cond t (x ∷ while p s) [])) (suc (length s))
    by true e = e ∙ shift (length (while p s)) (length s)
    by false e = sym (ne_eqb 0 (suc (length s)) (λ z. omega arith))

-- A run is blank exactly if its first byte that isn't blank would stand at its end.
pub run_blank : (s : List ℕ) (at e solid : ℕ) → at ≤ e → e ≤ length s → solid ≡ at + length (while blank (part s at e)) → all blank (part s at e) ≡ eqb solid e
run_blank s at e solid l h m =
    let n = part_length s at e l h in
    all_while blank (part s at e) ∙ moved (length (while blank (part s at e))) (length (part s at e)) solid e m (omega arith)
  where
    moved : (a b c d : ℕ) → c ≡ at + a → d ≡ at + b → eqb a b ≡ eqb c d
    moved a b c d p q = ⊎_elim (λ h. rw (eq-eqb a b h, eq-eqb c d (omega arith))) (λ h. rw (ne_eqb a b h, ne_eqb c d (λ z. h (omega arith)))) (eq_or_ne a b)
