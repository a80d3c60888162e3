-- An end tag, one law for each way through the code.
use mathlib.Core.Path.{◌≡◌, refl, ap, ◌∙◌}
use mathlib.Core.List.{List, [], ◌∷◌}
use mathlib.Core.Bool.{Bool, true, false, cond}
use mathlib.Core.Option.{none, some}
use Prim.Native.Nat.{ℕ, ◌+◌, ◌≤◌}
use native.Mathlib.Omega.{arith}
use borrow.Author.Rules.{rules}
use borrow.Author.Tests.{eq-eqb, ne_eqb}
use lib.ListN.{length, drop}
use Rattle.cdi.specs.Lists.{◌>>=◌, begins}
use Rattle.cdi.specs.Pieces.{finish, blank, end_tag, or_malformed}
use Rattle.scan.specs.Spans.{Span}
use Rattle.scan.proofs.Spans.{span_rest}
use Rattle.pieces_cuts.specs.Places.{part, Name}
use Rattle.pieces_cuts.proofs.Finding.{stripped, room_one}
use Rattle.marks_cuts.proofs.Sorts.{end_piece}
use Rattle.marks_cuts.proofs.Standing.{bad_stands, finish_stands}
use Rattle.marks_ends.specs.Ends.{Finishes}

module _ (s : List ℕ) (at : ℕ) {n : ℕ} (h : at + 2 ≤ length s) (b : begins (60 ∷ 47 ∷ []) (drop at s) ≡ true) (v : Name s (at + 2) n) where
  broken : end_tag (drop (at + 2) s) ≡ none → Finishes s at 0 0
  unfolding or_malformed
  broken e = record { tag = λ z. absurd (z refl); bad = λ z. bad_stands s at (omega arith) (end_piece s at b ∙ ap or_malformed e); none = λ z. refl }

  pub nameless : n ≡ at + 2 → Finishes s at 0 0
  unfolding end_tag
  nameless e = broken (rw (v.is, eq-eqb _ _ e))

  module _ {t : ℕ} {r : Bool} (f : n ≡ at + 2 → ⊥) (w : Span blank s n t) (q : r ≡ begins (62 ∷ []) (drop t s)) where
    behind_name : end_tag (drop (at + 2) s) ≡ (cond r (some (drop (t + 1) s)) none >>= λ u. some (finish (part s (at + 2) n), u))
    unfolding end_tag
    behind_name = rw (v.is, ne_eqb _ _ f, span_rest w, stripped s (62 ∷ []) t q)

    pub unclosed : r ≡ false → Finishes s at 0 0
    unclosed e = broken (behind_name ∙ rw e)

    pub closed : r ≡ true → Finishes s at n (t + 1)
    unfolding or_malformed
    closed e =
        let m : n ≤ t + 1 = omega (arith, w.low) in
        let k = room_one s t 62 w.high q e in
        let stands = finish_stands s at n (t + 1) m k v.low (end_piece s at b ∙ rw (behind_name, e)) in
        record { tag = λ z. stands; bad = λ z. absurd (omega arith); none = λ z. absurd (omega arith) }

pub ruleset end_tags = (nameless, unclosed, closed, room_one, rules)
