-- The whole text: what stands around the root, the end, and what is answered.
use mathlib.Core.Path.{◌≡◌, refl, ap, ◌∙◌}
use mathlib.Core.List.{List, [], ◌∷◌}
use mathlib.Core.Bool.{Bool, true, false, cond, ◌&&◌}
use mathlib.Core.Option.{some}
use Prim.Native.Nat.{ℕ, suc, ◌+◌, ◌-◌, ◌≤◌, ◌<◌}
use native.Mathlib.Omega.{arith}
use borrow.Author.Tests.{lt-ltb, ltb-true, ltb-false}
use lib.IntN.{ℤ}
use lib.Dec.{ltb}
use lib.ListN.{length, drop, drop_of_length-le, length-drop}
use lib.Seq.{length-take-le}
use Rattle.cdi.specs.Lists.{all, while, is_empty}
use Rattle.cdi.specs.Faults.{fault, unless, lesser, least}
use Rattle.cdi.specs.Pieces.{Piece, text, blank, pieces}
use Rattle.cdi.specs.Markup.{progress, outside, innermost, piece_faults, markup_faults}
use Rattle.cdi.specs.Tree.{levels, top, tree}
use Rattle.cdi.proofs.Quiet.{impossible}
use Rattle.pieces_cuts.specs.Places.{part}
use Rattle.pieces_cuts.specs.Cuts.{piece_of, text_of, Stands}
use Rattle.pieces_cuts.specs.declared.Kind.{Kind}
use Rattle.pieces_cuts.specs.declared.Kind.TheVariants.{Start, Finish, Remark, Refer, Text, Malformed, Unsupported}
use Rattle.pieces_cuts.specs.declared.Cut.{Cut}
use Rattle.parse_sums.specs.Sums.{records_of, other_of}
use Rattle.parse_sums.specs.Folding.{folded, fold_nodes}
use Rattle.levels.specs.Ahead.{from}
use Rattle.parse_steps.specs.Asks.{step_of, around_of}
use Rattle.parse_laws.specs.Passing.{Passed, Fails}
use Rattle.parse_sums.specs.declared.State.{State}
use Rattle.parse_steps.specs.declared.Step.TheVariants.{Pass}
use Rattle.parse_steps.specs.declared.Around.{Around}
use Rattle.parse_steps.specs.declared.Around.TheVariants.{Skip, Stray}
use Rattle.parse_laws.proofs.Steps.{halts, farther, fails_later, passed_by}

-- ── blank text ──

-- text whose first blanks are all of it
all_blank : (t : List ℕ) → length t ≤ length (while blank t) → all blank t ≡ true
unfolding all while
all_blank [] h = refl
all_blank (x ∷ t) h = by (blank x) refl (all_blank t)
  where
    by : (b : Bool) → blank x ≡ b → (length t ≤ length (while blank t) → all blank t ≡ true) → (blank x && all blank t) ≡ true
    by true e ih = rw e (ih (omega (arith, rw e at h)))
    by false e ih = let k : suc (length t) ≤ 0 = rw e at h in absurd (omega arith)

not_blank : (t : List ℕ) → length (while blank t) < length t → all blank t ≡ false
unfolding all while
not_blank [] h = absurd (omega arith)
not_blank (x ∷ t) h = by (blank x) refl (not_blank t)
  where
    by : (b : Bool) → blank x ≡ b → (length (while blank t) < length t → all blank t ≡ false) → (blank x && all blank t) ≡ false
    by true e ih = rw e (ih (omega (arith, rw e at h)))
    by false e ih = rw e

-- ── pieces that stand outside ──

-- a piece that is passed outside the root would be passed inside it
pub is_passed : {x : Around} (k : Kind) (at solid stop : ℕ) → x ≡ around_of k at solid stop → x ≡ Skip → step_of k ≡ Pass
unfolding around_of step_of
is_passed Start at solid stop e f = impossible (cc)
is_passed Finish at solid stop e f = impossible (cc)
is_passed Remark at solid stop e f = refl
is_passed Refer at solid stop e f = impossible (cc)
is_passed Text at solid stop e f = refl
is_passed Malformed at solid stop e f = impossible (cc)
is_passed Unsupported at solid stop e f = impossible (cc)

-- nothing is open
open_none : (ms : List (List ℕ)) → length ms + 24 ≡ 24 → ms ≡ []
open_none [] e = refl
open_none (m ∷ ms) e = absurd (omega arith)

module _ (s : List ℕ) (i b : ℕ) {c : Cut} (u : Stands s i c) where
  -- where its first byte stands that isn't blank
  solid_place : (p : Piece) → piece_of c.kind s i c ≡ p → c.solid ≡ i + length (while blank (text_of p))
  solid_place p q = u.cut.solid ∙ ap (λ (w : Piece × List ℕ). i + length (while blank (text_of w.0))) u.cut.is ∙ ap (λ (x : Piece). i + length (while blank (text_of x))) q

  run_length : length (part s i c.end) ≡ c.end - i
  run_length = length-take-le (c.end - i) (drop i s) (omega (arith, length-drop i s, u.cut.high, u.cut.low))

  is_text_law : c.kind ≡ Text → piece_of c.kind s i c ≡ text (part s i c.end)
  unfolding piece_of
  is_text_law e = rw e

  text_solid : c.kind ≡ Text → c.solid ≡ i + length (while blank (part s i c.end))
  unfolding text_of
  text_solid e = solid_place (text (part s i c.end)) (is_text_law e)

  -- a fault of the piece, before its end
  fault_here : {n p : ℕ} (m q : ℕ) → least (piece_faults (progress [] b) i (piece_of c.kind s i c)) ≡ some (fault m q) → q < c.end → Stray m q ≡ Stray n p → Fails s 24 i b n p
  fault_here {n} {p} m q e l z =
      let m≡ : m ≡ n = cc in
      let q≡ : q ≡ p = cc in
      rw (← m≡, ← q≡) (record { first = λ ms h. halts s i u refl (progress ms b) {f = fault m q} (rw (open_none ms h) e) l })

  -- a piece that is refused has that fault
  stray_fails : {n p : ℕ} (k : Kind) → c.kind ≡ k → around_of k i c.solid c.end ≡ Stray n p → Fails s 24 i b n p
  unfolding around_of piece_of piece_faults outside is_empty innermost unless least lesser
  stray_fails Start e z = impossible (cc)
  stray_fails Finish e z = fault_here 6 i (rw e) u.cut.low z
  stray_fails Remark e z = impossible (cc)
  stray_fails Refer e z = fault_here 6 i (rw e) u.cut.low z
  stray_fails {n} {p} Text e z = by (ltb c.solid c.end) refl z
    where
      by : (t : Bool) → ltb c.solid c.end ≡ t → cond t (Stray 6 c.solid) Skip ≡ Stray n p → Fails s 24 i b n p
      by true g y = fault_here 6 c.solid (rw (e, not_blank (part s i c.end) (omega (arith, ltb-true c.solid c.end g, text_solid e, run_length)), text_solid e)) (ltb-true c.solid c.end g) y
      by false g y = impossible (cc)
  stray_fails Malformed e z = fault_here 4 i (rw e) u.cut.low z
  stray_fails Unsupported e z = fault_here 5 i (rw e) u.cut.low z

  -- a piece that is passed has none
  skip_clean : (k : Kind) → c.kind ≡ k → around_of k i c.solid c.end ≡ Skip → piece_faults (progress [] b) i (piece_of c.kind s i c) ≡ []
  unfolding around_of piece_of piece_faults outside is_empty unless
  skip_clean Start e z = impossible (cc)
  skip_clean Finish e z = impossible (cc)
  skip_clean Remark e z = rw e
  skip_clean Refer e z = impossible (cc)
  skip_clean Text e z = by (ltb c.solid c.end) refl z
    where
      by : (t : Bool) → ltb c.solid c.end ≡ t → cond t (Stray 6 c.solid) Skip ≡ Skip → piece_faults (progress [] b) i (piece_of c.kind s i c) ≡ []
      by true g y = impossible (cc)
      by false g y = rw (e, all_blank (part s i c.end) (omega (arith, ltb-false c.solid c.end g, text_solid e, run_length, u.cut.low)))
  skip_clean Malformed e z = impossible (cc)
  skip_clean Unsupported e z = impossible (cc)

-- ── along the way ──

module _ {s : List ℕ} {at b₀ : ℕ} {st₀ : State} {t₀ : List ℤ} {i b : ℕ} {st : State} {t : List ℤ} (v : Passed s 24 at b₀ st₀ t₀ i b st t) {c : Cut} (u : Stands s i c) where
  pub stray_piece : {n p : ℕ} → around_of c.kind i c.solid c.end ≡ Stray n p → Fails s 24 at b₀ n p
  stray_piece f = fails_later v (stray_fails s i b u c.kind refl f)

  pub blank_piece : {st₁ : State} → around_of c.kind i c.solid c.end ≡ Skip → st₁ ≡ other_of st i (piece_of c.kind s i c) → records_of st₁ ≤ records_of st → Passed s 24 at b₀ st₀ t₀ c.end b st₁ t
  blank_piece f q m =
      farther v (passed_by s 24 i b st t u (is_passed c.kind i c.solid c.end refl f) (λ ms h. rw (open_none ms h) (skip_clean s i b u c.kind refl f)) v.begun v.few q m)

-- behind the root all is read; without one the text's end is the fault
module _ {s : List ℕ} {at : ℕ} {st₀ : State} {t₀ : List ℤ} {i b : ℕ} {st : State} {t : List ℤ} (v : Passed s 24 at 0 st₀ t₀ i b st t) (h : length s ≤ i) where
  over : markup_faults (length s) (progress [] 0) (from s at) ≡ unless (ltb 0 b) (fault 6 (length s))
  unfolding pieces markup_faults outside is_empty
  over = v.faults [] refl ∙ rw (drop_of_length-le s h)

  pub clean : (b ≡ 0 → ⊥) → markup_faults (length s) (progress [] 0) (from s at) ≡ []
  unfolding unless
  clean e = rw (over, lt-ltb 0 b (omega arith))

  pub folded_all : fold_nodes st₀ t₀ (tree (from s at)) ≡ folded st t
  unfolding pieces levels tree top fold_nodes
  folded_all = v.folds ∙ rw (drop_of_length-le s h)
