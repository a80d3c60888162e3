-- A piece more that is no tag, by each way through the code.
use mathlib.Core.Path.{◌≡◌, refl, sym, ap, ◌∙◌}
use mathlib.Core.List.{List, []}
use mathlib.Core.Bool.{Bool, true, false, cond, not, ◌&&◌, ◌||◌}
use mathlib.Core.Logic.{⊎_elim}
use Prim.Native.Nat.{ℕ, ◌+◌, ◌<◌, ◌≤◌}
use native.Mathlib.Omega.{arith}
use borrow.Author.Rules.{rules}
use borrow.Author.Tests.{eq-eqb, ne_eqb}
use lib.Dec.{eqb, leb}
use lib.ListN.{length}
use Rattle.cdi.specs.Lists.{while}
use Rattle.cdi.specs.Faults.{fault, unless, lesser, least}
use Rattle.cdi.specs.Pieces.{Piece, start, finish, remark, refer, text, malformed, unsupported, blank}
use Rattle.cdi.specs.Numbers.{number}
use Rattle.cdi.specs.Rules.{stray_faults}
use Rattle.scan.proofs.Tests.{eq_or_ne}
use Rattle.keys.specs.Keys.{fault_in}
use Rattle.pieces_cuts.specs.Places.{part}
use Rattle.pieces_marks.proofs.Told.{run_blank}
use Rattle.rules_judge.specs.declared.Said.{Said}
use Rattle.rules_judge.specs.declared.Said.TheVariants.{Silent, No, Large, Value}
use Rattle.rules_judge.specs.Judging.{blamed, row_at, is_foreign, is_number_row, said_by, spoken, other_of}
use Rattle.rules_judge.specs.Parts.{is_numeric}
use Rattle.rules_judge.proofs.Blaming.{blamed_none}
use Rattle.rules_judge.proofs.Tabled.{text_held}
use Rattle.judges_state.specs.declared.Judge.{Judge}
use Rattle.judges_state.specs.Decoded.{least_in, said_of, judge_of}
use Rattle.judges_state.specs.Steps.{rare_of}
use Rattle.judges_state.proofs.Blaming.{key_blamed_with}
use Rattle.judges_state.proofs.Changed.{changed}

-- ── what was said ──

module _ (said m : ℕ) (c : Piece) where
  pub not_asked : (asked : Bool) → asked ≡ false → said_of said m ≡ cond asked (spoken (said_of said m) c) (said_of said m)
  not_asked asked e = rw e

  -- once something was said, one piece more is no number
  more : (k : ℕ) → (said ≡ 0 → ⊥) → No ≡ spoken (said_of said m) c
  unfolding said_of spoken
  more k e = rw (ne_eqb said 0 e) (by (eqb said 1) (eqb said 2))
    where
      by : (x y : Bool) → No ≡ spoken (cond x No (cond y Large (Value (record { negative = eqb said 4; magnitude = m })))) c
      by true y = refl
      by false true = refl
      by false false = refl

  pub said_before : (asked : Bool) → asked ≡ true → (said ≡ 0 → ⊥) → said_of 1 0 ≡ cond asked (spoken (said_of said m) c) (said_of said m)
  unfolding said_of
  said_before asked e f = more 0 f ∙ sym (rw e)

pub run_first : (said m : ℕ) (t : List ℕ) (asked : Bool) (n k : ℕ) → asked ≡ true → said ≡ 0 → said_of n k ≡ said_by (number t) → said_of n k ≡ cond asked (spoken (said_of said m) (text t)) (said_of said m)
unfolding said_of spoken
run_first said m t asked n k e f g = g ∙ sym (rw (e, eq-eqb said 0 f))

pub ruleset saids = (not_asked, said_before, run_first, rules)

-- ── the judge behind it ──

-- the judge with another least and another word
abbrev pub next : Judge → ℕ → ℕ → ℕ → Judge
next j l said m = changed j l j.last said m j.one j.two j.sound

module _ (j : Judge) (p : ℕ) (c : Piece) where
  -- where nothing is judged, no piece is stray and none is a number
  nothing_stray : j.row ≡ 24 → stray_faults (row_at j.row) p c ≡ []
  unfolding stray_faults unless
  nothing_stray e = by c
    where
      held : (row_at j.row).text ≡ true
      held = sym (text_held j.row) ∙ ap (leb 12) e

      by : (c : Piece) → stray_faults (row_at j.row) p c ≡ []
      by (start n s k) = refl
      by (finish n) = refl
      by remark = refl
      by (refer k) = rw held
      by (text s) = rw held
      by malformed = refl
      by unsupported = refl

  nothing_asked : j.row ≡ 24 → (j.numeric && is_numeric j.row) ≡ false
  unfolding is_numeric
  nothing_asked e = rw e (by j.numeric)
    where
      by : (t : Bool) → (t && false) ≡ false
      by true = refl
      by false = refl

  other_judged : (l said m : ℕ) → least_in l ≡ blamed (least_in j.least) (stray_faults (row_at j.row) p c)
      → said_of said m ≡ cond (j.numeric && is_numeric j.row) (spoken (said_of j.said j.magnitude) c) (said_of j.said j.magnitude)
      → judge_of (next j l said m) ≡ other_of (judge_of j) p c
  unfolding other_of is_foreign is_number_row is_numeric judge_of
  other_judged l said m e f = ⊎_elim foreign judged (eq_or_ne j.row 24)
    where
      judged : (j.row ≡ 24 → ⊥) → judge_of (next j l said m) ≡ other_of (judge_of j) p c
      judged g = rw (ne_eqb j.row 24 g, e, f)

      foreign : j.row ≡ 24 → judge_of (next j l said m) ≡ other_of (judge_of j) p c
      foreign g = rw (eq-eqb j.row 24 g, e ∙ ap (blamed (least_in j.least)) (nothing_stray g) ∙ sym (blamed_none (least_in j.least)), f, nothing_asked g)

module _ (j : Judge) (l said m : ℕ) {t u : Bool} (e : t ≡ (row_at j.row).text) (f : u ≡ is_numeric j.row) where
  -- a run of text
  pub run_judged : (s : List ℕ) (at end solid : ℕ) → at < end → end ≤ length s → solid ≡ at + length (while blank (part s at end))
      → fault_in l ≡ lesser (fault_in j.least) (least (unless (t || eqb solid end) (fault 88 solid)))
      → said_of said m ≡ cond (j.numeric && u) (spoken (said_of j.said j.magnitude) (text (part s at end))) (said_of j.said j.magnitude)
      → judge_of (next j l said m) ≡ other_of (judge_of j) at (text (part s at end))
  run_judged s at end solid h k q g w =
      other_judged j at (text (part s at end)) l said m (key_blamed_with l j.least _ g ∙ ap (blamed (least_in j.least)) (sym stray)) (w ∙ rw f)
    where
      stray : stray_faults (row_at j.row) at (text (part s at end)) ≡ unless (t || eqb solid end) (fault 88 solid)
      stray = unfold stray_faults in rw (e, q, ← run_blank s at end _ (omega arith) k refl)

-- ── comments, instructions and references ──

rare_word : (said : Said) (refers : Bool) → No ≡ spoken said (rare_of refers)
unfolding spoken rare_of
rare_word Silent true = refl
rare_word Silent false = refl
rare_word No refers = refl
rare_word Large refers = refl
rare_word (Value w) refers = refl

pub rare_judged : (j : Judge) (l said : ℕ) {t u : Bool} (p : ℕ) (refers : Bool) → t ≡ (row_at j.row).text → u ≡ is_numeric j.row
    → fault_in l ≡ lesser (fault_in j.least) (least (unless (t || not refers) (fault 88 p)))
    → said ≡ cond (j.numeric && u) 1 j.said
    → judge_of (next j l said j.magnitude) ≡ other_of (judge_of j) p (rare_of refers)
unfolding unless
rare_judged j l said {t} {u} p refers e f g w =
    other_judged j p (rare_of refers) l said j.magnitude (key_blamed_with l j.least _ g ∙ ap (blamed (least_in j.least)) (sym (stray refers))) (word (j.numeric && u) (w) ∙ rw f)
  where
    stray : (refers : Bool) → stray_faults (row_at j.row) p (rare_of refers) ≡ unless (t || not refers) (fault 88 p)
    stray true = unfold stray_faults rare_of in rw e (by (row_at j.row).text)
      where
        by : (b : Bool) → unless b (fault 88 p) ≡ unless (b || false) (fault 88 p)
        by true = refl
        by false = refl
    stray false = unfold stray_faults rare_of unless in by t
      where
        by : (b : Bool) → [] ≡ unless (b || true) (fault 88 p)
        by true = refl
        by false = refl

    word : (b : Bool) → said ≡ cond b 1 j.said → said_of said j.magnitude ≡ cond b (spoken (said_of j.said j.magnitude) (rare_of refers)) (said_of j.said j.magnitude)
    word true h = ap (λ (k : ℕ). said_of k j.magnitude) h ∙ (unfold said_of in rare_word (said_of j.said j.magnitude) refers)
    word false h = ap (λ (k : ℕ). said_of k j.magnitude) h

pub ruleset between = (run_judged, rare_judged, rules)
