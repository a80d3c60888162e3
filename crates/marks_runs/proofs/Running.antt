-- A run of text, one law for each way through the code.
use mathlib.Core.Path.{◌≡◌, refl, sym, ap, subst, ◌∙◌}
use mathlib.Core.List.{List}
use mathlib.Core.Bool.{Bool, true, false, cond, not, ◌&&◌, false≢true}
use mathlib.Core.Logic.{⊎_elim}
use Prim.Native.Nat.{ℕ, ◌+◌, ◌-◌, ◌≤◌, ◌<◌}
use native.Mathlib.Omega.{arith}
use borrow.Author.Rules.{rules}
use borrow.Author.Tests.{lt-ltb, le-ltb, eq-eqb, ne_eqb, eqb-true, ltb-false}
use lib.Dec.{eqb, ltb}
use lib.ListN.{length, get_or}
use Rattle.cdi.specs.Pieces.{blank, is_text}
use Rattle.cdi.proofs.Tests.{both_left, both_right}
use Rattle.scan.specs.Spans.{Span}
use Rattle.scan.proofs.Tests.{lt_or_le}
use Rattle.pieces_cuts.specs.Cuts.{Stands}
use Rattle.marks_cuts.specs.Marks.{plain, bad_cut}
use Rattle.marks_cuts.proofs.Inside.{span_inside}
use Rattle.marks_cuts.proofs.Runs.{Marked, Running, plain_text, plain_right, right_text, blank_plain, ends, broken}
use Rattle.marks_runs.specs.Runs.{bracketed, Runs}

-- ── single bytes ──

pub large : (b : ℕ) → 62 < b → true ≡ plain b
unfolding plain is_text
large b h = rw (ne_eqb b 60 (λ z. omega arith), ne_eqb b 38 (λ z. omega arith), ne_eqb b 62 (λ z. omega arith))

pub small : (b : ℕ) → ((not (eqb b 60) && not (eqb b 38)) && not (eqb b 62)) ≡ plain b
unfolding plain is_text
small b = refl

pub ruleset plain_bytes = (large, small, rules)

module _ (s : List ℕ) (from at : ℕ) where
  pub too_early : at - from < 2 → false ≡ bracketed s from at
  unfolding bracketed
  too_early h = rw (lt-ltb (at - from) 2 h)

  pub two_before : 2 ≤ at - from → (eqb (get_or s (at - 1) 0) 93 && eqb (get_or s (at - 2) 0) 93) ≡ bracketed s from at
  unfolding bracketed
  two_before h = rw (le-ltb (at - from) 2 h)

pub ruleset brackets = (too_early, two_before, rules)

-- ── the run ──

right_stops : (x : ℕ) → x ≡ 62 → plain x ≡ false
unfolding plain is_text
right_stops x e = rw e

-- what the loop knows: the run reaches to i at least, and `]]>` doesn't stand before i
pub record Knows (s : List ℕ) (at b i : ℕ) : Type 0 where
  pub inside : (j : ℕ) → at ≤ j → j < i → is_text (get_or s j 0) ≡ true
  pub clean : (j : ℕ) → at ≤ j → j + 2 < i → Marked s j → ⊥
  pub low : at ≤ i
  pub high : i ≤ length s
  pub blanks : Span blank s at b
  pub text : is_text (get_or s at 0) ≡ true
  pub there : at < length s

module _ (s : List ℕ) (at : ℕ) where
  pub begun : {b : ℕ} → at < length s → is_text (get_or s at 0) ≡ true → Span blank s at b → Knows s at b b
  begun {b} h c v = record {
    inside = λ j m k. plain_text (get_or s j 0) (each j m k);
    clean = λ j m k z. plain_right (get_or s (j + 2) 0) (each (j + 2) (omega arith) k) z.third;
    low = v.low;
    high = v.high;
    blanks = v;
    text = c;
    there = h;
  }
    where
      each : (j : ℕ) → at ≤ j → j < b → plain (get_or s j 0) ≡ true
      each j l k = blank_plain (get_or s j 0) (span_inside blank s v j l k)

  module _ {b i : ℕ} (v : Knows s at b i) where
    running : (i < length s → plain (get_or s i 0) ≡ false) → Running s at i
    running f = record { inside = v.inside; clean = v.clean; stop = f; low = v.low; high = v.high }

    done : (i < length s → plain (get_or s i 0) ≡ false) → (i < length s → get_or s i 0 ≡ 62 → ⊥) → Runs s at i b
    done g f =
        let t = ends (running g) v.there v.text f v.blanks in
        record { text = λ z. t; bad = λ z. absurd (omega (arith, t.cut.low)); solid = v.blanks.is }

    pub at_end : length s ≤ i → Runs s at (length s) b
    at_end h = let e : i ≡ length s = omega (arith, v.high) in subst (λ j. Runs s at j b) e (done (λ k. absurd (omega arith)) (λ k. absurd (omega arith)))

    -- the run with one more byte, where `]]>` doesn't end
    next : i < length s → is_text (get_or s i 0) ≡ true → ((j : ℕ) → at ≤ j → j + 2 ≡ i → Marked s j → ⊥) → Knows s at b (i + 1)
    next h c g = record {
      inside = λ j l k. ⊎_elim (λ z. v.inside j l z) (λ z. let e : i ≡ j = omega arith in subst (λ x. is_text (get_or s x 0) ≡ true) e c) (lt_or_le j i);
      clean = λ j l k m. ⊎_elim (λ z. v.clean j l z m) (λ z. g j l (omega arith) m) (lt_or_le (j + 2) i);
      low = omega (arith, v.low);
      high = omega arith;
      blanks = v.blanks;
      text = v.text;
      there = v.there;
    }

    module _ {r : Bool} (h : i < length s) (d : r ≡ plain (get_or s i 0)) where
      pub passes : r ≡ true → Knows s at b (i + 1)
      passes g =
          let p : plain (get_or s i 0) ≡ true = sym d ∙ g in
          next h (plain_text (get_or s i 0) p) (λ j l k m. plain_right (get_or s i 0) p (ap (λ x. get_or s x 0) (sym k) ∙ m.third))

      pub at_mark : r ≡ false → (get_or s i 0 ≡ 62 → ⊥) → Runs s at i b
      at_mark g f = done (λ k. sym d ∙ g) (λ k. f)

    module _ {r : Bool} (h : i < length s) (f : get_or s i 0 ≡ 62) (e : r ≡ bracketed s at i) where
      pub is_bad : r ≡ true → Runs s at 0 b
      unfolding bracketed
      is_bad g = record { text = λ z. absurd (z refl); bad = λ z. by (ltb (i - at) 2) refl (sym e ∙ g); solid = v.blanks.is }
        where
          by : (t : Bool) → ltb (i - at) 2 ≡ t → cond t false (eqb (get_or s (i - 1) 0) 93 && eqb (get_or s (i - 2) 0) 93) ≡ true → Stands s at (bad_cut s at)
          by true p q = absurd (false≢true q)
          by false p q =
              let l : 2 ≤ i - at = ltb-false (i - at) 2 p in
              let one : i - 2 + 1 ≡ i - 1 = omega arith in
              let two : i - 2 + 2 ≡ i = omega arith in
              broken (running (λ k. right_stops (get_or s i 0) f)) v.there v.text {j = i - 2} h (omega arith) two (record {
                first = eqb-true (get_or s (i - 2) 0) 93 (both_right (eqb (get_or s (i - 1) 0) 93) (eqb (get_or s (i - 2) 0) 93) q);
                second = ap (λ x. get_or s x 0) one ∙ eqb-true (get_or s (i - 1) 0) 93 (both_left (eqb (get_or s (i - 1) 0) 93) (eqb (get_or s (i - 2) 0) 93) q);
                third = ap (λ x. get_or s x 0) two ∙ f;
              })

      pub goes_on : r ≡ false → Knows s at b (i + 1)
      unfolding bracketed
      goes_on g = next h (right_text (get_or s i 0) f) free
        where
          free : (j : ℕ) → at ≤ j → j + 2 ≡ i → Marked s j → ⊥
          free j l z m =
              let one : i - 1 ≡ j + 1 = omega arith in
              let two : i - 2 ≡ j = omega arith in
              let p : get_or s (i - 1) 0 ≡ 93 = ap (λ x. get_or s x 0) one ∙ m.second in
              let q : get_or s (i - 2) 0 ≡ 93 = ap (λ x. get_or s x 0) two ∙ m.first in
              let t : bracketed s at i ≡ true = rw (le-ltb (i - at) 2 (omega arith), eq-eqb _ _ p, eq-eqb _ _ q) in
              false≢true (sym g ∙ e ∙ t)

pub ruleset run_loop = (begun, at_end, passes, at_mark, is_bad, goes_on, rules)
