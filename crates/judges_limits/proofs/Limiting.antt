-- The first min and max that say a number are the bounds, by each way through the code.
use mathlib.Core.Path.{◌≡◌, refl, sym, ◌∙◌}
use mathlib.Core.Bool.{Bool, true, false, cond, not, ◌&&◌, ◌||◌}
use Prim.Native.Nat.{ℕ}
use borrow.Author.Rules.{rules}
use borrow.Author.Tests.{ltb-true, ltb-false, ne_eqb}
use lib.Dec.{eqb, ltb}
use Rattle.cdi.proofs.Quiet.{impossible}
use Rattle.rules_judge.specs.Judging.{is_value, value_said, bounding}
use Rattle.judges_state.specs.declared.Judge.{Judge}
use Rattle.judges_state.specs.Decoded.{said_of, bound_of, judge_of}
use Rattle.judges_state.specs.Steps.{bounded_by}
use Rattle.judges_state.proofs.Saying.{number_said, none_said}

-- ── the bound ──

module _ (there : Bool) (place p said m : ℕ) (negative : Bool) (k : ℕ) where
  -- it stays where it is there, or nothing is said
  bound_kept : (there || ltb said 3) ≡ true → bounding true (bound_of there place negative k) p (said_of said m) ≡ bound_of there place negative k
  unfolding bounding
  bound_kept e = by there e
    where
      by : (t : Bool) → (t || ltb said 3) ≡ true
          → cond (not t && is_value (said_of said m)) (record { there = true; place = p; value = value_said (said_of said m) }) (bound_of there place negative k) ≡ bound_of there place negative k
      by true f = refl
      by false f = rw (none_said said m (ltb-true said 3 f))

  -- it is what is said where it is the first
  bound_first : (there || ltb said 3) ≡ false → bounding true (bound_of there place negative k) p (said_of said m) ≡ bound_of true p (eqb said 4) m
  unfolding bounding is_value value_said
  bound_first e = by there e
    where
      by : (t : Bool) → (t || ltb said 3) ≡ false
          → cond (not t && is_value (said_of said m)) (record { there = true; place = p; value = value_said (said_of said m) }) (bound_of there place negative k) ≡ bound_of true p (eqb said 4) m
      by true f = impossible (cc)
      by false f = rw (number_said said m (ltb-false said 3 f))

module _ (j : Judge) (p said m : ℕ) where
  pub low_kept : (j.has_low || ltb said 3) ≡ true → judge_of j ≡ bounded_by (judge_of j) p 19 (said_of said m)
  unfolding bounded_by judge_of bounding
  low_kept e = sym (rw (bound_kept j.has_low j.low p said m j.low_negative j.smallest e))

  pub high_kept : (j.has_high || ltb said 3) ≡ true → judge_of j ≡ bounded_by (judge_of j) p 20 (said_of said m)
  unfolding bounded_by judge_of bounding
  high_kept e = sym (rw (bound_kept j.has_high j.high p said m j.high_negative j.largest e))

  pub low_first : (j.has_low || ltb said 3) ≡ false
      → judge_of (record {
        least = j.least;
        row = j.row;
        last = j.last;
        said = j.said;
        magnitude = j.magnitude;
        low = p;
        smallest = m;
        high = j.high;
        largest = j.largest;
        numeric = j.numeric;
        one = j.one;
        two = j.two;
        sound = j.sound;
        has_low = true;
        low_negative = eqb said 4;
        has_high = j.has_high;
        high_negative = j.high_negative;
      }) ≡ bounded_by (judge_of j) p 19 (said_of said m)
  unfolding bounded_by judge_of bounding
  low_first e = sym (rw (bound_first j.has_low j.low p said m j.low_negative j.smallest e))

  pub high_first : (j.has_high || ltb said 3) ≡ false
      → judge_of (record {
        least = j.least;
        row = j.row;
        last = j.last;
        said = j.said;
        magnitude = j.magnitude;
        low = j.low;
        smallest = j.smallest;
        high = p;
        largest = m;
        numeric = j.numeric;
        one = j.one;
        two = j.two;
        sound = j.sound;
        has_low = j.has_low;
        low_negative = j.low_negative;
        has_high = true;
        high_negative = eqb said 4;
      }) ≡ bounded_by (judge_of j) p 20 (said_of said m)
  unfolding bounded_by judge_of bounding
  high_first e = sym (rw (bound_first j.has_high j.high p said m j.high_negative j.largest e))

pub ruleset firsts = (low_kept, high_kept, low_first, high_first, rules)

-- ── the child's number ──

module _ (j : Judge) (p child said m : ℕ) where
  pub a_min : (r : Judge) → child ≡ 19 → judge_of r ≡ bounded_by (judge_of j) p 19 (said_of said m) → judge_of r ≡ bounded_by (judge_of j) p child (said_of said m)
  a_min r e f = f ∙ rw e

  pub a_max : (r : Judge) → child ≡ 20 → judge_of r ≡ bounded_by (judge_of j) p 20 (said_of said m) → judge_of r ≡ bounded_by (judge_of j) p child (said_of said m)
  a_max r e f = f ∙ rw e

  pub no_limit : (child ≡ 19 → ⊥) → (child ≡ 20 → ⊥) → judge_of j ≡ bounded_by (judge_of j) p child (said_of said m)
  unfolding bounded_by bounding judge_of
  no_limit e f = rw (ne_eqb child 19 e, ne_eqb child 20 f)

pub ruleset limits = (a_min, a_max, no_limit, rules)
