-- A judge with some of its numbers changed.
use mathlib.Core.Bool.{Bool}
use Prim.Native.Nat.{ℕ}
use Rattle.judges_state.specs.declared.Judge.{Judge}

-- with another least, last entry, word and magnitude, with other children seen, and sound or not
abbrev pub changed : Judge → ℕ → ℕ → ℕ → ℕ → Bool → Bool → Bool → Judge
changed j least last said magnitude one two sound =
    record {
      least = least;
      row = j.row;
      last = last;
      said = said;
      magnitude = magnitude;
      low = j.low;
      smallest = j.smallest;
      high = j.high;
      largest = j.largest;
      numeric = j.numeric;
      one = one;
      two = two;
      sound = sound;
      has_low = j.has_low;
      low_negative = j.low_negative;
      has_high = j.has_high;
      high_negative = j.high_negative;
    }
