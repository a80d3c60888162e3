-- Bytes that are examined many at a step: the tests, and what a run of bytes shows.
use Rattle.std.specs.Prelude.{◌≡◌, List, Bool, true, cond, not, ◌||◌, ℕ, ◌≤◌, ◌<◌, eqb, leb, ltb, get_or}

-- a tab, a newline, or a character from the space to U+007F: one byte, and allowed
unfoldable pub plain : ℕ → Bool
plain b = cond (ltb b 32) (eqb b 9 || eqb b 10) (leb b 127)

unfoldable pub nonzero : ℕ → Bool
nonzero b = not (eqb b 0)

-- every byte from a place to before another passes
pub record AllOf (p : ℕ → Bool) (s : List ℕ) (at to : ℕ) : Type 0 where
  pub each : (j : ℕ) → at ≤ j → j < to → p (get_or s j 0) ≡ true
