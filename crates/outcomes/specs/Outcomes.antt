-- What a call hands out, by its answer: the number of a refusal or 0, its place, and the values of what was accepted, each through a number that is lent.
use Rattle.std.specs.Prelude.{ℕ}
use Rattle.cdi.specs.Faults.{Answer}
use Rattle.cdi.specs.Faults.Answer.{accepted, refused}

module _ {A : Type 0} where
  -- the number of a refusal, or 0
  unfoldable pub number_in : Answer A → ℕ
  number_in (accepted a) = 0
  number_in (refused f) = f.number

  -- what was lent for the place: an accepted call leaves it as it was
  unfoldable pub place_after : Answer A → ℕ → ℕ
  place_after (accepted a) before = before
  place_after (refused f) before = f.place

  -- what was lent for a value: a refused call leaves it as it was
  unfoldable pub value_after : (A → ℕ) → Answer A → ℕ → ℕ
  value_after value (accepted a) before = value a
  value_after value (refused f) before = before
