-- One answer: any two outcomes that a function's contract allows are equal. (The slice is only read.)
use mathlib.Core.Path.{◌≡◌}
use mathlib.Core.List.{List}
use mathlib.Core.Bool.{Bool}
use Prim.Native.Nat.{ℕ}
use lib.ListN.{length}
use Rattle.cdi.specs.Text.{bad_character, is_utf8}
use Rattle.text.specs.Answers.{ending}
use Rattle.locate.proofs.Once.{once}
use Rattle.timed.specs.Contents.{place_in, place_or, bad_in}

module _ (s : List ℕ) where
  pub timed_end_once : (r q : ℕ) → r ≡ place_in (ending s) → q ≡ place_in (ending s) → r ≡ q
  timed_end_once r q e f = once e f

  pub timed_characters_once : (r q : ℕ) → r ≡ place_or (length s) (bad_character s) → q ≡ place_or (length s) (bad_character s) → r ≡ q
  timed_characters_once r q e f = once e f

  pub timed_utf8_once : (r q : Bool) → r ≡ is_utf8 s → q ≡ is_utf8 s → r ≡ q
  timed_utf8_once r q e f = once e f

  pub timed_content_once : (r q : ℕ) → r ≡ bad_in s (ending s) → q ≡ bad_in s (ending s) → r ≡ q
  timed_content_once r q e f = once e f
