-- Spans: how far a class of bytes reaches from a place on.
use Rattle.std.specs.Prelude.{◌≡◌, List, Bool, ℕ, ◌+◌, ◌≤◌, length, drop}
use Rattle.cdi.specs.Lists.{while}
use Rattle.cdi.specs.Pieces.{blank, digit, name_byte, is_text, hex_digit, value_byte}
use Rattle.scan.specs.declared.Class.{Class}
use Rattle.scan.specs.declared.Class.TheVariants.{Blank, Name, Text, Decimal, Hexadecimal, Value}

-- the test of each class
unfoldable pub of_class : Class → ℕ → Bool
of_class Blank = blank
of_class Name = name_byte
of_class Text = is_text
of_class Decimal = digit
of_class Hexadecimal = hex_digit
of_class (Value quote) = value_byte quote

-- the place behind the bytes that pass, from a place on
unfoldable pub span_end : (ℕ → Bool) → List ℕ → ℕ → ℕ
span_end p s at = at + length (while p (drop at s))

pub record Span (p : ℕ → Bool) (s : List ℕ) (at r : ℕ) : Type 0 where
  pub is : r ≡ span_end p s at
  pub low : at ≤ r
  pub high : r ≤ length s
