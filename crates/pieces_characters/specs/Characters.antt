-- Characters by their numbers: digits in either base, and bytes in UTF-8.
use Rattle.std.specs.Prelude.{◌≡◌, List, [], Bool, true, false, cond, ℕ, ◌+◌, ◌*◌, ◌-◌, min, length, ltb}
use Rattle.std.proofs.Math.Option.{Option}
use Rattle.cdi.specs.Lists.{ascii, ◌>>=◌, ◌or_else◌, strip}
use Rattle.cdi.specs.Pieces.{Piece, digit, hex_digit, hex_value, decimal, hexadecimal, numbered}
use Rattle.cdi.specs.Values.{padded, utf8}
use Rattle.pieces_characters.specs.declared.Encoding.{Encoding}

-- a number, where it is too large for a character the first such
abbrev pub clip : ℕ → ℕ
clip n = min n 0x110000

-- hexadecimal or decimal: the digits, their number, and a number with one digit more
unfoldable pub digit_in : Bool → ℕ → Bool
digit_in true = hex_digit
digit_in false = digit

unfoldable pub value_in : Bool → ℕ → List ℕ → ℕ
value_in true = hexadecimal
value_in false = decimal

unfoldable pub further : Bool → ℕ → ℕ → ℕ
further true n x = n * 16 + hex_value x
further false n x = n * 10 + (x - 48)

-- a reference by its number, behind `&`
unfoldable pub by_number : List ℕ → Option (Piece × List ℕ)
by_number s = (strip (ascii "#x") s >>= numbered hex_digit hexadecimal) or_else (strip (ascii "#") s >>= numbered digit decimal)

-- a character's bytes; none of a number that is too large
unfoldable pub utf8_of : ℕ → List ℕ
utf8_of c = cond (ltb c 0x110000) (utf8 c) []

pub record Encoded (c : ℕ) (r : Encoding) : Type 0 where
  pub is : r.bytes ≡ padded 4 (utf8_of c)
  pub count : r.length ≡ length (utf8_of c)
