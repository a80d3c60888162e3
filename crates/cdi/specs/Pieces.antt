-- "A piece is one tag, comment, instruction, reference or run of text, cut left to right."
use Rattle.std.specs.Prelude.{List, [], ◌∷◌, Bool, true, false, cond, not, ◌&&◌, ◌||◌, ℕ, zero, suc, ◌+◌, ◌*◌, ◌-◌, length, drop, get_or, eqb}
use Rattle.std.proofs.Math.Option.{Option, none, some}
use Rattle.cdi.specs.Lists.{ascii, ◌>>=◌, given, ◌or_else◌, is_some, is_empty, any, while, after, same, begins, strip, beyond, between}
use Rattle.cdi.specs.Text.{is_char}

-- an attribute: where its name begins, its name and its value
pub record Attribute : Type 0 where
  pub place : ℕ
  pub name : List ℕ
  pub value : List ℕ

pub data Piece : Type 0 where
  -- a start tag: its name, its attributes, and whether it has the short form `/>`
  start : List ℕ → List Attribute → Bool → Piece
  -- an end tag's name
  finish : List ℕ → Piece
  -- a comment or an instruction
  remark : Piece
  -- a reference to a character
  refer : ℕ → Piece
  -- a run of text
  text : List ℕ → Piece
  malformed : Piece
  unsupported : Piece

-- "Blank means space, tab or newline."
unfoldable pub blank : ℕ → Bool
blank x = eqb x 32 || (eqb x 9 || eqb x 10)

unfoldable pub digit : ℕ → Bool
digit x = between 48 57 x

-- "Names are ASCII: letter, `_` or `:` first, then these, digits, `-` and `.`."
unfoldable pub name_start : ℕ → Bool
name_start x = between 97 122 x || (between 65 90 x || (eqb x 95 || eqb x 58))

unfoldable pub name_byte : ℕ → Bool
name_byte x = name_start x || (digit x || (eqb x 45 || eqb x 46))

-- the name at the front, and what follows it
unfoldable pub name_at : List ℕ → Option (List ℕ × List ℕ)
name_at [] = none
name_at (x ∷ s) = cond (name_start x) (some (x ∷ while name_byte s, after name_byte s)) none

-- ── tags ──

-- "Attributes take either quote"
unfoldable pub is_quote : ℕ → Bool
is_quote q = eqb q 34 || eqb q 39

-- "no `<` in a value"; nor its own quote
unfoldable pub value_byte : ℕ → ℕ → Bool
value_byte q x = not (eqb x q) && not (eqb x 60)

-- a value in quotes, and what follows it
unfoldable pub quoted : List ℕ → Option (List ℕ × List ℕ)
quoted [] = none
quoted (q ∷ s) = cond (is_quote q) (strip (q ∷ []) (after (value_byte q) s) >>= λ t. some (while (value_byte q) s, t)) none

-- a name and a value, and what follows them: "blanks may stand around `=`"
unfoldable pub attribute_at : List ℕ → Option ((List ℕ × List ℕ) × List ℕ)
attribute_at s = do
  n ← name_at s
  t ← strip (ascii "=") (after blank n.1)
  v ← quoted (after blank t)
  some ((n.0, v.0), v.1)

-- "blanks must stand between attributes": those of a tag, from behind its name on. s stands at `at`, and `k` bytes are still to pass
unfoldable pub attributes : ℕ → ℕ → List ℕ → List Attribute
attributes at k [] = []
attributes at (suc k) (x ∷ s) = attributes (at + 1) k s
attributes at zero (x ∷ s) =
    let p = at + length (while blank (x ∷ s)) in
    let r = given (attribute_at (after blank (x ∷ s))) [] (λ a.
    record { place = p; name = a.0.0; value = a.0.1 } ∷ attributes (at + 1) (length s - length a.1) s) in
    cond (blank x) r []

-- the end of that tag: whether it is `/>`, and what follows it
unfoldable pub tag_end : ℕ → List ℕ → Option (Bool × List ℕ)
tag_end k [] = none
tag_end (suc k) (x ∷ s) = tag_end k s
tag_end zero (x ∷ s) =
    let t = after blank (x ∷ s) in
    let more = attribute_at t >>= λ a. tag_end (length s - length a.1) s in
    cond (begins (ascii ">") t) (some (false, drop 1 t))
    (cond (begins (ascii "/>") t) (some (true, drop 2 t))
    (cond (blank x) more none))

unfoldable pub bears : List ℕ → Attribute → Bool
bears n a = same n a.name

-- "no name twice"
unfoldable pub twice : List Attribute → Bool
twice [] = false
twice (a ∷ s) = any (bears a.name) s || twice s

-- behind `<`, at the place `at`
unfoldable pub start_tag : ℕ → List ℕ → Option (Piece × List ℕ)
start_tag at s = do
  n ← name_at s
  e ← tag_end 0 n.1
  let given = attributes (at + length n.0) 0 n.1
  cond (twice given) none (some (start n.0 given e.0, e.1))

-- behind `</`
unfoldable pub end_tag : List ℕ → Option (Piece × List ℕ)
end_tag s = do
  n ← name_at s
  t ← strip (ascii ">") (after blank n.1)
  some (finish n.0, t)

-- ── comments and instructions ──

-- behind `<!--`: "malformed .. `--` inside a comment", so the first `--` must be followed by `>`
unfoldable pub comment : List ℕ → Option (Piece × List ℕ)
comment s = do
  t ← beyond (ascii "--") s
  u ← strip (ascii ">") t
  some (remark, u)

unfoldable pub lower : ℕ → ℕ
lower x = cond (between 65 90 x) (x + 32) x

-- "`xml` in any case"
unfoldable pub is_xml : List ℕ → Bool
is_xml [] = false
is_xml (a ∷ []) = false
is_xml (a ∷ b ∷ []) = false
is_xml (a ∷ b ∷ c ∷ s) = eqb (lower a) 120 && (eqb (lower b) 109 && (eqb (lower c) 108 && is_empty s))

-- behind `<?`: "target not `xml` in any case", then `?>` at once, or a blank and anything up to the first `?>`
unfoldable pub instruction : List ℕ → Option (Piece × List ℕ)
instruction s = do
  n ← name_at s
  t ← beyond (ascii "?>") n.1
  cond (not (is_xml n.0) && (begins (ascii "?>") n.1 || blank (get_or n.1 0 0))) (some (remark, t)) none

-- ── references ──

unfoldable pub decimal : ℕ → List ℕ → ℕ
decimal n [] = n
decimal n (x ∷ s) = decimal (n * 10 + (x - 48)) s

unfoldable pub hex_digit : ℕ → Bool
hex_digit x = digit x || (between 65 70 x || between 97 102 x)

unfoldable pub hex_value : ℕ → ℕ
hex_value x = cond (digit x) (x - 48) (lower x - 87)

unfoldable pub hexadecimal : ℕ → List ℕ → ℕ
hexadecimal n [] = n
hexadecimal n (x ∷ s) = hexadecimal (n * 16 + hex_value x) s

-- "to XML characters"
unfoldable pub refer_to : ℕ → List ℕ → Option (Piece × List ℕ)
refer_to c t = cond (is_char c) (some (refer c, t)) none

-- "decimal or hexadecimal character references": one or more digits, then `;`
unfoldable pub numbered : (ℕ → Bool) → (ℕ → List ℕ → ℕ) → List ℕ → Option (Piece × List ℕ)
numbered is_digit value s = do
  t ← strip (ascii ";") (after is_digit s)
  cond (is_empty (while is_digit s)) none (refer_to (value 0 (while is_digit s)) t)

unfoldable pub named : List ℕ → ℕ → List ℕ → Option (Piece × List ℕ)
named w c s = strip w s >>= λ t. some (refer c, t)

-- behind `&`
unfoldable pub reference : List ℕ → Option (Piece × List ℕ)
reference s =
    named (ascii "lt;") 60 s
    or_else named (ascii "gt;") 62 s
    or_else named (ascii "amp;") 38 s
    or_else named (ascii "quot;") 34 s
    or_else named (ascii "apos;") 39 s
    or_else (strip (ascii "#x") s >>= numbered hex_digit hexadecimal)
    or_else (strip (ascii "#") s >>= numbered digit decimal)

-- ── runs of text ──

unfoldable pub is_text : ℕ → Bool
is_text x = not (eqb x 60) && not (eqb x 38)

-- "`]]>` is malformed in text"
unfoldable pub run : List ℕ → Option (Piece × List ℕ)
run s = cond (is_some (beyond (ascii "]]>") (while is_text s))) none (some (text (while is_text s), after is_text s))

-- ── cutting ──

-- "Any other piece off these rules is malformed." Nothing behind it is read
unfoldable pub or_malformed : Option (Piece × List ℕ) → Piece × List ℕ
or_malformed none = (malformed, [])
or_malformed (some c) = c

-- the piece at the front of s, which stands at `at`, and what follows it
unfoldable pub piece_at : ℕ → List ℕ → Piece × List ℕ
piece_at at s =
    cond (begins (ascii "<") s)
    (cond (begins (ascii "<!DOCTYPE") s || begins (ascii "<![CDATA[") s) (unsupported, [])
    (cond (begins (ascii "<!--") s) (or_malformed (comment (drop 4 s)))
    (cond (begins (ascii "<?") s) (or_malformed (instruction (drop 2 s)))
    (cond (begins (ascii "</") s) (or_malformed (end_tag (drop 2 s)))
    (or_malformed (start_tag (at + 1) (drop 1 s)))))))
    (cond (begins (ascii "&") s) (or_malformed (reference (drop 1 s)))
    (or_malformed (run s)))

-- the pieces of s, each with its place; s stands at `at`, and `k` bytes of a piece are still to pass
unfoldable pub pieces : ℕ → ℕ → List ℕ → List (ℕ × Piece)
pieces at k [] = []
pieces at (suc k) (x ∷ s) = pieces (at + 1) k s
pieces at zero (x ∷ s) =
    let c = piece_at at (x ∷ s) in
    (at, c.0) ∷ pieces (at + 1) (length s - length c.1) s

unfoldable pub pieces_page : Unit {0}
unfolding blank digit name_start name_byte name_at is_quote value_byte quoted attribute_at attributes tag_end bears twice start_tag end_tag comment lower is_xml instruction decimal hex_digit hex_value hexadecimal refer_to numbered named reference is_text run or_malformed piece_at pieces
pieces_page = tt
