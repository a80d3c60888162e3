-- The text and its end: stages 1 to 3.
use Rattle.std.specs.Prelude.{List, [], ◌∷◌, Bool, true, false, cond, not, ◌&&◌, ◌||◌, ℕ, zero, suc, ◌+◌, ◌*◌, ◌-◌, take, get_or, eqb, leb, ltb}
use Rattle.std.proofs.Math.Option.{Option, none, some}
use Rattle.cdi.specs.Limits.{text_limit}
use Rattle.cdi.specs.Lists.{ascii, ◌>>=◌, given, begins, between}

-- "the first zero byte": its place in s, which stands at `at`
unfoldable pub zero_from : ℕ → List ℕ → Option ℕ
zero_from at [] = none
zero_from at (b ∷ s) = let r = zero_from (at + 1) s in cond (eqb b 0) (some at) r

-- "which must stand at place 65,535 or earlier"
unfoldable pub end_of : List ℕ → Option ℕ
end_of s = zero_from 0 (take text_limit s)

-- "Content is the bytes before the first zero byte"
unfoldable pub content : List ℕ → Option (List ℕ)
content s = end_of s >>= λ e. some (take e s)

-- ── "well-formed UTF-8": RFC 3629, section 3 ──

-- a character's number, and how many bytes it takes
pub record Character : Type 0 where
  pub code : ℕ
  pub width : ℕ

-- a byte 10xxxxxx, which continues a character
unfoldable pub continues : ℕ → Bool
continues b = between 128 191 b

-- the numbers that characters have: to U+10FFFF, without the surrogates
unfoldable pub scalar : ℕ → Bool
scalar c = ltb c 0xD800 || between 0xE000 0x10FFFF c

-- the character, where its continuing bytes are there, no shorter sequence holds it, and it is one
unfoldable pub sequence : Bool → ℕ → ℕ → ℕ → Option Character
sequence there c smallest w = cond (there && leb smallest c && scalar c) (some (record { code = c; width = w })) none

-- the character at the front, by its first byte. (Past the end stands 0, which continues nothing.)
unfoldable pub character_at : List ℕ → Option Character
character_at [] = none
character_at (a ∷ s) =
    let b = get_or s 0 0 in
    let c = get_or s 1 0 in
    let d = get_or s 2 0 in
    cond (ltb a 128) (sequence true a 0 1)
    (cond (ltb a 192) none
    (cond (ltb a 224) (sequence (continues b) ((a - 192) * 64 + (b - 128)) 128 2)
    (cond (ltb a 240) (sequence (continues b && continues c) (((a - 224) * 64 + (b - 128)) * 64 + (c - 128)) 2048 3)
    (cond (ltb a 248) (sequence (continues b && continues c && continues d) ((((a - 240) * 64 + (b - 128)) * 64 + (c - 128)) * 64 + (d - 128)) 65536 4) none))))

-- the place where no allowed character starts; s stands at `at`, and `k` bytes of a character are still to pass
unfoldable pub bad_from : (ℕ → Bool) → ℕ → ℕ → List ℕ → Option ℕ
bad_from p at k [] = none
bad_from p at (suc k) (b ∷ s) = bad_from p (at + 1) k s
bad_from p at zero (b ∷ s) =
    given (character_at (b ∷ s)) (some at) (λ c.
    let r = bad_from p (at + 1) (c.width - 1) s in
    cond (p c.code) r (some at))

-- W3C XML 1.0, production 2: Char
unfoldable pub is_char : ℕ → Bool
is_char c = eqb c 9 || eqb c 10 || eqb c 13 || between 0x20 0xD7FF c || between 0xE000 0xFFFD c || between 0x10000 0x10FFFF c

-- "XML characters, with no carriage return"
unfoldable pub allowed : ℕ → Bool
allowed c = is_char c && not (eqb c 13)

-- U+FEFF at the front
unfoldable pub mark : List ℕ
mark = 0xEF ∷ 0xBB ∷ 0xBF ∷ []

-- "Content is well-formed UTF-8 of XML characters, with no carriage return and no byte-order mark at the start": where it isn't
unfoldable pub bad_character : List ℕ → Option ℕ
bad_character c = cond (begins mark c) (some 0) (bad_from allowed 0 0 c)

-- RFC 3629 alone, for the texts that are written and read: any character
unfoldable pub any_character : ℕ → Bool
any_character c = true

unfoldable pub is_utf8 : List ℕ → Bool
is_utf8 s = given (bad_from any_character 0 0 s) true (λ p. false)

-- "Content must begin with the 22 bytes `<?xml version="1.0"?>` and newline"
unfoldable pub first_line : List ℕ
first_line = ascii "<?xml version=\"1.0\"?>\n"

unfoldable pub text_page : Unit {0}
unfolding zero_from end_of content continues scalar sequence character_at bad_from is_char allowed mark bad_character any_character is_utf8 first_line
text_page = tt
