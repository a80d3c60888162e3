-- References.
use mathlib.Core.Path.{◌≡◌, refl, sym, ap, ◌∙◌}
use mathlib.Core.List.{List, [], ◌∷◌, ◌++◌}
use mathlib.Core.Bool.{Bool, true, false, cond}
use mathlib.Core.Option.{Option, none, some}
use mathlib.Core.Logic.{⊎_elim}
use Prim.Native.Nat.{ℕ, ◌+◌, ◌-◌, ◌≤◌}
use native.Mathlib.Omega.{arith}
use borrow.Author.Rules.{rules}
use borrow.Author.Tests.{eq-eqb, ne_eqb}
use lib.ListN.{length, take, drop}
use Rattle.cdi.specs.Lists.{ascii, ◌>>=◌, ◌or_else◌, is_empty, while, after, begins, strip, between}
use Rattle.cdi.specs.Text.{is_char}
use Rattle.cdi.specs.Pieces.{Piece, refer, digit, hex_digit, decimal, hexadecimal, refer_to, numbered, named, reference, or_malformed}
use Rattle.scan.specs.Spans.{of_class, Span}
use Rattle.scan.specs.declared.Class.{Class}
use Rattle.scan.specs.declared.Class.TheVariants.{Decimal, Hexadecimal}
use Rattle.scan.proofs.Tests.{eq_or_ne}
use Rattle.scan.proofs.Spans.{span_here, span_rest}
use Rattle.pieces_cuts.specs.Places.{part}
use Rattle.pieces_characters.specs.Characters.{clip, digit_in, value_in, by_number}
use Rattle.pieces_cuts.specs.Cuts.{Cuts}
use Rattle.pieces_cuts.specs.declared.Cut.{Cut}
use Rattle.pieces_cuts.proofs.Finding.{part_cons, stripped, word_room, room_one}
use Rattle.pieces_characters.proofs.Numbering.{refer_clip}
use Rattle.pieces_cuts.proofs.Making.{nothing, something}

-- ── by number ──

module _ {h : Bool} where
  pub hex_class : h ≡ true → of_class Hexadecimal ≡ digit_in h
  unfolding of_class digit_in
  hex_class e = rw e

  pub decimal_class : h ≡ false → of_class Decimal ≡ digit_in h
  unfolding of_class digit_in
  decimal_class e = rw e

pub ruleset classes = (hex_class, decimal_class, rules)

empty_part : (s : List ℕ) (a : ℕ) → part s a a ≡ []
empty_part s a = let z : a - a ≡ 0 = omega arith in ap (λ (n : ℕ). take n (drop a s)) z

module _ (s : List ℕ) (at : ℕ) (h : Bool) (k : Class) {e : ℕ} (c : of_class k ≡ digit_in h) (v : Span (of_class k) s at e) where
  digits : numbered (digit_in h) (value_in h) (drop at s) ≡ (strip (ascii ";") (drop e s) >>= λ t. cond (is_empty (part s at e)) none (refer_to (value_in h 0 (part s at e)) t))
  unfolding numbered
  digits = rw (← c, span_rest v, span_here v)

  pub no_digit : e ≡ at → numbered (digit_in h) (value_in h) (drop at s) ≡ none
  unfolding is_empty
  no_digit q = digits ∙ rw (q, empty_part s at) (by (strip (ascii ";") (drop at s)))
    where
      by : (o : Option (List ℕ)) → ◌>>=◌ {B = Piece × List ℕ} o (λ t. none) ≡ none
      by none = refl
      by (some t) = refl

  module _ {r : Bool} (q : e ≡ at → ⊥) (w : r ≡ begins (59 ∷ []) (drop e s)) where
    ended : numbered (digit_in h) (value_in h) (drop at s) ≡ (cond r (some (drop (e + 1) s)) none >>= λ t. refer_to (value_in h 0 (part s at e)) t)
    unfolding is_empty
    ended = digits ∙ rw (part_cons s at e (omega (arith, v.low)) (omega (arith, v.low, v.high))) (rw (stripped s (59 ∷ []) e w))

    pub no_end : r ≡ false → numbered (digit_in h) (value_in h) (drop at s) ≡ none
    no_end f = ended ∙ rw f

    module _ {n : ℕ} {x : Bool} (f : r ≡ true) (u : n ≡ clip (value_in h 0 (part s at e))) (y : x ≡ is_char n) where
      referred : numbered (digit_in h) (value_in h) (drop at s) ≡ cond x (some (refer n, drop (e + 1) s)) none
      unfolding refer_to
      referred = ended ∙ rw f (refer_clip (value_in h 0 (part s at e)) (drop (e + 1) s) ∙ rw (← u, ← y))

      pub no_character : x ≡ false → numbered (digit_in h) (value_in h) (drop at s) ≡ none
      no_character g = referred ∙ rw g

      pub a_character : x ≡ true → numbered (digit_in h) (value_in h) (drop at s) ≡ some (refer n, drop (e + 1) s)
      a_character g = referred ∙ rw g

pub ruleset numbers = (nothing, something, no_digit, no_end, no_character, a_character, room_one, rules)

-- ── by name or number ──

-- what a name refers to
by_name : (s w : List ℕ) (c : ℕ) {r : Bool} → r ≡ begins w (drop 1 s) → named w c (drop 1 s) ≡ cond r (some (refer c, drop (1 + length w) s)) none
unfolding named
by_name s w c {r} e = rw (stripped s w 1 e) (by r)
  where
    by : (b : Bool) → ◌>>=◌ {B = Piece × List ℕ} (cond b (some (drop (1 + length w) s)) none) (λ t. some (refer c, t)) ≡ cond b (some (refer c, drop (1 + length w) s)) none
    by true = refl
    by false = refl

or_none : {A : Type 0} (o : Option A) → (o or_else none) ≡ o
or_none none = refl
or_none (some a) = refl

begins_with : (w s : List ℕ) → begins w s ≡ true → s ≡ w ++ drop (length w) s
unfolding begins
begins_with [] s e = refl
begins_with (x ∷ w) [] e = cc
begins_with (x ∷ w) (y ∷ s) e = ⊎_elim
    (λ h. let z : s ≡ w ++ drop (length w) s = begins_with w s (rw (eq-eqb x y h) at e) in rw (← h) (ap (λ l. x ∷ l) z))
    (λ h. let z : false ≡ true = rw (ne_eqb x y h) at e in cc)
    (eq_or_ne x y)

-- behind `#` the letter x is no digit
x_first : (t : List ℕ) → (strip (ascii "#") (35 ∷ 120 ∷ t) >>= numbered digit decimal) ≡ none
unfolding strip begins numbered after while digit between is_empty
x_first t = refl

not_decimal : (s : List ℕ) → begins (35 ∷ 120 ∷ []) s ≡ true → (strip (ascii "#") s >>= numbered digit decimal) ≡ none
not_decimal s e = ap (λ l. strip (ascii "#") l >>= numbered digit decimal) (begins_with (35 ∷ 120 ∷ []) s e) ∙ x_first (drop 2 s)

module _ (s : List ℕ) {r : Bool} (h : 1 ≤ length s) where
  pub room_three : (a b c : ℕ) → r ≡ begins (a ∷ b ∷ c ∷ []) (drop 1 s) → r ≡ true → 4 ≤ length s
  room_three a b c e f = word_room s (a ∷ b ∷ c ∷ []) 1 h e f

  pub room_four : (a b c d : ℕ) → r ≡ begins (a ∷ b ∷ c ∷ d ∷ []) (drop 1 s) → r ≡ true → 5 ≤ length s
  room_four a b c d e f = word_room s (a ∷ b ∷ c ∷ d ∷ []) 1 h e f

  pub room_five : (a b c d e : ℕ) → r ≡ begins (a ∷ b ∷ c ∷ d ∷ e ∷ []) (drop 1 s) → r ≡ true → 6 ≤ length s
  room_five a b c d e p f = word_room s (a ∷ b ∷ c ∷ d ∷ e ∷ []) 1 h p f

  pub room_hash_x : (a b : ℕ) → r ≡ begins (a ∷ b ∷ []) (drop 1 s) → r ≡ true → 3 ≤ length s
  room_hash_x a b e f = word_room s (a ∷ b ∷ []) 1 h e f

  pub room_hash : (a : ℕ) → r ≡ begins (a ∷ []) (drop 1 s) → r ≡ true → 2 ≤ length s
  room_hash a e f = word_room s (a ∷ []) 1 h e f

module _ (s : List ℕ) {g : Bool} (x : g ≡ begins (35 ∷ 120 ∷ []) (drop 1 s)) where
  hash_x : by_number (drop 1 s) ≡ ((cond g (some (drop 3 s)) none >>= numbered hex_digit hexadecimal) or_else (strip (ascii "#") (drop 1 s) >>= numbered digit decimal))
  unfolding by_number
  hash_x = rw (stripped s (35 ∷ 120 ∷ []) 1 x)

  pub is_hex : {r : Cut} → g ≡ true → Cuts s 0 (or_malformed (numbered (digit_in true) (value_in true) (drop 3 s))) r → Cuts s 0 (or_malformed (by_number (drop 1 s))) r
  unfolding digit_in value_in
  is_hex e k = rw (hash_x, e, not_decimal (drop 1 s) (sym x ∙ e), or_none (numbered hex_digit hexadecimal (drop 3 s))) k

  module _ {i : Bool} (n : g ≡ false) (y : i ≡ begins (35 ∷ []) (drop 1 s)) where
    pub is_decimal : {r : Cut} → i ≡ true → Cuts s 0 (or_malformed (numbered (digit_in false) (value_in false) (drop 2 s))) r → Cuts s 0 (or_malformed (by_number (drop 1 s))) r
    unfolding digit_in value_in
    is_decimal e k = rw (hash_x, n, stripped s (35 ∷ []) 1 y, e) k

    pub no_number : i ≡ false → by_number (drop 1 s) ≡ none
    no_number e = hash_x ∙ rw (n, stripped s (35 ∷ []) 1 y, e)

pub ruleset by_numbers = (nothing, room_hash_x, room_hash, is_hex, is_decimal, no_number, rules)

-- the references from each name on
abbrev from_amp : List ℕ → Option (Piece × List ℕ)
from_amp s = named (ascii "amp;") 38 s or_else named (ascii "quot;") 34 s or_else named (ascii "apos;") 39 s or_else by_number s

module _ (s : List ℕ) {a : Bool} (p : a ≡ begins (108 ∷ 116 ∷ 59 ∷ []) (drop 1 s)) where
  pub is_lt : a ≡ true → reference (drop 1 s) ≡ some (refer 60, drop 4 s)
  unfolding reference
  is_lt e = rw (by_name s (108 ∷ 116 ∷ 59 ∷ []) 60 p, e)

  module _ {b : Bool} (n : a ≡ false) (q : b ≡ begins (103 ∷ 116 ∷ 59 ∷ []) (drop 1 s)) where
    pub is_gt : b ≡ true → reference (drop 1 s) ≡ some (refer 62, drop 4 s)
    unfolding reference
    is_gt e = rw (by_name s (108 ∷ 116 ∷ 59 ∷ []) 60 p, n, by_name s (103 ∷ 116 ∷ 59 ∷ []) 62 q, e)

    module _ {c : Bool} (m : b ≡ false) (u : c ≡ begins (97 ∷ 109 ∷ 112 ∷ 59 ∷ []) (drop 1 s)) where
      behind_gt : reference (drop 1 s) ≡ from_amp (drop 1 s)
      unfolding reference by_number
      behind_gt = rw (by_name s (108 ∷ 116 ∷ 59 ∷ []) 60 p, n, by_name s (103 ∷ 116 ∷ 59 ∷ []) 62 q, m)

      pub is_amp : c ≡ true → reference (drop 1 s) ≡ some (refer 38, drop 5 s)
      is_amp e = behind_gt ∙ rw (by_name s (97 ∷ 109 ∷ 112 ∷ 59 ∷ []) 38 u, e)

      module _ {d : Bool} (l : c ≡ false) (v : d ≡ begins (113 ∷ 117 ∷ 111 ∷ 116 ∷ 59 ∷ []) (drop 1 s)) where
        pub is_quot : d ≡ true → reference (drop 1 s) ≡ some (refer 34, drop 6 s)
        is_quot e = behind_gt ∙ rw (by_name s (97 ∷ 109 ∷ 112 ∷ 59 ∷ []) 38 u, l, by_name s (113 ∷ 117 ∷ 111 ∷ 116 ∷ 59 ∷ []) 34 v, e)

        module _ {f : Bool} (k : d ≡ false) (w : f ≡ begins (97 ∷ 112 ∷ 111 ∷ 115 ∷ 59 ∷ []) (drop 1 s)) where
          behind_quot : reference (drop 1 s) ≡ (cond f (some (refer 39, drop 6 s)) none or_else by_number (drop 1 s))
          behind_quot = behind_gt ∙ rw (by_name s (97 ∷ 109 ∷ 112 ∷ 59 ∷ []) 38 u, l, by_name s (113 ∷ 117 ∷ 111 ∷ 116 ∷ 59 ∷ []) 34 v, k, by_name s (97 ∷ 112 ∷ 111 ∷ 115 ∷ 59 ∷ []) 39 w)

          pub is_apos : f ≡ true → reference (drop 1 s) ≡ some (refer 39, drop 6 s)
          is_apos e = behind_quot ∙ rw e

          pub no_name : {r : Cut} → f ≡ false → Cuts s 0 (or_malformed (by_number (drop 1 s))) r → Cuts s 0 (or_malformed (reference (drop 1 s))) r
          no_name e t = rw (behind_quot, e) t

pub ruleset references = (something, room_three, room_four, room_five, is_lt, is_gt, is_amp, is_quot, is_apos, no_name, rules)
