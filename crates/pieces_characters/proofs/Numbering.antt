-- The numbers of characters: digits that are clipped on the way, and UTF-8.
use mathlib.Core.Path.{◌≡◌, refl, sym, ap, ◌∙◌}
use mathlib.Core.List.{List, [], ◌∷◌}
use mathlib.Core.Bool.{Bool, true, false}
use mathlib.Core.Logic.{⊎_elim}
use Prim.Native.Nat.{ℕ, ◌+◌, ◌*◌, ◌-◌, ◌/◌, ◌%◌, ◌≤◌, ◌<◌}
use native.Mathlib.Omega.{arith}
use borrow.Author.Rules.{rules}
use borrow.Author.Tests.{ne_eqb, lt-ltb, le-ltb, le-leb, lt-leb}
use lib.ListN.{length, drop, get_or, drop_of_length-le}
use Rattle.cdi.specs.Lists.{between}
use Rattle.cdi.specs.Text.{is_char}
use Rattle.cdi.specs.Pieces.{digit, lower, hex_value, decimal, hexadecimal, refer_to}
use Rattle.scan.proofs.Along.{drop_next}
use Rattle.scan.proofs.Tests.{lt_or_le}
use Rattle.cdi.specs.Values.{padded, utf8}
use Rattle.pieces_characters.specs.Characters.{clip, value_in, further, utf8_of, Encoded}

-- ── characters of XML ──

too_large : (c : ℕ) → 0x110000 ≤ c → is_char c ≡ false
unfolding is_char between
too_large c h = rw (
  ne_eqb c 9 (λ z. omega arith),
  ne_eqb c 10 (λ z. omega arith),
  ne_eqb c 13 (λ z. omega arith),
  le-leb 0x20 c (omega arith),
  lt-leb c 0xD7FF (omega arith),
  le-leb 0xE000 c (omega arith),
  lt-leb c 0xFFFD (omega arith),
  le-leb 0x10000 c (omega arith),
  lt-leb c 0x10FFFF (omega arith),
)

-- a clipped number refers to the same character
pub refer_clip : (n : ℕ) (t : List ℕ) → refer_to n t ≡ refer_to (clip n) t
unfolding refer_to
refer_clip n t = ⊎_elim
    (λ h. let e : clip n ≡ n = omega arith in ap (λ c. refer_to c t) (sym e))
    (λ h. rw (too_large n h, too_large (clip n) (omega arith)))
    (lt_or_le n 0x110000)

-- ── digits ──

module _ (b : ℕ) where
  module _ {r : Bool} (p : r ≡ digit b) where
    pub hex_low : {d : ℕ} → r ≡ true → d ≡ b - 48 → d ≡ hex_value b
    unfolding hex_value
    hex_low e q = q ∙ rw (← p, e)

    pub hex_high : {l d : ℕ} → r ≡ false → l ≡ lower b → d ≡ l - 87 → d ≡ hex_value b
    unfolding hex_value
    hex_high e q k = k ∙ rw (← p, e, ← q)

pub ruleset digit_values = (hex_low, hex_high, rules)

module _ {h : Bool} {r : ℕ} (c b d e : ℕ) where
  pub hex_more : h ≡ true → d ≡ hex_value b → e ≡ d → r ≡ clip (c * 16 + e) → r ≡ clip (further h c b)
  unfolding further
  hex_more f p q u = u ∙ rw (q, p, f)

  pub decimal_more : h ≡ false → d ≡ b - 48 → e ≡ d → r ≡ clip (c * 10 + e) → r ≡ clip (further h c b)
  unfolding further
  decimal_more f p q u = u ∙ rw (q, p, f)

pub ruleset digit_more = (hex_more, decimal_more, rules)

-- what is clipped on the way stays clipped
clip_hex : (s : List ℕ) (n m : ℕ) → clip n ≡ clip m → clip (hexadecimal n s) ≡ clip (hexadecimal m s)
unfolding hexadecimal
clip_hex [] n m e = e
clip_hex (x ∷ s) n m e = clip_hex s (n * 16 + hex_value x) (m * 16 + hex_value x) (omega arith)

clip_decimal : (s : List ℕ) (n m : ℕ) → clip n ≡ clip m → clip (decimal n s) ≡ clip (decimal m s)
unfolding decimal
clip_decimal [] n m e = e
clip_decimal (x ∷ s) n m e = clip_decimal s (n * 10 + (x - 48)) (m * 10 + (x - 48)) (omega arith)

clip_on : (h : Bool) (s : List ℕ) (n m : ℕ) → clip n ≡ clip m → clip (value_in h n s) ≡ clip (value_in h m s)
unfolding value_in
clip_on true s n m e = clip_hex s n m e
clip_on false s n m e = clip_decimal s n m e

value_next : (h : Bool) (n x : ℕ) (s : List ℕ) → value_in h n (x ∷ s) ≡ value_in h (further h n x) s
unfolding value_in further hexadecimal decimal
value_next true n x s = refl
value_next false n x s = refl

value_end : (h : Bool) (n : ℕ) → value_in h n [] ≡ n
unfolding value_in hexadecimal decimal
value_end true n = refl
value_end false n = refl

-- the number up to i
pub record Counting (h : Bool) (s : List ℕ) (code i : ℕ) : Type 0 where
  pub left : clip (value_in h 0 s) ≡ clip (value_in h code (drop i s))
  pub small : code ≤ 0x110000

pub count : (h : Bool) (s : List ℕ) → Counting h s 0 0
count h s = record { left = refl; small = omega arith }

module _ {h : Bool} {s : List ℕ} {code i : ℕ} (v : Counting h s code i) where
  pub counted : length s ≤ i → code ≡ clip (value_in h 0 s)
  counted k = sym (v.left ∙ ap (λ t. clip (value_in h code t)) (drop_of_length-le s k) ∙ ap clip (value_end h code) ∙ (let z = v.small in omega arith))

  pub counts : {r : ℕ} → i < length s → r ≡ clip (further h code (get_or s i 0)) → r ≤ 0x110000 → Counting h s r (i + 1)
  counts {r} k e l = record {
    left =
        v.left
        ∙ ap (λ t. clip (value_in h code t)) (drop_next s i k)
        ∙ ap clip (value_next h code (get_or s i 0) (drop (i + 1) s))
        ∙ clip_on h (drop (i + 1) s) (further h code (get_or s i 0)) r (omega arith);
    small = l;
  }

pub ruleset count_loop = (count, counted, counts, rules)

-- ── UTF-8 ──

module _ {c : ℕ} where
  pub one_byte : c < 128 → Encoded c (record { bytes = c ∷ 0 ∷ 0 ∷ 0 ∷ []; length = 1 })
  unfolding utf8_of utf8 padded
  one_byte h = record { is = rw (lt-ltb c 0x110000 (omega arith), lt-ltb c 128 h); count = rw (lt-ltb c 0x110000 (omega arith), lt-ltb c 128 h) }

  module _ (k : 128 ≤ c) where
    pub two_bytes : c < 2048 → Encoded c (record { bytes = (192 + c / 64) ∷ (128 + c % 64) ∷ 0 ∷ 0 ∷ []; length = 2 })
    unfolding utf8_of utf8 padded
    two_bytes h = record {
      is = rw (lt-ltb c 0x110000 (omega arith), le-ltb c 128 k, lt-ltb c 2048 h);
      count = rw (lt-ltb c 0x110000 (omega arith), le-ltb c 128 k, lt-ltb c 2048 h);
    }

    module _ (l : 2048 ≤ c) where
      pub three_bytes : c < 65536 → Encoded c (record { bytes = (224 + c / 4096) ∷ (128 + c / 64 % 64) ∷ (128 + c % 64) ∷ 0 ∷ []; length = 3 })
      unfolding utf8_of utf8 padded
      three_bytes h = record {
        is = rw (lt-ltb c 0x110000 (omega arith), le-ltb c 128 k, le-ltb c 2048 l, lt-ltb c 65536 h);
        count = rw (lt-ltb c 0x110000 (omega arith), le-ltb c 128 k, le-ltb c 2048 l, lt-ltb c 65536 h);
      }

      module _ (m : 65536 ≤ c) where
        pub four_bytes : c < 0x110000 → Encoded c (record { bytes = (240 + c / 262144) ∷ (128 + c / 4096 % 64) ∷ (128 + c / 64 % 64) ∷ (128 + c % 64) ∷ []; length = 4 })
        unfolding utf8_of utf8 padded
        four_bytes h = record {
          is = rw (lt-ltb c 0x110000 h, le-ltb c 128 k, le-ltb c 2048 l, le-ltb c 65536 m);
          count = rw (lt-ltb c 0x110000 h, le-ltb c 128 k, le-ltb c 2048 l, le-ltb c 65536 m);
        }

        pub no_bytes : 0x110000 ≤ c → Encoded c (record { bytes = 0 ∷ 0 ∷ 0 ∷ 0 ∷ []; length = 0 })
        unfolding utf8_of padded
        no_bytes h = record { is = rw (le-ltb c 0x110000 h); count = rw (le-ltb c 0x110000 h) }

pub ruleset encodings = (one_byte, two_bytes, three_bytes, four_bytes, no_bytes, rules)
