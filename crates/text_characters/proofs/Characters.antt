-- One character: its bytes, by each way through the code, and how many it can take.
use mathlib.Core.Path.{◌≡◌, sym, ap, subst, ◌∙◌}
use mathlib.Core.List.{List, [], ◌∷◌}
use mathlib.Core.Bool.{Bool, true, false, cond, ◌&&◌}
use mathlib.Core.Option.{Option, none, some}
use Prim.Native.Nat.{ℕ, ◌+◌, ◌-◌, ◌*◌, ◌≤◌, ◌<◌}
use native.Mathlib.Omega.{arith}
use borrow.Author.Rules.{rules}
use borrow.Author.Tests.{lt-ltb, le-ltb}
use lib.Dec.{leb, ltb}
use lib.ListN.{length, drop, get_or, drop_of_length-le}
use lib.Seq.{get_or-drop}
use Rattle.cdi.specs.Text.{Character as Decoded, continues, scalar, sequence, character_at}
use Rattle.scan.proofs.Along.{drop_next}
use Rattle.text_characters.specs.Answers.{character_of, width_in}
use Rattle.std.specs.Prelude.{Option as Answer, Some, None}
use Rattle.text_characters.specs.declared.Character.{Character}

pub and_true : (x y : Bool) → x ≡ true → (x && y) ≡ y
and_true x y e = rw e

pub and-false : (x y : Bool) → x ≡ false → (x && y) ≡ false
and-false x y e = rw e

pub ruleset ands = (and_true, and-false)

-- ── a sequence of several bytes ──

module _ {t : Bool} (p : Bool) (f : t ≡ p) where
  pub unmet : (c smallest w : ℕ) → t ≡ false → character_of None ≡ sequence p c smallest w
  unfolding character_of sequence
  unmet c smallest w e = rw (← f, e)

  pub first_unmet : (q : Bool) (c smallest w : ℕ) → t ≡ false → character_of None ≡ sequence (p && q) c smallest w
  unfolding character_of sequence
  first_unmet q c smallest w e = rw (← f, e)

  pub second_unmet : {u : Bool} (q : Bool) (c smallest w : ℕ) → t ≡ true → u ≡ q → u ≡ false → character_of None ≡ sequence (p && q) c smallest w
  unfolding character_of sequence
  second_unmet q c smallest w e g h = rw (← f, e, ← g, h)

-- its number is made byte by byte
module _ (r : Answer Character) {x y : ℕ} (a b smallest w : ℕ) (f : x ≡ a) (g : y ≡ x * 64 + b) where
  pub two : {t : Bool} (p : Bool) → t ≡ p → t ≡ true → character_of r ≡ sequence true y smallest w → character_of r ≡ sequence p (a * 64 + b) smallest w
  two p e k h = h ∙ rw (g, f, ← e, k)

  module _ {z : ℕ} (c : ℕ) (m : z ≡ y * 64 + c) where
    pub three : {t u : Bool} (p q : Bool) → t ≡ p → t ≡ true → u ≡ q → u ≡ true → character_of r ≡ sequence true z smallest w
        → character_of r ≡ sequence (p && q) ((a * 64 + b) * 64 + c) smallest w
    three p q e k n l h = h ∙ rw (m, g, f, ← e, k, ← n, l)

    pub four : {u : ℕ} (d : ℕ) {t : Bool} (p : Bool) → u ≡ z * 64 + d → t ≡ p → t ≡ true → character_of r ≡ sequence true u smallest w
        → character_of r ≡ sequence p (((a * 64 + b) * 64 + c) * 64 + d) smallest w
    four d p o e k h = h ∙ rw (o, m, g, f, ← e, k)

pub ruleset several = (unmet, first_unmet, second_unmet, two, three, four, rules)

-- ── by the first byte ──

module _ (r : Answer Character) (a b c d : ℕ) where
  pub of_one : a < 128 → character_of r ≡ sequence true a 0 1 → character_of r ≡ character_at (a ∷ b ∷ c ∷ d ∷ [])
  unfolding character_at
  of_one h e = e ∙ sym (rw (lt-ltb a 128 h))

  pub of_two_bytes : 192 ≤ a → a < 224 → character_of r ≡ sequence (continues b) ((a - 192) * 64 + (b - 128)) 128 2 → character_of r ≡ character_at (a ∷ b ∷ c ∷ d ∷ [])
  unfolding character_at
  of_two_bytes l h e = e ∙ sym (rw (le-ltb a 128 (omega arith), le-ltb a 192 l, lt-ltb a 224 h))

  module _ (l : 224 ≤ a) where
    pub of_three_bytes : a < 240 → character_of r ≡ sequence (continues b && continues c) (((a - 224) * 64 + (b - 128)) * 64 + (c - 128)) 2048 3 → character_of r ≡ character_at (a ∷ b ∷ c ∷ d ∷ [])
    unfolding character_at
    of_three_bytes h e = e ∙ sym (rw (le-ltb a 128 (omega arith), le-ltb a 192 (omega arith), le-ltb a 224 l, lt-ltb a 240 h))

    module _ (m : 240 ≤ a) where
      pub of_four_bytes : a < 248 → character_of r ≡ sequence (continues b && continues c && continues d) ((((a - 240) * 64 + (b - 128)) * 64 + (c - 128)) * 64 + (d - 128)) 65536 4 → character_of r ≡ character_at (a ∷ b ∷ c ∷ d ∷ [])
      unfolding character_at
      of_four_bytes h e = e ∙ sym (rw (le-ltb a 128 (omega arith), le-ltb a 192 (omega arith), le-ltb a 224 l, le-ltb a 240 m, lt-ltb a 248 h))

module _ (a b c d : ℕ) where
  pub stray_byte : 128 ≤ a → a < 192 → character_of None ≡ character_at (a ∷ b ∷ c ∷ d ∷ [])
  unfolding character_at character_of
  stray_byte l h = sym (rw (le-ltb a 128 l, lt-ltb a 192 h))

  pub no_first_byte : 248 ≤ a → character_of None ≡ character_at (a ∷ b ∷ c ∷ d ∷ [])
  unfolding character_at character_of
  no_first_byte h = sym (rw (le-ltb a 128 (omega arith), le-ltb a 192 (omega arith), le-ltb a 224 (omega arith), le-ltb a 240 (omega arith), le-ltb a 248 h))

pub ruleset first_bytes = (of_one, of_two_bytes, of_three_bytes, of_four_bytes, stray_byte, no_first_byte, rules)

-- ── the character at a place ──

-- no character looks further than its fourth byte
front : (x : ℕ) (s t : List ℕ) → get_or s 0 0 ≡ get_or t 0 0 → get_or s 1 0 ≡ get_or t 1 0 → get_or s 2 0 ≡ get_or t 2 0 → character_at (x ∷ s) ≡ character_at (x ∷ t)
unfolding character_at
front x s t e f g = rw (e, f, g)

module _ (s : List ℕ) (at : ℕ) where
  pub past : length s ≤ at → character_of None ≡ character_at (drop at s)
  unfolding character_of character_at
  past h = rw (drop_of_length-le s h)

  further : (k n : ℕ) → at + 1 + k ≡ n → get_or (drop (at + 1) s) k 0 ≡ get_or s n 0
  further k n e = get_or-drop (at + 1) s k 0 ∙ ap (λ j. get_or s j 0) e

  pub stands : (r : Answer Character) {b c d : ℕ} → at < length s → b ≡ get_or s (at + 1) 0 → c ≡ get_or s (at + 2) 0 → d ≡ get_or s (at + 3) 0
      → character_of r ≡ character_at (get_or s at 0 ∷ b ∷ c ∷ d ∷ []) → character_of r ≡ character_at (drop at s)
  stands r {b} {c} {d} h e f g is = is ∙ sym (rw (drop_next s at h) (front (get_or s at 0) (drop (at + 1) s) (b ∷ c ∷ d ∷ [])
      (further 0 (at + 1) (omega arith) ∙ sym e) (further 1 (at + 2) (omega arith) ∙ sym f) (further 2 (at + 3) (omega arith) ∙ sym g)))

pub ruleset by_place = (past, stands, rules)

-- ── how many bytes it takes ──

-- one to four, if there is a character
unfoldable pub Fit : Option Decoded → Type 0
Fit none = Unit {0}
Fit (some c) = (1 ≤ c.width) × (c.width ≤ 4)

either : (t : Bool) (o u : Option Decoded) → Fit o → Fit u → Fit (cond t o u)
either true o u f g = f
either false o u f g = g

fit_sequence : (t : Bool) (c smallest w : ℕ) → 1 ≤ w → w ≤ 4 → Fit (sequence t c smallest w)
unfolding sequence Fit
fit_sequence t c smallest w h k = either (t && leb smallest c && scalar c) (some (record { code = c; width = w })) none (h, k) tt

fit_none : Fit none
unfolding Fit
fit_none = tt

pub fit : (s : List ℕ) → Fit (character_at s)
unfolding character_at
fit [] = fit_none
fit (a ∷ s) =
    either (ltb a 128) _ _ (fit_sequence _ _ _ 1 (omega arith) (omega arith))
    (either (ltb a 192) _ _ fit_none
    (either (ltb a 224) _ _ (fit_sequence _ _ _ 2 (omega arith) (omega arith))
    (either (ltb a 240) _ _ (fit_sequence _ _ _ 3 (omega arith) (omega arith))
    (either (ltb a 248) _ _ (fit_sequence _ _ _ 4 (omega arith) (omega arith)) fit_none))))

-- the width of one that passes a test
module _ (p : ℕ → Bool) (o : Option Decoded) where
  pub no_width : character_of None ≡ o → width_in p o ≡ 0
  unfolding character_of width_in
  no_width e = rw (← e)

  module _ (c : Character) (e : character_of (Some c) ≡ o) where
    pub passes : p c.code ≡ true → c.width ≡ width_in p o
    unfolding character_of width_in
    passes h = rw (← e, h)

    pub fails : p c.code ≡ false → width_in p o ≡ 0
    unfolding character_of width_in
    fails h = rw (← e, h)

pub fits : (s : List ℕ) (c : Character) → character_of (Some c) ≡ character_at s → (1 ≤ c.width) × (c.width ≤ 4)
unfolding character_of Fit
fits s c e = let h : Fit (character_of (Some c)) = subst Fit (sym e) (fit s) in h
