-- Reading a number: one digit more, the digits, and the sign.
use mathlib.Core.Path.{◌≡◌, refl, sym, ap, ◌∙◌}
use mathlib.Core.List.{List, [], ◌∷◌}
use mathlib.Core.Bool.{Bool, true, false, cond, not, ◌&&◌, false≢true}
use mathlib.Core.Option.{Option, none, some}
use mathlib.Core.Logic.{◌⊎◌, inl, inr, ⊎_elim}
use Prim.Native.Nat.{ℕ, zero, suc, ◌+◌, ◌-◌, ◌*◌, ◌/◌, ◌^◌, ◌≤◌, ◌<◌}
use native.Mathlib.Omega.{arith}
use borrow.Author.Rules.{rules}
use borrow.Author.Tests.{lt-ltb, le-ltb, leb-true, eqb-true, eqb-false, eq-eqb, ne_eqb}
use lib.Dec.{eqb, leb}
use lib.IntN.{ℤ, pos, neg_ℤ}
use mir.Syntax.{w64}
use mir.Val.{Fits}
use lib.ListN.{length, take, drop, get_or, drop_of_length-le}
use Rattle.std.specs.Prelude as std
use Rattle.std.specs.Prelude.{Some, None}
use Rattle.cdi.specs.Lists.{◌>>=◌, ◌or_else◌, is_empty, all, while, shorn, strip, begins, between}
use Rattle.cdi.specs.Pieces.{blank, digit, decimal}
use Rattle.cdi.specs.Numbers.{trimmed, digits, signed_digits, number}
use Rattle.cdi.specs.Values.{with_sign}
use Rattle.cdi.proofs.Tests.{both_left}
use Rattle.cdi.proofs.Trimmed.{shorn_all, shorn_first}
use Rattle.scan.specs.Spans.{span_end, Span}
use Rattle.scan.proofs.Along.{drop_next, rest, nothing_there}
use Rattle.scan.proofs.Spans.{span_rest, span_all}
use Rattle.scan.proofs.Tests.{lt_or_le, eq_or_ne}
use Rattle.numbers.specs.Held.{held, size_of, nearest, signed_of, number_of, digits_of, one_more, minus_of}
use Rattle.numbers.specs.Ends.{ended_by, is_sign, behind_sign, Starts}
use Rattle.numbers.specs.declared.Signed.{Signed}

-- ── one digit more ──

held_small : (negative : Bool) (n : ℕ) → n < 2 ^ 64 → held negative n ≡ record { negative = negative; magnitude = n; large = false }
unfolding held
held_small negative n h = rw (lt-ltb n (2 ^ 64) h)

held_large : (negative : Bool) (n : ℕ) → 2 ^ 64 ≤ n → held negative n ≡ record { negative = negative; magnitude = 0; large = true }
unfolding held
held_large negative n h = rw (le-ltb n (2 ^ 64) h)

module _ (negative : Bool) (magnitude : ℕ) (h : Fits w64 magnitude) where
  pub made : record { negative = negative; magnitude = magnitude; large = false } ≡ held negative magnitude
  made = sym (held_small negative magnitude h.fits)

  pub meant : nearest (record { negative = negative; magnitude = magnitude; large = false }) ≡ with_sign negative magnitude
  unfolding nearest size_of
  meant = refl

pub ruleset making = (made, meant, rules)

module _ (n : Signed) (b : ℕ) where
  pub stays : n.large ≡ true → n ≡ one_more n b
  unfolding one_more
  stays e = rw e

  module _ {d : ℕ} (e : n.large ≡ false) (f : d ≡ b - 48) where
    pub overflows : (0xFFFF_FFFF_FFFF_FFFF - d) / 10 < n.magnitude → d ≤ 255 → record { negative = n.negative; magnitude = 0; large = true } ≡ one_more n b
    unfolding one_more
    overflows h k = sym (rw e (held_large n.negative (n.magnitude * 10 + (b - 48)) (omega arith)))

    pub fits : {r : Signed} → r ≡ held n.negative (n.magnitude * 10 + d) → r ≡ one_more n b
    unfolding one_more
    fits g = g ∙ rw (e, f)

pub ruleset one_digit = (stays, overflows, fits, rules)

more : (negative : Bool) (v b : ℕ) → one_more (held negative v) b ≡ held negative (v * 10 + (b - 48))
unfolding one_more
more negative v b = ⊎_elim (λ h. rw (held_small negative v h)) (λ h. rw (held_large negative v h, held_large negative (v * 10 + (b - 48)) (omega arith))) (lt_or_le v (2 ^ 64))

-- ── the digits, and blanks behind them ──

digit_no_blank : (b : ℕ) → digit b ≡ true → blank b ≡ false
unfolding digit between blank
digit_no_blank b e =
    let l = leb-true 48 b (both_left (leb 48 b) (leb b 57) e) in
    rw (ne_eqb b 32 (λ z. omega arith), ne_eqb b 9 (λ z. omega arith), ne_eqb b 10 (λ z. omega arith))

-- a byte that is no blank stays
pub kept : (b : ℕ) (s : List ℕ) → blank b ≡ false → shorn blank (b ∷ s) ≡ b ∷ shorn blank s
unfolding all
kept b s e = shorn_first blank b s (rw e)

-- what the bytes from a place on say, behind digits of that value
unfoldable pub onward : ℕ → List ℕ → Option ℕ
onward v s = cond (all digit (shorn blank s)) (some (decimal v (shorn blank s))) none

-- all up to i are digits, and make this number
pub record Read (s : List ℕ) (i : ℕ) (n : Signed) : Type 0 where
  pub so_far : ℕ
  pub is : n ≡ held false so_far
  pub here : i ≤ length s
  pub value : onward 0 s ≡ onward so_far (drop i s)
  pub begun : (i ≡ 0 → ⊥) → is_empty (shorn blank s) ≡ false

pub start : (s : List ℕ) {n : Signed} → n ≡ held false 0 → Read s 0 n
start s e = record { so_far = 0; is = e; here = omega arith; value = refl; begun = λ z. absurd (z refl) }

module _ {s : List ℕ} {i : ℕ} {n : Signed} (v : Read s i n) where
  -- digits, and only blanks behind them
  shut : (i ≡ 0 → ⊥) → all blank (drop i s) ≡ true → Some n ≡ digits_of (digits (shorn blank s))
  unfolding digits_of digits
  shut h e = rw (v.begun h, value_is, v.is)
    where
      value_is : cond (all digit (shorn blank s)) (some (decimal 0 (shorn blank s))) none ≡ some v.so_far
      value_is = unfold onward all decimal in v.value ∙ rw (shorn_all blank (drop i s) e)

  -- a byte behind them that is neither a digit nor followed by blanks alone
  broken : onward v.so_far (drop i s) ≡ none → None ≡ digits_of (digits (shorn blank s))
  unfolding digits_of digits onward
  broken e = rw (v.value ∙ e) (by (is_empty (shorn blank s)))
    where
      by : (t : Bool) → None ≡ digits_of (cond t none none)
      by true = refl
      by false = refl

  none_begun : i ≡ 0 → all blank (drop i s) ≡ true → None ≡ digits_of (digits (shorn blank s))
  unfolding digits_of digits is_empty
  none_begun z e = rw (shorn_all blank s (rw z at e))

  module _ {t : Bool} (h : length s ≤ i) (e : t ≡ eqb (length s) 0) where
    pub all_read : t ≡ false → Some n ≡ digits_of (digits (shorn blank s))
    unfolding all
    all_read f = shut (λ z. eqb-false (length s) 0 (sym e ∙ f) (omega (arith, v.here))) (rw (drop_of_length-le s h))

    pub none_read : t ≡ true → None ≡ digits_of (digits (shorn blank s))
    unfolding all
    none_read f = none_begun (omega (arith, v.here, eqb-true (length s) 0 (sym e ∙ f))) (rw (drop_of_length-le s h))

  module _ {t : Bool} (h : i < length s) (e : t ≡ digit (get_or s i 0)) where
    pub stopped : {r : std.Option Signed} → t ≡ false → r ≡ ended_by s i n → r ≡ digits_of (digits (shorn blank s))
    unfolding ended_by
    stopped f g = g ∙ by (all blank (drop i s)) refl (eqb i 0) refl
      where
        cut_off : all blank (drop i s) ≡ false → onward v.so_far (drop i s) ≡ none
        cut_off k = unfold onward all in rw (drop_next s i h, shorn_first blank (get_or s i 0) (drop (i + 1) s) (ap (all blank) (sym (drop_next s i h)) ∙ k), ← e, f)

        by : (a : Bool) → all blank (drop i s) ≡ a → (z : Bool) → eqb i 0 ≡ z → cond (not z && a) (Some n) None ≡ digits_of (digits (shorn blank s))
        by true k true z = none_begun (eqb-true i 0 z) k
        by true k false z = shut (eqb-false i 0 z) k
        by false k true z = broken (cut_off k)
        by false k false z = broken (cut_off k)

    pub another : {m : Signed} → t ≡ true → m ≡ one_more n (get_or s i 0) → Read s (i + 1) m
    another f g = record {
      so_far = v.so_far * 10 + (get_or s i 0 - 48);
      is = g ∙ rw (v.is, more);
      here = omega arith;
      value = v.value ∙ onward_step;
      begun = λ z. first_stays;
    }
      where
        onward_step : onward v.so_far (drop i s) ≡ onward (v.so_far * 10 + (get_or s i 0 - 48)) (drop (i + 1) s)
        onward_step = unfold onward all decimal in rw (drop_next s i h, kept (get_or s i 0) (drop (i + 1) s) (digit_no_blank (get_or s i 0) (sym e ∙ f)), ← e, f)

        first_stays : is_empty (shorn blank s) ≡ false
        first_stays = by (eq_or_ne i 0)
          where
            by : (i ≡ 0) ⊎ (i ≡ 0 → ⊥) → is_empty (shorn blank s) ≡ false
            by (inl z) = unfold is_empty in ap (λ l. is_empty (shorn blank (drop l s))) (sym z) ∙ rw (drop_next s i h, kept (get_or s i 0) (drop (i + 1) s) (digit_no_blank (get_or s i 0) (sym e ∙ f)))
            by (inr z) = v.begun z

pub ruleset digit_loop = (start, all_read, none_read, stopped, another, rules)

-- ── the sign ──

pub minus_large : (n : Signed) → n.large ≡ true → record { negative = n.large; magnitude = n.magnitude; large = n.large } ≡ minus_of n
unfolding minus_of
minus_large n e = rw e

pub minus_small : (n : Signed) → n.large ≡ false → record { negative = not (eqb n.magnitude 0); magnitude = n.magnitude; large = n.large } ≡ minus_of n
unfolding minus_of
minus_small n e = rw e

pub ruleset minuses = (minus_large, minus_small, rules)

minus_held : (n : ℕ) → minus_of (held false n) ≡ signed_of (neg_ℤ (pos n))
unfolding minus_of signed_of
minus_held zero = rw (held_small false 0 (omega arith))
minus_held (suc n) = ⊎_elim
    (λ h. rw (held_small false (suc n) h, held_small true (suc n) h, ne_eqb (suc n) 0 (omega arith)))
    (λ h. rw (held_large false (suc n) h, held_large true (suc n) h))
    (lt_or_le (suc n) (2 ^ 64))

-- what the digits say, of the number and of its opposite
plain : (o : Option ℕ) → digits_of o ≡ number_of (o >>= λ n. some (pos n))
unfolding digits_of number_of signed_of
plain none = refl
plain (some n) = refl

no_digits : (minus : Bool) (o : Option ℕ) → digits_of o ≡ None → None ≡ number_of (o >>= λ n. some (cond minus (neg_ℤ (pos n)) (pos n)))
unfolding digits_of number_of
no_digits minus none e = refl
no_digits minus (some n) e = cc

some_digits : (o : Option ℕ) {m t : Signed} → digits_of o ≡ Some m → t ≡ minus_of m → Some t ≡ number_of (o >>= λ n. some (neg_ℤ (pos n)))
unfolding digits_of number_of
some_digits none e f = cc
some_digits (some n) e f = cc (minus_held n)

-- ── the sign, and blanks before it ──

no_digit : (b : ℕ) (s : List ℕ) → digit b ≡ false → digits (b ∷ s) ≡ none
unfolding digits is_empty all
no_digit b s e = rw e

and_nothing : (o : Option ℕ) (f : ℕ → ℤ) → ((o >>= λ n. some (f n)) or_else none) ≡ (o >>= λ n. some (f n))
and_nothing none f = refl
and_nothing (some n) f = refl

module _ (s : List ℕ) where
  after_minus : signed_digits (shorn blank (45 ∷ s)) ≡ (digits (shorn blank s) >>= λ n. some (neg_ℤ (pos n)))
  unfolding signed_digits strip begins blank digit between
  after_minus = rw (kept 45 s refl, no_digit 45 (shorn blank s) refl) (and_nothing (digits (shorn blank s)) (λ n. neg_ℤ (pos n)))

  after_plus : signed_digits (shorn blank (43 ∷ s)) ≡ (digits (shorn blank s) >>= λ n. some (pos n))
  unfolding signed_digits strip begins blank digit between
  after_plus = rw (kept 43 s refl, no_digit 43 (shorn blank s) refl) (and_nothing (digits (shorn blank s)) pos)

  without : (b : ℕ) → (b ≡ 45 → ⊥) → (b ≡ 43 → ⊥) → signed_digits (shorn blank (b ∷ s)) ≡ (digits (shorn blank (b ∷ s)) >>= λ n. some (pos n))
  unfolding signed_digits strip begins digits is_empty
  without b h k = by (all blank (b ∷ s)) refl
    where
      by : (t : Bool) → all blank (b ∷ s) ≡ t → signed_digits (shorn blank (b ∷ s)) ≡ (digits (shorn blank (b ∷ s)) >>= λ n. some (pos n))
      by true e = rw (shorn_all blank (b ∷ s) e)
      by false e = rw (shorn_first blank b s e, ne_eqb 45 b (λ z. h (sym z)), ne_eqb 43 b (λ z. k (sym z)))

-- the number of that sign
abbrev told : Bool → Option ℕ → Option ℤ
told minus o = o >>= λ n. some (cond minus (neg_ℤ (pos n)) (pos n))

signed_at : (b : ℕ) (u w : List ℕ) → (is_sign b ≡ true → w ≡ u) → (is_sign b ≡ false → w ≡ b ∷ u)
    → signed_digits (shorn blank (b ∷ u)) ≡ told (begins (45 ∷ []) (b ∷ u)) (digits (shorn blank w))
unfolding is_sign begins
signed_at b u w h k = by (eqb b 45) refl (eqb b 43) refl
  where
    by : (x : Bool) → eqb b 45 ≡ x → (y : Bool) → eqb b 43 ≡ y → signed_digits (shorn blank (b ∷ u)) ≡ told (begins (45 ∷ []) (b ∷ u)) (digits (shorn blank w))
    by true e y f = rw (h (rw e), eqb-true b 45 e) (after_minus u)
    by false e true f = rw (h (rw (e, f)), eqb-true b 43 f) (after_plus u)
    by false e false f = rw (k (rw (e, f)), ne_eqb 45 b (λ z. eqb-false b 45 e (sym z))) (without u b (eqb-false b 45 e) (eqb-false b 43 f))

number_is : (s : List ℕ) {at : ℕ} {minus : Bool} → Starts s at minus → number s ≡ told minus (digits (shorn blank (drop at s)))
unfolding number trimmed
number_is s {at} {minus} v = ap (λ l. signed_digits (shorn blank l)) (span_rest v.blanks) ∙ rw v.negative (⊎_elim some_left none_left (lt_or_le v.from (length s)))
  where
    there : (t : Bool) → is_sign (get_or s v.from 0) ≡ t → drop at s ≡ drop (cond t (v.from + 1) v.from) s
    there t f = rw (v.sign ∙ place)
      where
        place : behind_sign s v.from ≡ cond t (v.from + 1) v.from
        place = unfold behind_sign in rw f

    Goal : Type 0
    Goal = signed_digits (shorn blank (drop v.from s)) ≡ told (begins (45 ∷ []) (drop v.from s)) (digits (shorn blank (drop at s)))

    none_left : length s ≤ v.from → Goal
    none_left h =
        let z = there false (unfold is_sign in rw (← nothing_there s v.from h)) in
        unfold signed_digits shorn strip begins digits is_empty in rw (z, drop_of_length-le s h)

    some_left : v.from < length s → Goal
    some_left h = rw (drop_next s v.from h) (signed_at (get_or s v.from 0) (drop (v.from + 1) s) (drop at s) (there true) (λ f. there false f ∙ drop_next s v.from h))

module _ (s : List ℕ) {at : ℕ} {minus : Bool} (v : Starts s at minus) {r : std.Option Signed} (d : r ≡ digits_of (digits (shorn blank (take (length s - at) (drop at s))))) where
  -- what the reader of digits said of the rest
  said : r ≡ digits_of (digits (shorn blank (drop at s)))
  said = d ∙ ap (λ l. digits_of (digits (shorn blank l))) (rest s at)

  pub no_number : r ≡ None → None ≡ number_of (number s)
  no_number f = rw (number_is s v) (no_digits minus (digits (shorn blank (drop at s))) (sym said ∙ f))

  module _ {m : Signed} (f : r ≡ Some m) where
    pub negative : {k : Signed} → minus ≡ true → k ≡ minus_of m → Some k ≡ number_of (number s)
    negative h i = rw (number_is s v, h) (some_digits (digits (shorn blank (drop at s))) (sym said ∙ f) i)

    pub positive : minus ≡ false → Some m ≡ number_of (number s)
    positive h = rw (number_is s v, h) (sym f ∙ said ∙ plain (digits (shorn blank (drop at s))))

pub ruleset signs = (no_number, negative, positive, rules)

-- ── the parts of both ends ──

module _ (s : List ℕ) (at : ℕ) where
  pub none_before : (n : Signed) → at ≡ 0 → None ≡ ended_by s at n
  unfolding ended_by
  none_before n e = rw e

  module _ (n : Signed) {r : ℕ} (v : Span blank s at r) (h : at ≡ 0 → ⊥) where
    pub only_blanks : r ≡ length s → Some n ≡ ended_by s at n
    unfolding ended_by
    only_blanks e = rw (ne_eqb at 0 h, ← span_all v, eq-eqb r (length s) e)

    pub more_behind : (r ≡ length s → ⊥) → None ≡ ended_by s at n
    unfolding ended_by
    more_behind e = rw (ne_eqb at 0 h, ← span_all v, ne_eqb r (length s) e)

  pub sign_past : length s ≤ at → at ≡ behind_sign s at
  unfolding behind_sign is_sign
  sign_past h = rw (← nothing_there s at h)

  pub some_sign : (get_or s at 0 ≡ 45) ⊎ (get_or s at 0 ≡ 43) → at + 1 ≡ behind_sign s at
  unfolding behind_sign is_sign
  some_sign (inl e) = rw e
  some_sign (inr e) = rw e

  pub no_sign : (get_or s at 0 ≡ 45 → ⊥) → (get_or s at 0 ≡ 43 → ⊥) → at ≡ behind_sign s at
  unfolding behind_sign is_sign
  no_sign e f = rw (ne_eqb (get_or s at 0) 45 e, ne_eqb (get_or s at 0) 43 f)

-- a digit is neither a blank nor a sign
digit_first : (s : List ℕ) → digit (get_or s 0 0) ≡ true → Starts s 0 false
unfolding digit between span_end while behind_sign is_sign begins
digit_first [] h = absurd (false≢true h)
digit_first (x ∷ s) h =
    let l = leb-true 48 x (both_left (leb 48 x) (leb x 57) h) in
    let no_blank : blank x ≡ false = digit_no_blank x h in
    record {
      from = 0;
      blanks = record { is = rw no_blank; low = omega arith; high = omega arith };
      sign = rw (ne_eqb x 45 (λ z. omega arith), ne_eqb x 43 (λ z. omega arith));
      negative = rw (ne_eqb 45 x (λ z. omega arith));
    }

pub begins_digit : (s : List ℕ) {b : ℕ} {t : Bool} → b ≡ get_or s 0 0 → t ≡ digit b → t ≡ true → Starts s 0 false
begins_digit s e f g = digit_first s (rw (← e) (sym f ∙ g))

pub begins_other : (s : List ℕ) {from at : ℕ} {minus : Bool} → Span blank s 0 from → at ≡ behind_sign s from → minus ≡ begins (45 ∷ []) (drop from s) → Starts s at minus
begins_other s {from} v e f = record { from = from; blanks = v; sign = e; negative = f }

pub ruleset starts = (begins_digit, begins_other, rules)

pub ruleset both_ends = (none_before, only_blanks, more_behind, rules)
