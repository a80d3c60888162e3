-- What is handed out is that of the answer which a call says.
use mathlib.Core.Path.{◌≡◌, refl, sym, ap, ◌∙◌}
use mathlib.Core.List.{List}
use mathlib.Core.Bool.{Bool, true, false}
use Prim.Native.Nat.{ℕ, zero, suc, ◌+◌, ◌-◌, ◌≤◌, ◌<◌}
use native.Mathlib.Omega.{arith}
use borrow.Author.Rules.{rules}
use lib.IntN.{ℤ, nat_abs}
use lib.ListN.{length, take, drop, length-take, length-drop}
use Rattle.cdi.specs.Values.{with_sign}
use Rattle.cdi.specs.Plans.{is_plan}
use Rattle.cdi.specs.Access.{integer, read, kind_of_value}
use Rattle.access_kinds.specs.Told.{window_of}
use Rattle.access_reading.specs.Told.{reading_of, ReadAt}
use Rattle.access_reading.specs.declared.Reading.{Reading}
use Rattle.access_reading.specs.declared.Reading.TheVariants.{Integer, Event, Text}
use Rattle.refusals.specs.declared.Refusal.{Refusal}
use Rattle.std.specs.Prelude.{Result, Ok, Err}
use Rattle.access.specs.Told.{start_for}
use Rattle.outcomes.specs.Outcomes.{number_in}
use Rattle.planksling_out.specs.Readings.{bit_of, negative_in, number_of, from_in, to_in, shown_at, showing, shown_of}
use Rattle.planksling.specs.Answers.{tested, shown}

-- ── a table alone ──

module _ (t : List ℤ) {a : Bool} (e : a ≡ is_plan t) where
  pub plan_tested : a ≡ true → 0 ≡ number_in (tested t)
  unfolding number_in tested
  plan_tested h = sym (rw (← e, h))

  pub other_tested : a ≡ false → 20 ≡ number_in (tested t)
  unfolding number_in tested
  other_tested h = sym (rw (← e, h))

-- ── reading ──

-- a sign and a magnitude, where zero isn't negative
signed_number : (b : Bool) (m : ℕ) → m ≡ nat_abs (with_sign b m)
unfolding with_sign nat_abs
signed_number false m = refl
signed_number true zero = refl
signed_number true (suc m) = refl

signed_bit : (b : Bool) (m : ℕ) → (b ≡ true → 0 < m) → bit_of b ≡ negative_in (integer (with_sign b m))
unfolding with_sign bit_of negative_in
signed_bit false m h = refl
signed_bit true zero h = absurd (omega (arith, h refl))
signed_bit true (suc m) h = refl

text_end : (at i j : ℕ) (bytes : List ℕ) → i ≡ at → i ≤ j → j ≤ length bytes → j ≡ at + length (take (j - i) (drop i bytes))
text_end at i j bytes e l m = let p : length (take (j - i) (drop i bytes)) ≡ j - i = simp (length-take, length-drop) (omega arith) in omega (arith, p)

-- what is shown is what is read, of a variable that begins at this place
shown_at_law : (at : ℕ) (bytes : List ℕ) (r : Result Reading Refusal) → ReadAt at bytes r → shown_of r ≡ showing at (reading_of bytes r)
unfolding shown_of showing shown_at reading_of ReadAt kind_of_value negative_in number_of from_in to_in
shown_at_law at bytes (Ok (Integer b m f)) h =
    let p = signed_number b m in
    let q = signed_bit b m h in
    cc
shown_at_law at bytes (Ok (Event v f)) h = refl
shown_at_law at bytes (Ok (Text i j f)) h =
    let p = h.0 in
    let q = text_end at i j bytes h.0 h.1 h.2 in
    cc
shown_at_law at bytes (Err e) h = refl

module _ (b : List ℕ) (t : List ℤ) (n space first : ℕ) (bytes : List ℕ) (r : Result Reading Refusal) where
  pub shown_told : reading_of bytes r ≡ read b t n (window_of space first bytes) → ReadAt (start_for b t n first) bytes r → shown_of r ≡ shown b t n space first bytes
  unfolding shown
  shown_told e h = shown_at_law (start_for b t n first) bytes r h ∙ ap (showing (start_for b t n first)) e

pub ruleset testing = (plan_tested, other_tested, rules)
