-- One answer: any two results that a contract allows are the same, and so is the window afterwards. (A setting's content is known by what it holds, not
-- by its place: see the decision on places. `first_cause`, `is_inside` and `read_cause` have equations for contracts.)
use mathlib.Core.Path.{◌≡◌, refl, sym, ap, ◌∙◌}
use mathlib.Core.List.{List}
use mathlib.Core.Bool.{Bool, true, false, cond}
use Prim.Native.Nat.{ℕ, ◌-◌, ◌≤◌, ◌<◌}
use native.Mathlib.Omega.{arith}
use borrow.Author.Tests.{eqb-true}
use lib.Dec.{eqb}
use lib.IntN.{ℤ}
use lib.ListN.{length, take, drop, length-take, length-drop}
use Rattle.cdi.specs.Faults.{Fault, fault, Answer, accepted, refused}
use Rattle.cdi.specs.Values.{with_sign}
use Rattle.cdi.specs.Access as A
use Rattle.cdi.specs.Access.{Window, Value, integer, event, string, setting_of, is_inside, written, window_after, read}
use Rattle.cdi.proofs.Quiet.{impossible, same_accepted, same_refused}
use Rattle.cdi.proofs.Signs.{up, down, down_negative}
use Rattle.access_lookup.specs.Told.{known_of, lookup_of}
use Rattle.access_checked.specs.Told.{checked_of}
use Rattle.access_kinds.specs.Told.{window_of, Decides}
use Rattle.access_order.specs.Told.{cause_of}
use Rattle.access_writing.specs.Told.{written_of}
use Rattle.access_reading.specs.Told.{reading_of, ReadAt}
use Rattle.access.specs.Told.{start_for}
use Rattle.access_kinds.specs.declared.Setting.{Setting}
use Rattle.refusals.specs.declared.Refusal.{Refusal}
use Rattle.refusals.specs.Refusals.{refusal}
use Rattle.std.specs.Prelude.{Option, Some, None, Result, Ok, Err}
use Rattle.access_reading.specs.declared.Reading.{Reading}
use Rattle.access_reading.specs.declared.Reading.TheVariants as reading

module _ {A : Type 0} where
  once : {x r q : A} → r ≡ x → q ≡ x → r ≡ q
  once e f = e ∙ sym f

-- ── the check, and the setting ──

checked_alike : (r q : Result ℕ Refusal) → checked_of r ≡ checked_of q → r ≡ q
unfolding checked_of
checked_alike (Ok e) (Ok f) z = ap Ok (same_accepted z)
checked_alike (Ok e) (Err f) z = impossible (cc)
checked_alike (Err f) (Ok e) z = impossible (cc)
checked_alike (Err f) (Err g) z = ap (λ (x : Fault). Err (refusal x.number x.place)) (same_refused z)

module _ (b : List ℕ) (t : List ℤ) where
  -- of access_checked::check
  pub check_once : (r q : Result ℕ Refusal) → checked_of r ≡ known_of b t → checked_of q ≡ known_of b t → r ≡ q
  check_once r q e f = checked_alike r q (once e f)

  -- of access_lookup::seek
  pub seek_once : (n : ℕ) (c : List ℕ) (r q : Result Setting Refusal) → lookup_of c r ≡ setting_of b t n → lookup_of c q ≡ setting_of b t n → lookup_of c r ≡ lookup_of c q
  seek_once n c r q e f = once e f

-- ── the causes ──

cause_alike : (r q : Option ℕ) → cause_of r ≡ cause_of q → r ≡ q
unfolding cause_of
cause_alike None None e = refl
cause_alike None (Some n) e = impossible (cc)
cause_alike (Some n) None e = impossible (cc)
cause_alike (Some n) (Some m) e = ap (λ (f : Fault). Some f.number) (same_refused e)

-- there is a window in which the variable lies, or doesn't, as is said
-- of access_causes::write_cause
pub write_cause_once : (s : A.Setting) (i : Bool) (v : Value) (w : Window) → i ≡ is_inside w s.variable → (r q : Option ℕ) → Decides s i v r → Decides s i v q → r ≡ q
write_cause_once s i v w e r q x y = cause_alike r q (once (x.of w e) (y.of w e))

-- ── writing ──

written_alike : (r q : Result (Unit {0}) Refusal) → written_of r ≡ written_of q → r ≡ q
unfolding written_of
written_alike (Ok u) (Ok o) z = refl
written_alike (Ok u) (Err f) z = impossible (cc)
written_alike (Err f) (Ok u) z = impossible (cc)
written_alike (Err f) (Err g) z = ap (λ (x : Fault). Err (refusal x.number x.place)) (same_refused z)

-- of a setting that is known
-- of access_writing::store
pub store_once : (a : Answer (Unit {0})) (r q : Result (Unit {0}) Refusal) → written_of r ≡ a → written_of q ≡ a → r ≡ q
store_once a r q e f = written_alike r q (once e f)

module _ (b : List ℕ) (t : List ℤ) (n : ℕ) (w : Window) (v : Value) where
  -- of access::write_integer, access::write_event, access::write_text, access::write_known
  pub write_once : (r q : Result (Unit {0}) Refusal) → written_of r ≡ written b t n w v → written_of q ≡ written b t n w v → r ≡ q
  write_once r q e f = written_alike r q (once e f)

  -- of access::write_integer, access::write_event, access::write_text, access::write_known
  pub window_once : (u o : List ℕ) → u ≡ window_after b t n w v → o ≡ window_after b t n w v → u ≡ o
  window_once u o e f = once e f

-- ── reading ──

-- a sign and a magnitude, where zero isn't negative
signs : (b d : Bool) (m n : ℕ) → (b ≡ true → 0 < m) → (d ≡ true → 0 < n) → with_sign b m ≡ with_sign d n → (b ≡ d) × (m ≡ n)
unfolding with_sign up down
signs true true m n x y e = (refl, omega (arith, ap down e, down_negative m, down_negative n))
signs true false m n x y e = let z = x refl in absurd (omega (arith, ap down e, down_negative m))
signs false true m n x y e = let z = y refl in absurd (omega (arith, ap down e, down_negative n))
signs false false m n x y e = (refl, omega (arith, ap up e))

module _ (at : ℕ) (bytes : List ℕ) where
  texts : (i j k l : ℕ) → i ≡ at → k ≡ at → i ≤ j → k ≤ l → j ≤ length bytes → l ≤ length bytes → take (j - i) (drop i bytes) ≡ take (l - k) (drop k bytes) → (i ≡ k) × (j ≡ l)
  texts i j k l a b c d e f g =
      let p : length (take (j - i) (drop i bytes)) ≡ j - i = simp (length-take, length-drop) (omega arith) in
      let q : length (take (l - k) (drop k bytes)) ≡ l - k = simp (length-take, length-drop) (omega arith) in
      (omega arith, omega (arith, p, q, ap length g))

  value_of : {x y : A.Reading} → x ≡ y → x.value ≡ y.value
  value_of e = ap (λ (r : A.Reading). r.value) e

  flag_of : {x y : A.Reading} → x ≡ y → x.writable ≡ y.writable
  flag_of e = ap (λ (r : A.Reading). r.writable) e

  same_integer : {x y : ℤ} → integer x ≡ integer y → x ≡ y
  same_integer e = cc

  same_event : {x y : ℕ} → event x ≡ event y → x ≡ y
  same_event e = cc

  same_string : {x y : List ℕ} → string x ≡ string y → x ≡ y
  same_string e = cc

  reading_alike : (r q : Result Reading Refusal) → ReadAt at bytes r → ReadAt at bytes q → reading_of bytes r ≡ reading_of bytes q → r ≡ q
  unfolding reading_of ReadAt
  reading_alike (Ok (reading.Integer b m f)) (Ok (reading.Integer d n g)) x y z =
      let s = same_accepted z in
      let k = signs b d m n x y (same_integer (value_of s)) in
      let i = k.0 in
      let j = k.1 in
      let o = flag_of s in
      cc
  reading_alike (Ok (reading.Integer b m f)) (Ok (reading.Event v g)) x y z = let v = value_of (same_accepted z) in impossible (cc)
  reading_alike (Ok (reading.Integer b m f)) (Ok (reading.Text i j g)) x y z = let v = value_of (same_accepted z) in impossible (cc)
  reading_alike (Ok (reading.Integer b m f)) (Err e) x y z = impossible (cc)
  reading_alike (Ok (reading.Event v f)) (Ok (reading.Integer d n g)) x y z = let v = value_of (same_accepted z) in impossible (cc)
  reading_alike (Ok (reading.Event v f)) (Ok (reading.Event o g)) x y z =
      let s = same_accepted z in
      let i = same_event (value_of s) in
      let k = flag_of s in
      cc
  reading_alike (Ok (reading.Event v f)) (Ok (reading.Text i j g)) x y z = let v = value_of (same_accepted z) in impossible (cc)
  reading_alike (Ok (reading.Event v f)) (Err e) x y z = impossible (cc)
  reading_alike (Ok (reading.Text i j f)) (Ok (reading.Integer d n g)) x y z = let v = value_of (same_accepted z) in impossible (cc)
  reading_alike (Ok (reading.Text i j f)) (Ok (reading.Event v g)) x y z = let v = value_of (same_accepted z) in impossible (cc)
  reading_alike (Ok (reading.Text i j f)) (Ok (reading.Text k l g)) x y z =
      let s = same_accepted z in
      let h = texts i j k l x.0 y.0 x.1 y.1 x.2 y.2 (same_string (value_of s)) in
      let m = h.0 in
      let o = h.1 in
      let p = flag_of s in
      cc
  reading_alike (Ok (reading.Text i j f)) (Err e) x y z = impossible (cc)
  reading_alike (Err e) (Ok (reading.Integer d m g)) x y z = impossible (cc)
  reading_alike (Err e) (Ok (reading.Event v g)) x y z = impossible (cc)
  reading_alike (Err e) (Ok (reading.Text i j g)) x y z = impossible (cc)
  reading_alike (Err f) (Err g) x y z = ap (λ (e : Fault). Err (refusal e.number e.place)) (same_refused z)

-- of a setting that is known
-- of access_reading::fetch
pub fetch_once : (at : ℕ) (bytes : List ℕ) (a : Answer A.Reading) (r q : Result Reading Refusal) → reading_of bytes r ≡ a → reading_of bytes q ≡ a → ReadAt at bytes r → ReadAt at bytes q → r ≡ q
fetch_once at bytes a r q e f x y = reading_alike at bytes r q x y (once e f)

module _ (b : List ℕ) (t : List ℤ) (n space first : ℕ) (bytes : List ℕ) where
  -- of access::read, access::read_known
  pub read_once : (r q : Result Reading Refusal) → reading_of bytes r ≡ read b t n (window_of space first bytes) → reading_of bytes q ≡ read b t n (window_of space first bytes)
      → ReadAt (start_for b t n first) bytes r → ReadAt (start_for b t n first) bytes q → r ≡ q
  read_once r q e f x y = reading_alike (start_for b t n first) bytes r q x y (once e f)
