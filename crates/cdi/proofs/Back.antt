-- "An accepted write stores the value as the standard says, changes no byte outside that variable, and reading back before any other write
-- gives the value."
use mathlib.Core.Path.{◌≡◌, refl, sym, ap, ◌∙◌}
use mathlib.Core.List.{List, [], ◌∷◌, ◌++◌}
use mathlib.Core.Bool.{Bool, true, false, not, ◌&&◌, ◌||◌, false≢true, or-false}
use Prim.Native.Nat.{ℕ, zero, suc, ◌+◌, ◌-◌, ◌^◌, ◌<◌, ◌≤◌}
use native.Mathlib.Nat.{zero-add}
use native.Mathlib.Omega.{arith}
use borrow.Author.Tests.{eqb-true, leb-true, ltb-true, not-true, not-false, eqb-false}
use lib.Dec.{eqb, leb, ltb}
use lib.IntN.{ℤ, pos}
use lib.ListN.{length, take, drop, get_or, replicate, length-append, length-replicate, length-drop, get_or-append}
use lib.Seq.{take_at, drop_at, length-take-le, get_or-take, get_or-drop, get_or-append-add}
use Rattle.cdi.specs.Lists.{any}
use Rattle.cdi.specs.Faults.{Fault, fault, Answer, accepted, refused, ◌and_then◌, is_accepted}
use Rattle.cdi.specs.Numbers.{within}
use Rattle.cdi.specs.Text.{is_utf8}
use Rattle.cdi.specs.Rules.{bounds_of, storable, smallest, largest}
use Rattle.cdi.specs.Walk.{Found}
use Rattle.cdi.specs.Plans.{size_fits, one_of}
use Rattle.cdi.specs.Table.{same_number}
use Rattle.cdi.specs.Values.{complement, padded}
use Rattle.cdi.specs.Access.{Window, Value, integer, event, string, Setting, setting_of, kind_of_value, in_bounds, is_good_text, is_admitted, is_inside, is_float, is_mapped_event, first_cause, write_causes, read_causes, stored, overwritten, start_in, written, write_into, window_after, own_bytes, text_in, value_in, read_from, read}
use Rattle.cdi.proofs.Bytes.{length_bytes, value_of_bytes, complement_fits, uncomplement_complement}
use Rattle.cdi.specs.Settings.{SettingFits}
use Rattle.cdi.proofs.Signs.{le_trans}
use Rattle.cdi.proofs.Tests.{parts, ends, in_range, neither_left}
use Rattle.cdi.proofs.Zero.{NoZero, zero_at}

-- ── causes ──

clash : {A : Type 0} (f : Fault) (u : Unit {0}) → ◌≡◌ {A = Answer (Unit {0})} (refused f) (accepted u) → A
clash f u e = let z : ◌≡◌ {A = ℕ} 0 1 = cc in absurd (omega arith)

passes : (x : Bool) (k : ℕ) (cs : List (Bool × ℕ)) → first_cause ((x, k) ∷ cs) ≡ accepted tt → (x ≡ false) × (first_cause cs ≡ accepted tt)
unfolding first_cause
passes true k cs e = clash (fault k 0) tt e
passes false k cs e = (refl, e)

-- what an accepted write has passed
pub record Passed (w : Window) (v : Value) (s : Setting) : Type 0 where
  pub allowed : (is_float s || is_mapped_event s) ≡ false
  pub kind : kind_of_value v ≡ s.variable.kind
  pub bounds : in_bounds s v ≡ true
  pub text : is_good_text s v ≡ true
  pub mapped : is_admitted s v ≡ true
  pub inside : is_inside w s.variable ≡ true

pub passed : (w : Window) (v : Value) (s : Setting) → first_cause (write_causes w v s) ≡ accepted tt → Passed w v s
unfolding write_causes
passed w v s e =
    let a = passes _ 27 _ e in
    let b = passes _ 22 _ a.1 in
    let c = passes _ 23 _ b.1 in
    let d = passes _ 25 _ c.1 in
    let f = passes _ 24 _ d.1 in
    let g = passes _ 26 _ f.1 in
    record {
      allowed = a.0;
      kind = eqb-true _ _ (not-false _ b.0);
      bounds = not-false _ c.0;
      text = not-false _ d.0;
      mapped = not-false _ f.0;
      inside = not-false _ g.0;
    }

-- ── the window ──

-- where the variable lies in it
pub record Lies (w : Window) (v : Found) : Type 0 where
  pub space : w.space ≡ v.space
  pub low : w.first ≤ v.address
  pub high : v.address + v.size ≤ w.first + length w.bytes

pub lies : (w : Window) (v : Found) → is_inside w v ≡ true → Lies w v
unfolding is_inside
lies w v h =
    let a = parts (eqb w.space v.space) (leb w.first v.address && leb (v.address + v.size) (w.first + length w.bytes)) h in
    let b = parts (leb w.first v.address) (leb (v.address + v.size) (w.first + length w.bytes)) a.1 in
    record { space = eqb-true _ _ a.0; low = leb-true _ _ b.0; high = leb-true _ _ b.1 }

module _ (at : ℕ) (new bytes : List ℕ) (fits : at + length new ≤ length bytes) where
  before : length (take at bytes) ≡ at
  before = length-take-le at bytes (omega arith)

  pub length_overwritten : length (overwritten at new bytes) ≡ length bytes
  unfolding overwritten
  length_overwritten = simp (length-append, length-drop) (omega (arith, before))

  -- the variable's bytes are the new ones
  pub own_overwritten : take (length new) (drop at (overwritten at new bytes)) ≡ new
  unfolding overwritten
  own_overwritten = rw (drop_at (take at bytes) (new ++ drop (at + length new) bytes) at before) (take_at new (drop (at + length new) bytes) (length new) refl)

  -- the bytes before it and behind it are as they were
  pub before_overwritten : (i d : ℕ) → i < at → get_or (overwritten at new bytes) i d ≡ get_or bytes i d
  unfolding overwritten
  before_overwritten i d l = get_or-append (take at bytes) _ d i (omega (arith, before)) ∙ get_or-take at bytes i d l

  pub behind_overwritten : (i d : ℕ) → at + length new ≤ i → get_or (overwritten at new bytes) i d ≡ get_or bytes i d
  unfolding overwritten
  behind_overwritten i d l =
      let j = i - (at + length new) in
      let rest = drop (at + length new) bytes in
      let e : i ≡ length (take at bytes) + (length new + j) = omega (arith, before) in
      let f : at + length new + j ≡ i = omega arith in
      ap (λ k. get_or (take at bytes ++ (new ++ rest)) k d) e
      ∙ get_or-append-add (take at bytes) (new ++ rest) (length new + j) d
      ∙ get_or-append-add new rest j d
      ∙ get_or-drop (at + length new) bytes j d
      ∙ ap (λ k. get_or bytes k d) f

-- ── what is stored ──

no_zero : (s : List ℕ) → any (eqb 0) s ≡ false → NoZero s
unfolding NoZero any
no_zero [] h = tt
no_zero (b ∷ s) h = by (eqb 0 b) refl h (no_zero s)
  where
    by : (x : Bool) → eqb 0 b ≡ x → (x || any (eqb 0) s) ≡ false → (any (eqb 0) s ≡ false → NoZero s) → (b ≡ 0 → ⊥) × NoZero s
    by true e h rest = absurd (false≢true (sym h))
    by false e h rest = ((λ z. eqb-false 0 b e (sym z)), rest h)

-- a text that may be written
pub record GoodText (s : Setting) (t : List ℕ) : Type 0 where
  pub zeros : any (eqb 0) t ≡ false
  pub utf8 : is_utf8 t ≡ true
  pub short : length t < s.variable.size

pub good_text : (s : Setting) (t : List ℕ) → is_good_text s (string t) ≡ true → GoodText s t
unfolding is_good_text
good_text s t h =
    let a = parts (not (any (eqb 0) t)) (is_utf8 t && ltb (length t) s.variable.size) h in
    let b = parts (is_utf8 t) (ltb (length t) s.variable.size) a.1 in
    record { zeros = not-true _ a.0; utf8 = b.0; short = ltb-true _ _ b.1 }

-- as many bytes as the variable has
length_stored : (s : Setting) (v : Value) → is_good_text s v ≡ true → length (stored s.variable.size v) ≡ s.variable.size
unfolding stored padded
length_stored s (integer z) h = length_bytes _ _
length_stored s (event e) h = length_bytes _ _
length_stored s (string t) h =
    let g = (good_text s t h).short in
    simp (length-append, length-replicate) (omega arith)

-- ── what is read of it ──

-- text reads back up to its first zero
text_back : (n : ℕ) (t : List ℕ) → any (eqb 0) t ≡ false → is_utf8 t ≡ true → length t < n → text_in (padded n t) ≡ accepted (string t)
unfolding text_in padded
text_back n t z u l =
    let e : n - length t ≡ suc (n - length t - 1) = omega arith in
    rw (e, zero_at 0 t (replicate (n - length t - 1) 0) (no_zero t z), zero-add, take_at t (0 ∷ replicate (n - length t - 1) 0) (length t) refl, u)

-- a number between two that can be stored can be stored
pub storable_between : (signed : Bool) (n : ℕ) (lo hi z : ℤ) → storable signed n lo ≡ true → storable signed n hi ≡ true → within lo hi z ≡ true → storable signed n z ≡ true
unfolding storable
storable_between signed n lo hi z a b h =
    let l = (ends (smallest signed n) (largest signed n) lo a).0 in
    let r = (ends (smallest signed n) (largest signed n) hi b).1 in
    let m = ends lo hi z h in
    in_range (smallest signed n) (largest signed n) z (le_trans (smallest signed n) lo z l m.0) (le_trans z hi (largest signed n) m.1 r)

-- the sizes of ints, eventids and strings
pub size_at_least : (k n : ℕ) → size_fits k (pos n) ≡ true → k ≡ 3 → 1 ≤ n
unfolding size_fits one_of any same_number
size_at_least k zero h e = absurd (false≢true (rw e at h))
size_at_least k (suc n) h e = omega arith

pub event_size : (k n : ℕ) → size_fits k (pos n) ≡ true → k ≡ 5 → n ≡ 8
unfolding size_fits one_of any same_number
event_size k n h e = eqb-true n 8 (sym (or-false (eqb n 8)) ∙ (rw e at h))

-- an event ID has 64 bits
unfoldable pub SixtyFour : Value → Type 0
SixtyFour (integer z) = Unit
SixtyFour (event e) = e < 2 ^ 64
SixtyFour (string t) = Unit

value_back : (w : Window) (v : Value) (s : Setting) → SettingFits s → SixtyFour v → Passed w v s → value_in s (stored s.variable.size v) ≡ accepted v
unfolding value_in stored SixtyFour kind_of_value in_bounds
value_back w (integer z) s f b p =
    let n = s.variable.size in
    let k : s.variable.kind ≡ 3 = sym p.kind in
    let bs = bounds_of n s.content in
    let l = size_at_least s.variable.kind n f.sized k in
    let g = storable_between bs.signed n bs.min bs.max z (f.low k) (f.high k) p.bounds in
    rw (k, value_of_bytes n (complement n z) (complement_fits bs.signed n z l g), uncomplement_complement bs.signed n z l g)
value_back w (event e) s f b p =
    let k : s.variable.kind ≡ 5 = sym p.kind in
    let z = event_size s.variable.kind s.variable.size f.sized k in
    rw (k, z, value_of_bytes 8 e b)
value_back w (string t) s f b p =
    let k : s.variable.kind ≡ 4 = sym p.kind in
    let g = good_text s t p.text in
    rw k (text_back s.variable.size t g.zeros g.utf8 g.short)

-- ── writing and reading ──

-- the window with other bytes
unfoldable pub holding : Window → List ℕ → Window
holding w bytes = record { space = w.space; first = w.first; bytes = bytes }

unwritten : (b : List ℕ) (t : List ℤ) (n : ℕ) (w : Window) (v : Value) (f : Fault) → setting_of b t n ≡ refused f → window_after b t n w v ≡ w.bytes
unfolding window_after
unwritten b t n w v f e = rw (e, window_after)

unstored : (b : List ℕ) (t : List ℤ) (n : ℕ) (w : Window) (v : Value) (s : Setting) (f : Fault) → setting_of b t n ≡ accepted s → first_cause (write_causes w v s) ≡ refused f → window_after b t n w v ≡ w.bytes
unfolding window_after write_into is_accepted
unstored b t n w v s f e c = rw (e, window_after, c)

-- a setting is found once
same_setting : (b : List ℕ) (t : List ℤ) (n : ℕ) (w : Window) (v : Value) (s : Setting) → setting_of b t n ≡ accepted s → written b t n w v ≡ accepted tt → first_cause (write_causes w v s) ≡ accepted tt
unfolding written
same_setting b t n w v s f e = rw f at e

reads : (w : Window) (s : Setting) (v : Value) → first_cause (read_causes w s) ≡ accepted tt → value_in s (own_bytes w s.variable) ≡ accepted v
    → first_cause (write_causes w v s) ≡ accepted tt → read_from w s ≡ accepted (record { value = v; writable = true })
unfolding read_from is_accepted
reads w s v a b c = rw (a, b, c)

-- what an accepted write does to the window
module _ (b : List ℕ) (t : List ℤ) (n : ℕ) (w : Window) (v : Value) (s : Setting) (found : setting_of b t n ≡ accepted s) (e : written b t n w v ≡ accepted tt) where
  at : ℕ
  at = start_in w s.variable

  new : List ℕ
  new = stored s.variable.size v

  all_passed : Passed w v s
  all_passed = passed w v s (same_setting b t n w v s found e)

  new_length : length new ≡ s.variable.size
  unfolding new
  new_length = length_stored s v all_passed.text

  room : at + length new ≤ length w.bytes
  unfolding at start_in
  room =
      let l = lies w s.variable all_passed.inside in
      omega (arith, new_length, l.low, l.high)

  -- the window is the old one, but for the variable's bytes
  window_is : window_after b t n w v ≡ overwritten at new w.bytes
  unfolding window_after write_into is_accepted at new
  window_is = rw (found, window_after, same_setting b t n w v s found e)

  -- it has as many bytes as before
  pub same_length : length (window_after b t n w v) ≡ length w.bytes
  same_length = ap length window_is ∙ length_overwritten at new w.bytes room

  -- the variable's own bytes are those that stand for the value
  pub stores : take s.variable.size (drop (start_in w s.variable) (window_after b t n w v)) ≡ stored s.variable.size v
  unfolding at new
  stores =
      ap (λ x. take s.variable.size (drop at x)) window_is
      ∙ ap (λ k. take k (drop at (overwritten at new w.bytes))) (sym new_length)
      ∙ own_overwritten at new w.bytes room

  -- every byte before the variable is as before, and so is every byte behind it
  pub before_unchanged : (i d : ℕ) → i < start_in w s.variable → get_or (window_after b t n w v) i d ≡ get_or w.bytes i d
  unfolding at
  before_unchanged i d l = ap (λ x. get_or x i d) window_is ∙ before_overwritten at new w.bytes room i d l

  pub behind_unchanged : (i d : ℕ) → start_in w s.variable + s.variable.size ≤ i → get_or (window_after b t n w v) i d ≡ get_or w.bytes i d
  unfolding at
  behind_unchanged i d l = ap (λ x. get_or x i d) window_is ∙ behind_overwritten at new w.bytes room i d (omega (arith, new_length))

  -- writing the value again would be accepted
  again : first_cause (write_causes (holding w (window_after b t n w v)) v s) ≡ accepted tt
  unfolding write_causes is_inside holding
  again = rw same_length (same_setting b t n w v s found e)

  can_read : first_cause (read_causes (holding w (window_after b t n w v)) s) ≡ accepted tt
  unfolding read_causes first_cause is_inside holding is_float
  can_read = rw (neither_left (eqb s.variable.kind 6) (is_mapped_event s) all_passed.allowed, same_length, all_passed.inside)

  own_bytes_law : own_bytes (holding w (window_after b t n w v)) s.variable ≡ stored s.variable.size v
  unfolding own_bytes holding start_in
  own_bytes_law = stores

  -- reading gives the value, and that writing it would be accepted
  pub reads_back : SettingFits s → SixtyFour v → read b t n (holding w (window_after b t n w v)) ≡ accepted (record { value = v; writable = true })
  unfolding read
  reads_back f x = rw found (reads (holding w (window_after b t n w v)) s v can_read (rw own_bytes_law (value_back w v s f x all_passed)) again)

-- a refused write leaves the window as it was
pub refused_unchanged : (b : List ℕ) (t : List ℤ) (n : ℕ) (w : Window) (v : Value) (f : Fault) → written b t n w v ≡ refused f → window_after b t n w v ≡ w.bytes
unfolding written
refused_unchanged b t n w v f e = by (setting_of b t n) refl e
  where
    by : (a : Answer Setting) → setting_of b t n ≡ a → (a and_then λ s. first_cause (write_causes w v s)) ≡ refused f → window_after b t n w v ≡ w.bytes
    by (refused g) p e = unwritten b t n w v g p
    by (accepted s) p e = unstored b t n w v s f p e
