-- The whole answers: the check, the search and what is done with the setting.
use mathlib.Core.Path.{◌≡◌, sym, ap, ◌∙◌}
use mathlib.Core.List.{List}
use Prim.Native.Nat.{ℕ, ◌-◌}
use borrow.Author.Rules.{rules}
use Rattle.std.specs.Prelude.{Result, Ok, Err}
use lib.IntN.{ℤ}
use lib.ListN.{take, drop}
use Rattle.cdi.specs.Faults.{Fault, fault, Answer, accepted, refused, ◌and_then◌}
use Rattle.cdi.specs.Planning.{Description, described}
use Rattle.cdi.specs.Access.{Window, Value, exact, setting_in, setting_of, first_cause, write_causes, written, write_into, window_after, read_from, read}
use Rattle.cdi.proofs.Quiet.{impossible}
use Rattle.access_lookup.specs.Told.{end_in, known_of, lookup_of, Fits}
use Rattle.access_checked.specs.Told.{checked_of}
use Rattle.access_kinds.specs.Told.{setting_is, Good, window_of}
use Rattle.access_writing.specs.Told.{written_of}
use Rattle.access_reading.specs.Told.{reading_of, ReadAt}
use Rattle.access.specs.Told.{start_for}
use Rattle.refusals.specs.declared.Refusal.{Refusal}
use Rattle.refusals.specs.Refusals.{refusal, fault_of}
use Rattle.access_kinds.specs.declared.Setting.{Setting}
use Rattle.access_reading.specs.declared.Reading.{Reading}
use Rattle.access_lookup.proofs.Seeking.{lent, known_end}
use Rattle.access_reading.proofs.Fetching.{refused_anywhere}

-- ── a setting that is refused ──

module _ (b : List ℕ) (t : List ℤ) (n : ℕ) {f : Fault} (e : setting_of b t n ≡ refused f) where
  unwritten : (w : Window) (v : Value) → written b t n w v ≡ refused f
  unfolding written
  unwritten w v = rw e

  unchanged : (w : Window) (v : Value) → window_after b t n w v ≡ w.bytes
  unfolding window_after
  unchanged w v = rw (e, window_after)

  unread : (w : Window) → read b t n w ≡ refused f
  unfolding read
  unread w = rw e

-- ── the check ──

pub not_known : (b : List ℕ) (t : List ℤ) (n : ℕ) (f : Fault) → known_of b t ≡ refused f → setting_of b t n ≡ refused f
unfolding known_of setting_of
not_known b t n f e = by (described b and_then exact t) e
  where
    by : (a : Answer Description) → (a and_then λ d. accepted (end_in b)) ≡ refused f → (a and_then setting_in t n) ≡ refused f
    by (accepted d) x = impossible (cc)
    by (refused g) x = cc

module _ (b : List ℕ) (t : List ℤ) {a : Result ℕ Refusal} (e : checked_of a ≡ known_of b t) where
  pub checked_exact : {z : ℕ} → a ≡ Ok z → known_of b t ≡ accepted z
  unfolding checked_of
  checked_exact q = sym e ∙ ap checked_of q

  module _ (m : ℕ) {r : Refusal} (q : a ≡ Err r) where
    is_refused : setting_of b t m ≡ refused (fault_of r)
    unfolding checked_of
    is_refused = not_known b t m (fault_of r) (sym e ∙ ap checked_of q)

    pub check_unwritten : (w : Window) (v : Value) → written_of (Err r) ≡ written b t m w v
    unfolding written_of
    check_unwritten w v = sym (unwritten b t m is_refused w v)

    pub check_unchanged : (space first : ℕ) (bytes : List ℕ) (v : Value) → bytes ≡ window_after b t m (window_of space first bytes) v
    check_unchanged space first bytes v = sym (unchanged b t m is_refused (window_of space first bytes) v)

    pub check_unread : (space first : ℕ) (bytes : List ℕ) → reading_of bytes (Err r) ≡ read b t m (window_of space first bytes)
    unfolding reading_of
    check_unread space first bytes = sym (unread b t m is_refused (window_of space first bytes))

pub ruleset checking_first = (checked_exact, check_unwritten, check_unchanged, check_unread, refused_anywhere, rules)

-- ── the setting ──

module _ (b : List ℕ) (t : List ℤ) (n : ℕ) (e : ℕ) {a : Result Setting Refusal} (s : lookup_of (take e b) a ≡ setting_of b t n) where
  -- there is none
  module _ {r : Refusal} (q : a ≡ Err r) where
    is_none : setting_of b t n ≡ refused (fault_of r)
    unfolding lookup_of
    is_none = sym s ∙ ap (lookup_of (take e b)) q

    pub none_written : (w : Window) (v : Value) → written_of (Err r) ≡ written b t n w v
    unfolding written_of
    none_written w v = sym (unwritten b t n is_none w v)

    pub none_changed : (space first : ℕ) (bytes : List ℕ) (v : Value) → bytes ≡ window_after b t n (window_of space first bytes) v
    none_changed space first bytes v = sym (unchanged b t n is_none (window_of space first bytes) v)

    pub none_read : (space first : ℕ) (bytes : List ℕ) → reading_of bytes (Err r) ≡ read b t n (window_of space first bytes)
    unfolding reading_of
    none_read space first bytes = sym (unread b t n is_none (window_of space first bytes))

  -- there is one
  module _ {x : Setting} (q : a ≡ Ok x) where
    is_setting : setting_of b t n ≡ accepted (setting_is (take e b) x)
    unfolding lookup_of
    is_setting = sym s ∙ ap (lookup_of (take e b)) q

    pub setting_good : Fits (take e b) a → Good (take (e - 0) (drop 0 b)) x
    unfolding Fits
    setting_good f = rw (lent b e) (rw q at f)

    pub setting_written : (r : Result (Unit {0}) Refusal) (w : Window) (v : Value) → written_of r ≡ first_cause (write_causes w v (setting_is (take (e - 0) (drop 0 b)) x)) → written_of r ≡ written b t n w v
    unfolding written
    setting_written r w v z = (rw (lent b e) at z) ∙ sym (rw is_setting)

    pub setting_changed : {bytes' : List ℕ} (w : Window) (v : Value) → bytes' ≡ write_into w v (setting_is (take (e - 0) (drop 0 b)) x) → bytes' ≡ window_after b t n w v
    unfolding window_after
    setting_changed w v z = (rw (lent b e) at z) ∙ sym (rw (is_setting, window_after))

    pub setting_read : (r : Result Reading Refusal) (bytes : List ℕ) (w : Window) → reading_of bytes r ≡ read_from w (setting_is (take (e - 0) (drop 0 b)) x) → reading_of bytes r ≡ read b t n w
    unfolding read
    setting_read r bytes w z = (rw (lent b e) at z) ∙ sym (rw is_setting)

    pub setting_start : (r : Result Reading Refusal) (bytes : List ℕ) (first : ℕ) → ReadAt (x.address - first) bytes r → ReadAt (start_for b t n first) bytes r
    unfolding start_for setting_is
    setting_start r bytes first z = rw (is_setting, start_for) z

pub ruleset accessing = (known_end, none_written, none_changed, none_read, setting_good, setting_written, setting_changed, setting_read, setting_start, refused_anywhere, rules)
