-- What writing and reading promise, of any call that meets the contract of `write_integer`, `write_event`, `write_text` or `write_known`: v is the value,
-- r the answer, and u the window's bytes afterwards.
use mathlib.Core.Path.{◌≡◌, sym, ap, ◌∙◌}
use mathlib.Core.List.{List}
use mathlib.Core.Bool.{true}
use Prim.Native.Nat.{ℕ, ◌+◌, ◌≤◌, ◌<◌}
use lib.IntN.{ℤ}
use lib.ListN.{length, take, drop, get_or}
use Rattle.cdi.specs.Faults.{fault, accepted}
use Rattle.cdi.specs.Access as A
use Rattle.cdi.specs.Access.{Window, Value, setting_of, first_cause, write_causes, stored, start_in, written, window_after, read}
use Rattle.cdi.proofs.Quiet.{through}
use Rattle.cdi.proofs.Back as back
use Rattle.cdi.proofs.Back.{SixtyFour, holding, refused_unchanged}
use Rattle.cdi.proofs.Promises.{written_reads_back}
use Rattle.access_kinds.specs.Told.{window_of}
use Rattle.access_writing.specs.Told.{written_of}
use Rattle.access_reading.specs.Told.{reading_of}
use Rattle.access_reading.specs.declared.Reading.{Reading}
use Rattle.refusals.specs.declared.Refusal.{Refusal}
use Rattle.refusals.specs.Refusals.{refusal}
use Rattle.std.specs.Prelude.{Result, Ok, Err}

module _ (b : List ℕ) (t : List ℤ) (n space first : ℕ) (bytes : List ℕ) (v : Value) where
  abbrev w : Window
  w = window_of space first bytes

  module _ {r : Result (Unit {0}) Refusal} {u : List ℕ} (answer : written_of r ≡ written b t n w v) (after : u ≡ window_after b t n w v) where
    -- a refusal leaves the window as it was
    pub refusal_writes_nothing : {m p : ℕ} → r ≡ Err (refusal m p) → u ≡ bytes
    unfolding written_of
    refusal_writes_nothing {m} {p} e = after ∙ refused_unchanged b t n w v (fault m p) (sym answer ∙ ap written_of e)

    module _ (e : r ≡ Ok tt) where
      is_written : written b t n w v ≡ accepted tt
      unfolding written_of
      is_written = sym answer ∙ ap written_of e

      -- there is such a variable
      pub variable_found : {P : Type 0} → ((s : A.Setting) → setting_of b t n ≡ accepted s → P) → P
      unfolding written
      variable_found f = through (setting_of b t n) (λ s. first_cause (write_causes w v s)) tt is_written λ s found causes. f s found

      module _ (s : A.Setting) (found : setting_of b t n ≡ accepted s) where
        -- its bytes are those that stand for the value
        pub value_stored : take s.variable.size (drop (start_in w s.variable) u) ≡ stored s.variable.size v
        value_stored = rw after (back.stores b t n w v s found is_written)

        -- the window is as long as before, and no other byte has changed
        pub length_kept : length u ≡ length bytes
        length_kept = rw after (back.same_length b t n w v s found is_written)

        pub before_kept : (i d : ℕ) → i < start_in w s.variable → get_or u i d ≡ get_or bytes i d
        before_kept i d l = rw after (back.before_unchanged b t n w v s found is_written i d l)

        pub behind_kept : (i d : ℕ) → start_in w s.variable + s.variable.size ≤ i → get_or u i d ≡ get_or bytes i d
        behind_kept i d l = rw after (back.behind_unchanged b t n w v s found is_written i d l)

      -- reading before any other write gives the value, and says that writing it would be accepted
      pub reads_back : SixtyFour v → (q : Result Reading Refusal) → reading_of u q ≡ read b t n (window_of space first u) → reading_of u q ≡ accepted (record { value = v; writable = true })
      unfolding holding
      reads_back x q z = z ∙ rw after (written_reads_back b t n w v x is_written)
