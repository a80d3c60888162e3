-- Reading, way by way.
use mathlib.Core.Path.{◌≡◌, refl, sym, ◌∙◌}
use mathlib.Core.List.{List, ◌++◌}
use mathlib.Core.Bool.{Bool, true, false, cond, ◌&&◌}
use mathlib.Core.Logic.{◌⊎◌, inl, inr}
use mathlib.Core.Option.{Option, none, some}
use lib.Dec.{leb}
use Prim.Native.Nat.{ℕ, ◌*◌, ◌/◌, ◌%◌, ◌<◌, ◌≤◌}
use native.Mathlib.Omega.{arith}
use borrow.Author.Rules.{rules}
use borrow.Author.Tests.{le-leb, lt-leb, eq-eqb, ne_eqb}
use lib.ListN.{length, drop}
use Rattle.cdi.specs.Faults.{Fault, fault, accepted, refused}
use Rattle.std.specs.Prelude.{Result, Ok, Err}
use Rattle.refusals.specs.Refusals.{refusal, fault_of}
use Rattle.refusals.specs.declared.Refusal.{Refusal}
use Rattle.backups_reading.specs.declared.Read.{Read}
use Rattle.blocks.specs.Blocks.{space}
use Rattle.blocks.specs.Backups.{kept, output_after, is_whole, first_bad, payloads, blocks_in, fault_in, window_in, reading, restored, room_for, restoring, after_restoring}
use Rattle.backups_judge.specs.Told.{bad_of}
use Rattle.backups_reading.specs.Told.{read_of}
use Rattle.blocks_laws.proofs.Promises.{restoring_refused}

-- ── the room ──

module _ (sp r : ℕ) (s out : List ℕ) (size : r ≡ length s) where
  narrow : length out < r → room_for out (kept sp s) ≡ refused (fault 41 0)
  unfolding room_for
  narrow h = rw (lt-leb (length s) (length out) (omega arith))

  wide : r ≤ length out → room_for out (kept sp s) ≡ accepted (restored (kept sp s))
  unfolding room_for
  wide h = rw (le-leb (length s) (length out) (omega arith))

  pub narrow_told : length out < r → read_of (Err (refusal 41 0)) ≡ room_for out (kept sp s)
  unfolding read_of
  narrow_told h = sym (narrow h)

  pub narrow_left : length out < r → out ≡ output_after (room_for out (kept sp s)) s out
  unfolding output_after
  narrow_left h = rw (narrow h)

  pub wide_told : r ≤ length out → read_of (Ok (record { size = r; space = sp })) ≡ room_for out (kept sp s)
  unfolding read_of restored
  wide_told h = sym (wide h ∙ rw (← size))

  pub wide_left : (y : List ℕ) → r ≤ length out → y ≡ s → y ++ drop r out ≡ output_after (room_for out (kept sp s)) s out
  unfolding output_after
  wide_left y h e = rw (wide h, size, e)

pub ruleset rooms = (narrow_told, narrow_left, wide_told, wide_left, rules)

-- ── a backup ──

module _ (b out : List ℕ) where
  refuses : (f : Fault) → fault_in b ≡ some f → restoring b out ≡ refused f
  unfolding restoring reading
  refuses f h = rw h

  told : (r : Refusal) → fault_in b ≡ some (fault_of r) → read_of (Err r) ≡ restoring b out
  unfolding read_of
  told r h = sym (refuses (fault_of r) h)

  left : (r : Refusal) → fault_in b ≡ some (fault_of r) → out ≡ after_restoring b out
  left r h = sym (restoring_refused b out (fault_of r) (refuses (fault_of r) h))

  -- it has no bytes, or a part of a block
  uneven : (length b < 1) ⊎ (length b % 512 ≡ 0 → ⊥) → fault_in b ≡ some (fault 42 0)
  unfolding fault_in is_whole
  uneven (inl h) = rw (lt-leb 1 (length b) h)
  uneven (inr h) = rw (ne_eqb (length b % 512) 0 h) (by (leb 1 (length b)))
    where
      by : (x : Bool) → cond (x && false) (first_bad 0 (blocks_in b) (space b) b) (some (fault 42 0)) ≡ some (fault 42 0)
      by true = refl
      by false = refl

  pub uneven_told : (length b < 1) ⊎ (length b % 512 ≡ 0 → ⊥) → read_of (Err (refusal 42 0)) ≡ restoring b out
  uneven_told h = told (refusal 42 0) (uneven h)

  pub uneven_left : (length b < 1) ⊎ (length b % 512 ≡ 0 → ⊥) → out ≡ after_restoring b out
  uneven_left h = left (refusal 42 0) (uneven h)

  module _ (low : 1 ≤ length b) (even : length b % 512 ≡ 0) (sp : ℕ) (its : sp ≡ space b) (r : Result Unit Refusal) (found : bad_of r ≡ first_bad 0 (length b / 512) sp b) where
    judged : fault_in b ≡ bad_of r
    unfolding fault_in is_whole blocks_in
    judged = rw (le-leb 1 (length b) low, eq-eqb (length b % 512) 0 even, ← its, found)

    pub bad_told : (f : Refusal) → r ≡ Err f → read_of (Err f) ≡ restoring b out
    unfolding bad_of
    bad_told f e = told f (judged ∙ rw e)

    pub bad_left : (f : Refusal) → r ≡ Err f → out ≡ after_restoring b out
    unfolding bad_of
    bad_left f e = left f (judged ∙ rw e)

    module _ (e : r ≡ Ok tt) where
      reads : restoring b out ≡ room_for out (kept sp (payloads (length b / 512) b))
      unfolding restoring reading bad_of window_in blocks_in
      reads = rw (judged, e, its)

      pub good_told : (q : Result Read Refusal) → read_of q ≡ room_for out (kept sp (payloads (length b / 512) b)) → read_of q ≡ restoring b out
      good_told q f = f ∙ sym reads

      pub good_left : (y : List ℕ) → y ≡ output_after (room_for out (kept sp (payloads (length b / 512) b))) (payloads (length b / 512) b) out → y ≡ after_restoring b out
      unfolding after_restoring window_in blocks_in
      good_left y f = f ∙ rw reads

-- what the window asks for
pub some_blocks : (b : List ℕ) → 1 ≤ length b → length b % 512 ≡ 0 → 1 ≤ length b / 512
some_blocks b l e = omega arith

pub whole_blocks : (b : List ℕ) → length b % 512 ≡ 0 → length b ≡ 512 * (length b / 512)
whole_blocks b e = omega arith

pub none_bad : (r : Result Unit Refusal) (o : Option Fault) → bad_of r ≡ o → r ≡ Ok tt → o ≡ none
unfolding bad_of
none_bad r o e f = sym e ∙ rw f

pub ruleset readings = (bad_told, bad_left, good_told, good_left, some_blocks, whole_blocks, none_bad, rules)
