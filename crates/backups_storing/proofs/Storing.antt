-- Storing, way by way.
use mathlib.Core.Path.{◌≡◌, refl, sym, ap, ◌∙◌}
use mathlib.Core.List.{List, ◌++◌}
use mathlib.Core.Bool.{Bool, true, false, ◌&&◌}
use mathlib.Core.Logic.{◌⊎◌, inl, inr}
use Prim.Native.Nat.{ℕ, ◌+◌, ◌*◌, ◌/◌, ◌%◌, min, ◌^◌, ◌<◌, ◌≤◌}
use native.Mathlib.Omega.{arith}
use borrow.Author.Rules.{rules}
use borrow.Author.Tests.{le-leb, lt-leb}
use lib.ListN.{length, drop}
use Rattle.cdi.specs.Lists.{between}
use Rattle.cdi.specs.Faults.{fault, accepted, refused}
use Rattle.cdi.proofs.Tests.{both}
use Rattle.std.specs.Prelude.{Ok, Err}
use Rattle.refusals.specs.Refusals.{refusal}
use Rattle.blocks.specs.Backups.{kept, output_after, blocks_for, blocks_from, backup, is_storable, storing, after_storing}
use Rattle.backups_storing.specs.Told.{stored_of}
use Rattle.blocks_laws.proofs.Back.{length_backup}
use Rattle.blocks_laws.proofs.Promises.{storing_refused}

module _ (sp : ℕ) (s out : List ℕ) where
  -- ── 40 ──

  unstorable : is_storable (kept sp s) ≡ false → storing (kept sp s) out ≡ refused (fault 40 0)
  unfolding storing
  unstorable h = rw h

  -- it is empty, or too long, or of a space that no block can say
  unfit : (length s < 1) ⊎ ((4294967296 < length s) ⊎ (255 < sp)) → is_storable (kept sp s) ≡ false
  unfolding is_storable between
  unfit (inl h) = rw (lt-leb 1 (length s) h)
  unfit (inr (inl h)) = rw (le-leb 1 (length s) (omega arith), lt-leb (length s) (2 ^ 32) h)
  unfit (inr (inr h)) = rw (lt-leb sp 255 h) (by (between 1 (2 ^ 32) (length s)))
    where
      by : (b : Bool) → (b && false) ≡ false
      by true = refl
      by false = refl

  pub unfit_told : (length s < 1) ⊎ ((4294967296 < length s) ⊎ (255 < sp)) → stored_of (Err (refusal 40 0)) ≡ storing (kept sp s) out
  unfolding stored_of
  unfit_told h = sym (unstorable (unfit h))

  pub unfit_left : (length s < 1) ⊎ ((4294967296 < length s) ⊎ (255 < sp)) → out ≡ after_storing (kept sp s) out
  unfit_left h = sym (storing_refused (kept sp s) out (fault 40 0) (unstorable (unfit h)))

  module _ (low : 1 ≤ length s) (high : length s ≤ 4294967296) where
    -- ── 41, or stored ──

    module _ (small : sp ≤ 255) (n : ℕ) (count : n ≡ length s / 502 + min 1 (length s % 502)) where
      good : is_storable (kept sp s) ≡ true
      unfolding is_storable between
      good = both (both (le-leb 1 (length s) low) (le-leb (length s) (2 ^ 32) high)) (le-leb sp 255 small)

      blocks : blocks_for (length s) ≡ n
      unfolding blocks_for
      blocks = omega arith

      size : length (backup (kept sp s)) ≡ 512 * n
      size = length_backup (kept sp s) good ∙ ap (λ m. 512 * m) blocks

      narrow : length out < 512 * n → storing (kept sp s) out ≡ refused (fault 41 0)
      unfolding storing
      narrow h = rw (good, lt-leb (length (backup (kept sp s))) (length out) (omega (arith, size)))

      pub narrow_told : length out < 512 * n → stored_of (Err (refusal 41 0)) ≡ storing (kept sp s) out
      unfolding stored_of
      narrow_told h = sym (narrow h)

      pub narrow_left : length out < 512 * n → out ≡ after_storing (kept sp s) out
      narrow_left h = sym (storing_refused (kept sp s) out (fault 41 0) (narrow h))

      fits : 512 * n ≤ length out → storing (kept sp s) out ≡ accepted (512 * n)
      unfolding storing
      fits h = rw (good, le-leb (length (backup (kept sp s))) (length out) (omega (arith, size))) (ap (λ (m : ℕ). accepted m) size)

      pub stored_told : 512 * n ≤ length out → stored_of (Ok (512 * n)) ≡ storing (kept sp s) out
      unfolding stored_of
      stored_told h = sym (fits h)

      pub stored_left : (y : List ℕ) → 512 * n ≤ length out → y ≡ blocks_from 0 n sp s
          → y ++ drop (512 * n) out ≡ after_storing (kept sp s) out
      unfolding after_storing output_after backup
      stored_left y h e = rw (fits h, size, blocks, e)

pub ruleset storing_ways = (narrow_told, narrow_left, stored_told, stored_left, rules)
