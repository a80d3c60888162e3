-- One answer: any two outcomes that a call's contract allows are equal, its result, every number handed out and all lent memory. Each of them has an
-- equation with what came in. (A slice that isn't lent for writing is only read.)
use mathlib.Core.Path.{◌≡◌}
use mathlib.Core.List.{List}
use Prim.Native.Nat.{ℕ}
use lib.ListN.{length}
use lib.IntN.{ℤ}
use Rattle.cdi.specs.Faults.{Answer}
use Rattle.cdi.specs.Walk.{walk}
use Rattle.cdi.specs.Plans.{segments_of}
use Rattle.cdi.specs.Planning.{table_after}
use Rattle.cdi.specs.Access.{Window, Value, window_after}
use Rattle.locate.proofs.Once.{once}
use Rattle.listing_fill.specs.Batch.{batch, listed, out_after}
use Rattle.listing.proofs.Once as listing
use Rattle.outcomes.specs.Outcomes.{number_in, place_after, value_after}

-- ── what is handed out of an answer: of every call but planksling_list_checked ──

module _ {A : Type 0} (a : Answer A) where
  pub result_once : (r s : ℕ) → r ≡ number_in a → s ≡ number_in a → r ≡ s
  result_once r s p q = once p q

  -- a number that is lent, and what it was before
  module _ (before r s : ℕ) where
    pub place_once : r ≡ place_after a before → s ≡ place_after a before → r ≡ s
    place_once p q = once p q

    pub value_once : (value : A → ℕ) → r ≡ value_after value a before → s ≡ value_after value a before → r ≡ s
    value_once value p q = once p q

-- ── lent memory ──

-- of planksling_plan
pub table_once : (b : List ℕ) (t u o : List ℤ) → u ≡ table_after b t → o ≡ table_after b t → u ≡ o
table_once b t u o p q = once p q

-- of planksling_write_integer, planksling_write_event, planksling_write_text and those that rely on a check
pub window_once : (b : List ℕ) (t : List ℤ) (n : ℕ) (w : Window) (v : Value) (u o : List ℕ) → u ≡ window_after b t n w v → o ≡ window_after b t n w v → u ≡ o
window_once b t n w v u o p q = once p q

module _ (t : List ℤ) (n : ℕ) (out u o : List ℕ) where
  -- of planksling_list
  pub list_once : u ≡ out_after t n out → o ≡ out_after t n out → u ≡ o
  list_once p q = once p q

  -- of planksling_list_checked, with its result
  pub list_checked_once : (r s : ℕ)
      → r ≡ length (batch (walk (segments_of t)) n out) → u ≡ listed (walk (segments_of t)) n out
      → s ≡ length (batch (walk (segments_of t)) n out) → o ≡ listed (walk (segments_of t)) n out
      → (r ≡ s) × (u ≡ o)
  list_checked_once r s = listing.list_known_once t n out r s u o
