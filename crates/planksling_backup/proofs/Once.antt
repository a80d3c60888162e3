-- One answer: any two outcomes that a call's contract allows are equal, its result, every number handed out and the output. Each of them has an
-- equation with what came in. (A slice that isn't lent for writing is only read.)
use mathlib.Core.Path.{◌≡◌, sym, ◌∙◌}
use mathlib.Core.List.{List}
use Prim.Native.Nat.{ℕ}
use Rattle.cdi.specs.Faults.{Answer}
use Rattle.blocks.specs.Backups.{kept, after_storing, after_restoring}
use Rattle.outcomes.specs.Outcomes.{number_in, place_after, value_after}

-- ── what is handed out of an answer: of every call ──

module _ {A : Type 0} (a : Answer A) (r s : ℕ) where
  pub result_once : r ≡ number_in a → s ≡ number_in a → r ≡ s
  result_once p q = p ∙ sym q

  -- a number that is lent, and what it was before
  module _ (before : ℕ) where
    pub place_once : r ≡ place_after a before → s ≡ place_after a before → r ≡ s
    place_once p q = p ∙ sym q

    pub value_once : (value : A → ℕ) → r ≡ value_after value a before → s ≡ value_after value a before → r ≡ s
    value_once value p q = p ∙ sym q

-- ── the output ──

-- of planksling_backup_store
pub stored_once : (sp : ℕ) (w o p q : List ℕ) → p ≡ after_storing (kept sp w) o → q ≡ after_storing (kept sp w) o → p ≡ q
stored_once sp w o p q a b = a ∙ sym b

-- of planksling_backup_read
pub read_once : (b o p q : List ℕ) → p ≡ after_restoring b o → q ≡ after_restoring b o → p ≡ q
read_once b o p q a c = a ∙ sym c
