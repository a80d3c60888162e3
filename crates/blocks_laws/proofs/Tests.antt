-- What it says of a block, and of a backup, that nothing is wrong.
use mathlib.Core.Path.{◌≡◌, refl}
use mathlib.Core.List.{List}
use mathlib.Core.Bool.{Bool, true, false, cond, ◌&&◌}
use mathlib.Core.Option.{Option, none, some}
use Prim.Native.Nat.{ℕ, ◌*◌, ◌%◌, ◌≤◌}
use native.Mathlib.Omega.{arith}
use borrow.Author.Tests.{eqb-true, leb-true}
use lib.Dec.{eqb, leb}
use lib.ListN.{length}
use Rattle.cdi.specs.Lists.{◌or_else◌}
use Rattle.cdi.specs.Faults.{Fault, fault, accepted, stage}
use Rattle.cdi.proofs.Tests.{parts}
use Rattle.blocks.specs.Blocks.{space}
use Rattle.blocks.specs.Backups.{Kept, is_whole, is_checked, is_good, cause_of, first_bad, blocks_in, fault_in, window_in, reading}

clash : {A : Type 0} (f : Fault) → ◌≡◌ {A = Option Fault} (some f) none → A
clash f e = let z : ◌≡◌ {A = ℕ} 0 1 = cc in absurd (omega arith)

-- neither has a fault where the first of both has none
pub neither : (x y : Option Fault) → (x or_else y) ≡ none → (x ≡ none) × (y ≡ none)
neither none y e = (refl, e)
neither (some f) y e = clash f e

passes : (t : Bool) (o : Option Fault) (f : Fault) → cond t o (some f) ≡ none → (t ≡ true) × (o ≡ none)
passes true o f e = (refl, e)
passes false o f e = clash f e

-- a block with nothing wrong passes both tests
pub passed : (k n sp : ℕ) (b : List ℕ) → cause_of k n sp b ≡ none → (is_checked b ≡ true) × (is_good k n sp b ≡ true)
unfolding cause_of
passed k n sp b e =
    let c = passes (is_checked b) _ (fault 43 k) e in
    (c.0, (passes (is_good k n sp b) none (fault 44 k) c.1).0)

pub passes_both : (k n sp : ℕ) (b : List ℕ) → is_checked b ≡ true → is_good k n sp b ≡ true → cause_of k n sp b ≡ none
unfolding cause_of
passes_both k n sp b c g = rw (c, g)

-- a backup with nothing wrong has whole blocks, at least one, each with nothing wrong
pub record Sound (b : List ℕ) : Type 0 where
  pub whole_blocks : (leb 1 (length b) && eqb (length b % 512) 0) ≡ true
  pub some_blocks : 1 ≤ blocks_in b
  pub whole : length b ≡ 512 * blocks_in b
  pub good : first_bad 0 (blocks_in b) (space b) b ≡ none

pub sound : (b : List ℕ) → fault_in b ≡ none → Sound b
unfolding fault_in is_whole blocks_in
sound b e =
    let c = passes (is_whole b) _ (fault 42 0) e in
    let d = parts (leb 1 (length b)) (eqb (length b % 512) 0) c.0 in
    let l : 1 ≤ length b = leb-true 1 (length b) d.0 in
    let m : length b % 512 ≡ 0 = eqb-true (length b % 512) 0 d.1 in
    record { whole_blocks = c.0; some_blocks = omega arith; whole = omega arith; good = c.1 }

-- reading accepts where nothing is wrong, and gives what the blocks say
pub accepted_none : (b : List ℕ) (w : Kept) → reading b ≡ accepted w → (fault_in b ≡ none) × (window_in b ≡ w)
unfolding reading
accepted_none b w e = by (fault_in b) e
  where
    by : (o : Option Fault) → stage o (window_in b) ≡ accepted w → (o ≡ none) × (window_in b ≡ w)
    by none e = (refl, cc)
    by (some f) e = let z : ◌≡◌ {A = ℕ} 0 1 = cc in absurd (omega arith)
