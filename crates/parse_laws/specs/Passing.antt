-- What reading from one place to another gives, against the pieces and the tree from a place on.
use Rattle.std.specs.Prelude.{◌≡◌, List, ℕ, ◌+◌, ◌≤◌, ℤ, length}
use Rattle.std.proofs.Math.Option.{some}
use Rattle.cdi.specs.Faults.{fault, least}
use Rattle.cdi.specs.Markup.{progress, markup_faults}
use Rattle.parse_sums.specs.Sums.{records_of}
use Rattle.parse_sums.specs.Folding.{fold_nodes}
use Rattle.levels.specs.Ahead.{from, here, outer}
use Rattle.parse_sums.specs.declared.State.{State}

-- From one place to another that is not before it, with `left` levels for further elements: whatever elements are open, the faults are those
-- that are still to come; the fold of what is still to come at this level, from the state and table there, is that of the whole; and the
-- levels around it are the same.
pub record Passed (s : List ℕ) (left at b : ℕ) (st : State) (t : List ℤ) (at' b' : ℕ) (st' : State) (t' : List ℤ) : Type 0 where
  pub faults : (ms : List (List ℕ)) → length ms + left ≡ 24 → markup_faults (length s) (progress ms b) (from s at) ≡ markup_faults (length s) (progress ms b') (from s at')
  pub folds : fold_nodes st t (here s at) ≡ fold_nodes st' t' (here s at')
  pub around : outer s at ≡ outer s at'
  pub low : at ≤ at'
  pub high : at' ≤ length s
  pub begun : b' ≤ 4096
  pub few : records_of st' ≤ b'
  pub long : length t' ≡ length t

-- whatever elements are open, this is the least fault of the pieces from a place on
pub record Fails (s : List ℕ) (left at b n p : ℕ) : Type 0 where
  pub first : (ms : List (List ℕ)) → length ms + left ≡ 24 → least (markup_faults (length s) (progress ms b) (from s at)) ≡ some (fault n p)
