-- One answer: any two tallies that the contract of `leave` allows are the same, and so are the rows.
use mathlib.Core.Path.{◌≡◌, sym, ◌∙◌}
use mathlib.Core.List.{List}
use Prim.Native.Nat.{ℕ}
use lib.IntN.{ℤ}
use Rattle.tally_tag.specs.Numbered.{leave_by, written_by}
use Rattle.tags_numbers.specs.declared.Given.{Given}
use Rattle.tags_numbers.specs.Given.{numbers_of}
use Rattle.tallies_state.specs.declared.Tally.{Tally}
use Rattle.tallies_state.specs.Flat.{tally_of}
use Rattle.tallies_state.proofs.Once.{tally_known}

pub leave_once : (g : Tally) (at element : ℕ) (m : Given) (inner : Tally) (rows : List ℤ) (q r : Tally) (u v : List ℤ)
    → tally_of q ≡ leave_by (tally_of g) at element (numbers_of m) (tally_of inner) → q.root ≡ inner.root → u ≡ written_by (tally_of g) at element (numbers_of m) (tally_of inner) rows
    → tally_of r ≡ leave_by (tally_of g) at element (numbers_of m) (tally_of inner) → r.root ≡ inner.root → v ≡ written_by (tally_of g) at element (numbers_of m) (tally_of inner) rows
    → (q ≡ r) × (u ≡ v)
leave_once g at element m inner rows q r u v e o x f p y = (tally_known q r (e ∙ sym f) (o ∙ sym p), x ∙ sym y)
