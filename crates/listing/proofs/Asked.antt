-- Listing from any table.
use mathlib.Core.Path.{◌≡◌, sym, ap, ◌∙◌}
use mathlib.Core.List.{List}
use mathlib.Core.Bool.{Bool, true, false}
use Prim.Native.Nat.{ℕ}
use borrow.Author.Rules.{rules}
use lib.ListN.{length}
use lib.IntN.{ℤ}
use Rattle.cdi.specs.Faults.{accepted}
use Rattle.cdi.specs.Walk.{walk}
use Rattle.cdi.specs.Plans.{segments_of, is_plan}
use Rattle.locate_rows.proofs.Numbers.{nots}
use Rattle.locate.proofs.Segments.{a_plan}
use Rattle.listing_fill.specs.Batch.{batch, listed, listing, out_after}
use Rattle.listing.specs.Told.{listing_of}
use Rattle.std.specs.Prelude.{Some, None}

module _ (t : List ℤ) (n : ℕ) (o : List ℕ) {a : Bool} (fa : a ≡ is_plan t) where
  module _ (h : a ≡ false) where
    pub none_listed : listing_of None ≡ listing t n o
    unfolding listing listing_of
    none_listed = sym (rw (← fa, h))

    pub out_kept : o ≡ out_after t n o
    unfolding out_after
    out_kept = sym (rw (← fa, h))

  module _ (h : a ≡ true) where
    pub all_listed : {r : ℕ} → r ≡ length (batch (walk (segments_of t)) n o) → listing_of (Some r) ≡ listing t n o
    unfolding listing listing_of
    all_listed q = ap accepted q ∙ sym (rw (← fa, h))

    pub out_listed : {p : List ℕ} → p ≡ listed (walk (segments_of t)) n o → p ≡ out_after t n o
    unfolding out_after
    out_listed q = q ∙ sym (rw (← fa, h))

pub ruleset asking = (none_listed, out_kept, all_listed, out_listed, a_plan, nots, rules)
