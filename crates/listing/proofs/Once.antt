-- One answer: any two outcomes that the contract of `list_known` or `list` allows, the answer and the slice, are equal. (The table is only read.)
use mathlib.Core.Path.{◌≡◌, refl, sym, ap, ◌∙◌}
use mathlib.Core.List.{List}
use Prim.Native.Nat.{ℕ}
use lib.ListN.{length}
use lib.IntN.{ℤ}
use Rattle.cdi.specs.Walk.{walk}
use Rattle.cdi.specs.Plans.{segments_of}
use Rattle.cdi.proofs.Quiet.{impossible, same_accepted}
use Rattle.listing_fill.specs.Batch.{batch, listed, listing, out_after}
use Rattle.listing.specs.Told.{listing_of}
use Rattle.std.specs.Prelude.{Option, Some, None}

one_case : (r s : Option ℕ) → listing_of r ≡ listing_of s → r ≡ s
unfolding listing_of
one_case (Some n) (Some m) e = ap Some (same_accepted e)
one_case (Some n) None e = impossible (cc)
one_case None (Some m) e = impossible (cc)
one_case None None e = refl

module _ (t : List ℤ) (n : ℕ) (o : List ℕ) where
  pub list_known_once : (r s : ℕ) (p q : List ℕ)
      → r ≡ length (batch (walk (segments_of t)) n o) → p ≡ listed (walk (segments_of t)) n o
      → s ≡ length (batch (walk (segments_of t)) n o) → q ≡ listed (walk (segments_of t)) n o
      → (r ≡ s) × (p ≡ q)
  list_known_once r s p q a b c d = (a ∙ sym c, b ∙ sym d)

  pub list_once : (r s : Option ℕ) (p q : List ℕ)
      → listing_of r ≡ listing t n o → p ≡ out_after t n o
      → listing_of s ≡ listing t n o → q ≡ out_after t n o
      → (r ≡ s) × (p ≡ q)
  list_once r s p q a b c d = (one_case r s (a ∙ sym c), b ∙ sym d)
