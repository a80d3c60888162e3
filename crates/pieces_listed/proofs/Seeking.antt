-- A name of a tag's attributes that is met again behind itself.
use mathlib.Core.Path.{◌≡◌, refl}
use mathlib.Core.List.{List}
use mathlib.Core.Bool.{Bool, true, false, ◌||◌}
use Prim.Native.Nat.{ℕ, ◌≤◌}
use borrow.Author.Rules.{rules}
use lib.ListN.{length, drop}
use Rattle.cdi.specs.Lists.{any}
use Rattle.cdi.specs.Pieces.{attributes, bears, twice}
use Rattle.pieces_cuts.specs.Places.{part, Next}
use Rattle.pieces_cuts.specs.declared.places.Attribute.{Attribute as Places}
use Rattle.pieces_attributes.specs.Answers.{Shows}
use Rattle.pieces_attributes.proofs.Showing.{shows_nothing}
use Rattle.pieces_attributes.proofs.Walking.{one_more, less as nearer}

-- a name that stands twice from i on stands twice in the whole
pub record Seeking (s : List ℕ) (at i : ℕ) : Type 0 where
  pub back : twice (attributes i 0 (drop i s)) ≡ true → twice (attributes at 0 (drop at s)) ≡ true
  pub high : i ≤ length s

pub seek : (s : List ℕ) (at : ℕ) → at ≤ length s → Seeking s at at
seek s at h = record { back = λ q. q; high = h }

or_second : (a b : Bool) → b ≡ true → (a || b) ≡ true
or_second true b e = refl
or_second false b e = e

module _ {s : List ℕ} {at i : ℕ} {a : Places} (w : Seeking s at i) (v : Next s i a) (e : a.end ≡ i → ⊥) where
  pub seek_on : Seeking s at a.end
  unfolding twice
  seek_on = record {
    back = λ q. w.back (rw (one_more v e) (or_second (any (bears (part s a.name a.behind)) (attributes a.end 0 (drop a.end s))) (twice (attributes a.end 0 (drop a.end s))) q));
    high = v.ordered.high;
  }

  pub sought : {r : Bool} → r ≡ any (bears (part s a.name a.behind)) (attributes a.end 0 (drop a.end s)) → Shows r (twice (attributes at 0 (drop at s)) ≡ true)
  unfolding twice
  sought k = record { is = λ t. w.back (rw (one_more v e, ← k, t)) }

pub ruleset again_loop = (seek, seek_on, sought, shows_nothing, nearer, rules)
