-- What stands at a place, by the answers of the readers.
use mathlib.Core.Path.{◌≡◌, refl, ◌∙◌}
use mathlib.Core.List.{List}
use mathlib.Core.Bool.{Bool, true, false}
use mathlib.Core.Option.{Option, none, some}
use Prim.Native.Nat.{ℕ, ◌+◌}
use borrow.Author.Tests.{eq-eqb, ne_eqb}
use lib.ListN.{drop}
use Rattle.cdi.specs.Pieces.{attributes, twice}
use Rattle.cdi.specs.Markup.{refers}
use Rattle.cdi.proofs.Quiet.{impossible}
use Rattle.pieces_cuts.specs.Places.{Name}
use Rattle.pieces_cuts.specs.Cuts.{Stands}
use Rattle.marks_cuts.specs.Marks.{sort_at, start_cut, bad_cut}
use Rattle.marks_cuts.proofs.Tags.{unended, doubled, tagged}
use Rattle.tags.specs.Reads.{close_of, Reads}
use Rattle.tags.specs.declared.Tag.{Tag}

module _ (s : List ℕ) (at : ℕ) {n e : ℕ} {tag : Tag} (p : sort_at (drop at s) ≡ 0) (v : Name s (at + 1) n) (z : n ≡ at + 1 → ⊥) (r : Reads s at n e tag) where
  -- a tag that is malformed
  pub bad_tag : tag.end ≡ 0 → Stands s at (bad_cut s at)
  unfolding close_of
  bad_tag y = by (twice (attributes n 0 (drop n s))) refl
    where
      closed : ◌≡◌ {A = Option (Bool × List ℕ)} (close_of s n) none
      closed = r.closes ∙ rw (eq-eqb tag.end 0 y)

      by : (t : Bool) → twice (attributes n 0 (drop n s)) ≡ t → Stands s at (bad_cut s at)
      by true f = doubled s at p v z f
      by false f = unended s at p v z (rw f at closed)

  -- a tag that is well formed
  pub start_tag : (tag.end ≡ 0 → ⊥) → Stands s at (start_cut at n tag.end tag.short tag.refers)
  unfolding close_of
  start_tag y = by (twice (attributes n 0 (drop n s))) refl
    where
      closed : ◌≡◌ {A = Option (Bool × List ℕ)} (close_of s n) (some (tag.short, drop tag.end s))
      closed = r.closes ∙ rw (ne_eqb tag.end 0 y)

      by : (t : Bool) → twice (attributes n 0 (drop n s)) ≡ t → Stands s at (start_cut at n tag.end tag.short tag.refers)
      by true f = let q : ◌≡◌ {A = Option (Bool × List ℕ)} none (some (tag.short, drop tag.end s)) = rw f at closed in impossible (cc)
      by false f = rw (r.refer y) (tagged s at p v z f (rw f at closed) (r.low y) r.high)
