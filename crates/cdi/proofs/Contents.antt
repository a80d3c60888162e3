-- Finding an element's content by its place: places rise, so what a part of the tree finds the whole finds too.
use mathlib.Core.Path.{◌≡◌, refl}
use mathlib.Core.List.{List, [], ◌∷◌, ◌++◌}
use mathlib.Core.Bool.{Bool, true, false}
use mathlib.Core.Option.{Option, none, some}
use Prim.Native.Nat.{ℕ}
use native.Mathlib.Omega.{arith}
use borrow.Author.Tests.{eqb-true, eq-eqb, ne_eqb}
use lib.Dec.{eqb}
use Rattle.cdi.specs.Lists.{is_some}
use Rattle.cdi.specs.Pieces.{Attribute}
use Rattle.cdi.specs.Tree.{Nodes, end, element, other}
use Rattle.cdi.specs.Access.{content_at}
use Rattle.cdi.proofs.Fit.{Rising}
use Rattle.cdi.proofs.Quiet.{impossible}
use Rattle.cdi.proofs.Parts.{Part, keep, skip, part_nothing, part_append, part_before, part_behind, apart}
use Rattle.cdi.proofs.Places.{node_places}

-- Where content is found, an element stands.
content_part : (q : ℕ) (t k : Nodes) → content_at q t ≡ some k → Part (q ∷ []) (node_places t)
unfolding content_at node_places is_some
content_part q end k e = impossible (cc)
content_part q (other p c following) k e = content_part q following k e
content_part q (element p n s kids following) k e =
    by (eqb p q) refl (content_at q kids) refl (content_part q kids) (content_part q following k)
  where
    by : (b : Bool) → eqb p q ≡ b → (o : Option Nodes) → content_at q kids ≡ o → ((i : Nodes) → content_at q kids ≡ some i → Part (q ∷ []) (node_places kids))
        → (content_at q following ≡ some k → Part (q ∷ []) (node_places following)) → Part (q ∷ []) (p ∷ (node_places kids ++ node_places following))
    by true h o g inside others = rw (eqb-true p q h) (keep (part_nothing (node_places kids ++ node_places following)))
    by false h (some i) g inside others = skip (part_before (node_places following) (inside i g))
    by false h none g inside others = skip (part_behind (node_places kids) (others (rw (h, g) at e)))

-- the whole tree finds whatever the part finds
unfoldable pub Finds : Nodes → Nodes → Type 0
Finds whole t = (q : ℕ) (k : Nodes) → content_at q t ≡ some k → content_at q whole ≡ some k

module _ (whole : Nodes) (p : ℕ) (n : List ℕ) (s : List Attribute) (kids following : Nodes) where
  -- It finds the content of the part's first element by its place.
  pub finds_here : Finds whole (element p n s kids following) → content_at p whole ≡ some kids
  unfolding Finds content_at
  finds_here f = f p kids (rw (eq-eqb p p refl))

  -- It finds what that content finds.
  pub finds_inside : (lo : ℕ) → Rising lo (node_places (element p n s kids following)) → Finds whole (element p n s kids following) → Finds whole kids
  unfolding Finds content_at node_places is_some
  finds_inside lo r f q k e = f q k (rw (ne_eqb p q differ, e))
    where
      differ : p ≡ q → ⊥
      differ h = omega (arith, apart lo (keep (part_before (node_places following) (content_part q kids k e))) r)

  -- It finds what stands behind the element.
  pub finds_behind : (lo : ℕ) → Rising lo (node_places (element p n s kids following)) → Finds whole (element p n s kids following) → Finds whole following
  unfolding Finds content_at node_places is_some
  finds_behind lo r f q k e = f q k (rw (ne_eqb p q differ, absent (content_at q kids) refl) e)
    where
      differ : p ≡ q → ⊥
      differ h = omega (arith, apart lo (keep (part_behind (node_places kids) (content_part q following k e))) r)

      absent : (o : Option Nodes) → content_at q kids ≡ o → content_at q kids ≡ none
      absent none g = g
      absent (some i) g = absurd (omega (arith, apart lo (skip (part_append (content_part q kids i g) (content_part q following k e))) r))
