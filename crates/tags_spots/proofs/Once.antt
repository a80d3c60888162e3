-- One answer: any two attributes that the contract of `next_spot` allows are the same.
use mathlib.Core.Path.{◌≡◌, sym, ap, ◌∙◌}
use mathlib.Core.List.{List}
use mathlib.Core.Bool.{Bool}
use mathlib.Core.Logic.{⊎_elim}
use Prim.Native.Nat.{ℕ}
use lib.Dec.{eqb}
use Rattle.cdi.specs.Lists.{any}
use Rattle.names.specs.Names.{attribute_number}
use Rattle.scan.proofs.Tests.{eq_or_ne}
use Rattle.pieces_cuts.specs.Places.{part, Next}
use Rattle.pieces_cuts.specs.declared.places.Attribute.{Attribute as Places}
use Rattle.pieces_attributes.proofs.Once.{places_once}
use Rattle.tags_spots.specs.Spots.{places_of, Tells}
use Rattle.tags_spots.specs.declared.Spot.{Spot}

abbrev spot : Places → ℕ → Bool → Spot
spot p n b = record { name = p.name; behind = p.behind; value = p.value; close = p.close; end = p.end; number = n; refers = b }

pub next_spot_once : {s : List ℕ} {at : ℕ} {q r : Spot} → Next s at (places_of q) → Tells s at q → Next s at (places_of r) → Tells s at r → q ≡ r
next_spot_once {s} {at} {q} {r} v x w y =
    ap (λ n. spot (places_of q) n q.refers) number ∙ ap (spot (places_of q) r.number) refers ∙ ap (λ p. spot p r.number r.refers) places
  where
    places : places_of q ≡ places_of r
    places = places_once v w

    ends : q.end ≡ r.end
    ends = ap (λ (p : Places). p.end) places

    number : q.number ≡ r.number
    number = ⊎_elim
        (λ e. (x.none e).0 ∙ sym (y.none (sym ends ∙ e)).0)
        (λ e. x.number e ∙ ap (λ (p : Places). attribute_number (part s p.name p.behind)) places ∙ sym (y.number (λ f. e (ends ∙ f))))
        (eq_or_ne q.end at)

    refers : q.refers ≡ r.refers
    refers = ⊎_elim
        (λ e. (x.none e).1 ∙ sym (y.none (sym ends ∙ e)).1)
        (λ e. x.refers e ∙ ap (λ (p : Places). any (eqb 38) (part s p.value p.close)) places ∙ sym (y.refers (λ f. e (ends ∙ f))))
        (eq_or_ne q.end at)
