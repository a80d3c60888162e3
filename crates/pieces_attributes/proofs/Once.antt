-- One answer: any two attributes that the contract of `next_attribute` allows have the same places. The other contracts are equations.
use mathlib.Core.Path.{◌≡◌, refl, sym, ap, ◌∙◌}
use mathlib.Core.List.{List}
use mathlib.Core.Option.{none, some}
use mathlib.Core.Logic.{⊎_elim}
use Prim.Native.Nat.{ℕ, ◌≤◌}
use native.Mathlib.Omega.{arith}
use borrow.Author.Tests.{eq-eqb, ne_eqb}
use lib.ListN.{length, drop, length-take, length-drop}
use Rattle.std.specs.Prelude.{Option, Some, None}
use Rattle.scan.proofs.Tests.{eq_or_ne}
use Rattle.pieces_cuts.specs.Places.{part, texts_of, attribute_from, Next}
use Rattle.pieces_cuts.specs.declared.places.Attribute.{Attribute as Places}
use Rattle.pieces_attributes.specs.Found.{Follows}
use Rattle.pieces_cuts.proofs.Once.{same_rest, apart, both}

-- a part's one end is known by its other end and its length
module _ (s : List ℕ) (a b e f : ℕ) where
  part_end : a ≡ b → a ≤ e → b ≤ f → e ≤ length s → f ≤ length s → length (part s a e) ≡ length (part s b f) → e ≡ f
  part_end p l m h k q = let z = rw (length-take, length-drop, length-take, length-drop) at q in omega arith

  part_start : e ≡ f → a ≤ e → b ≤ f → e ≤ length s → f ≤ length s → length (part s a e) ≡ length (part s b f) → a ≡ b
  part_start p l m h k q = let z = rw (length-take, length-drop, length-take, length-drop) at q in omega arith

abbrev places : ℕ → ℕ → ℕ → ℕ → ℕ → Places
places n b v c e = record { name = n; behind = b; value = v; close = c; end = e }

places_path : (r q : Places) → r.name ≡ q.name → r.behind ≡ q.behind → r.value ≡ q.value → r.close ≡ q.close → r.end ≡ q.end → r ≡ q
places_path r q a b c d e =
    ap (λ x. places x r.behind r.value r.close r.end) a
    ∙ ap (λ x. places q.name x r.value r.close r.end) b
    ∙ ap (λ x. places q.name q.behind x r.close r.end) c
    ∙ ap (λ x. places q.name q.behind q.value x r.end) d
    ∙ ap (places q.name q.behind q.value q.close) e

module _ {s : List ℕ} {at : ℕ} {r : Places} (v : Next s at r) where
  next_none : r.end ≡ at → attribute_from (drop at s) ≡ none
  next_none e = v.is ∙ rw (eq-eqb r.end at e)

  next_some : (r.end ≡ at → ⊥) → attribute_from (drop at s) ≡ some (texts_of s r, drop r.end s)
  next_some e = v.is ∙ rw (ne_eqb r.end at e)

pub places_once : {s : List ℕ} {at : ℕ} {r q : Places} → Next s at r → Next s at q → r ≡ q
places_once {s} {at} {r} {q} v w = ⊎_elim
    (λ a. ⊎_elim (λ b. squeezed a b) (λ b. apart (next_none v a) (next_some w b)) (eq_or_ne q.end at))
    (λ a. ⊎_elim (λ b. apart (next_none w b) (next_some v a)) (λ b. found a b) (eq_or_ne q.end at))
    (eq_or_ne r.end at)
  where
    squeezed : r.end ≡ at → q.end ≡ at → r ≡ q
    squeezed a b =
        let o = v.ordered in
        let p = w.ordered in
        places_path r q
        (omega (arith, o.name, o.behind, o.value, o.close, o.end, p.name, p.behind, p.value, p.close, p.end))
        (omega (arith, o.name, o.behind, o.value, o.close, o.end, p.name, p.behind, p.value, p.close, p.end))
        (omega (arith, o.name, o.behind, o.value, o.close, o.end, p.name, p.behind, p.value, p.close, p.end))
        (omega (arith, o.name, o.behind, o.value, o.close, o.end, p.name, p.behind, p.value, p.close, p.end))
        (a ∙ sym b)

    found : (r.end ≡ at → ⊥) → (q.end ≡ at → ⊥) → r ≡ q
    found a b =
        let o = v.ordered in
        let p = w.ordered in
        let e = both (next_some v a) (next_some w b) in
        let end : r.end ≡ q.end = same_rest s r.end q.end o.high p.high (ap (λ x. x.1) e) in
        let name : r.name ≡ q.name = v.first a ∙ sym (w.first b) in
        let close : r.close ≡ q.close = omega (arith, v.last a, w.last b) in
        let names : length (part s r.name r.behind) ≡ length (part s q.name q.behind) = ap (λ x. length x.0.0) e in
        let values : length (part s r.value r.close) ≡ length (part s q.value q.close) = ap (λ x. length x.0.1) e in
        let behind : r.behind ≡ q.behind = part_end s r.name q.name r.behind q.behind name o.behind p.behind (omega (arith, o.value, o.close, o.end, o.high)) (omega (arith, p.value, p.close, p.end, p.high)) names in
        let value : r.value ≡ q.value = part_start s r.value q.value r.close q.close close o.close p.close (omega (arith, o.end, o.high)) (omega (arith, p.end, p.high)) values in
        places_path r q name behind value close end

pub next_attribute_once : (s : List ℕ) (at : ℕ) (r q : Option Places) → Follows s at r → Follows s at q → r ≡ q
next_attribute_once s at None None v w = refl
next_attribute_once s at None (Some b) v w = apart v (next_some w.0 w.1)
next_attribute_once s at (Some a) None v w = apart w (next_some v.0 v.1)
next_attribute_once s at (Some a) (Some b) v w = ap Some (places_once v.0 w.0)
