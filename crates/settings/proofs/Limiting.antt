-- The numbers of an int's bounds: by its children, and as the definitions take them.
use mathlib.Core.Path.{◌≡◌, refl, sym, ap, ◌∙◌}
use mathlib.Core.List.{List}
use mathlib.Core.Bool.{Bool, true, false, cond}
use mathlib.Core.Option.{Option, none, some}
use Prim.Native.Nat.{ℕ}
use borrow.Author.Rules.{rules}
use lib.IntN.{ℤ, pos}
use lib.Signed.{lt_z}
use Rattle.cdi.specs.Lists.{given, ◌>>=◌, same}
use Rattle.cdi.specs.Tree.{Nodes, end, element, other}
use Rattle.cdi.specs.Rules.{own_text, own_number, Bound, bound_of, is_signed}
use Rattle.cdi.specs.Access.{child_of}
use Rattle.numbers.specs.Held.{number_of}
use Rattle.numbers.specs.declared.Signed.{Signed}
use Rattle.std.specs.Prelude as std
use Rattle.levels.specs.Ahead.{here}
use Rattle.children.specs.Siblings.{nodes_in, Inside, Named}
use Rattle.children.specs.declared.Part.{Part}
use Rattle.children.specs.declared.Part.TheVariants.{Missing, Empty, From}
use Rattle.children.proofs.Insides.{inside_high, inside_deep, part_inside}
use Rattle.settings.specs.Contents.{content_in}
use Rattle.settings.specs.Limits.{own_in, child_number}

-- ── the code's ways ──

module _ (s : List ℕ) {p : Part} where
  pub no_number : ((q : ℕ) → p ≡ From q → ⊥) → std.None ≡ number_of (own_in (nodes_in s p))
  unfolding nodes_in number_of own_in own_number own_text
  no_number h = by p refl
    where
      by : (o : Part) → p ≡ o → std.None ≡ number_of (own_in (nodes_in s p))
      by Missing e = sym (rw e)
      by Empty e = sym (rw e)
      by (From q) e = absurd (h q e)

  pub some_number : {q : ℕ} {r : std.Option Signed} → p ≡ From q → r ≡ number_of (own_number (here s q)) → r ≡ number_of (own_in (nodes_in s p))
  unfolding nodes_in own_in
  some_number e z = z ∙ sym (rw e)

  module _ (n : List ℕ) where
    pub no_child : ((q : ℕ) → p ≡ From q → ⊥) → nodes_in s Missing ≡ child_of n (content_in s p)
    unfolding nodes_in content_in child_of
    no_child h = by p refl
      where
        by : (o : Part) → p ≡ o → nodes_in s Missing ≡ child_of n (content_in s p)
        by Missing e = sym (rw e)
        by Empty e = sym (rw e)
        by (From q) e = absurd (h q e)

    pub some_child : {q : ℕ} {i : Part} → p ≡ From q → Named s q n i → nodes_in s i ≡ child_of n (content_in s p)
    unfolding nodes_in content_in
    some_child e w = w.is ∙ sym (rw e)

pub missing_inside : (s : List ℕ) → Inside s Missing
unfolding Inside
missing_inside s = tt

pub ruleset child_ways = (no_child, some_child, missing_inside, inside_high, inside_deep, part_inside, rules)

-- the child in a content that may be missing
child_of_content : (s : List ℕ) (n : List ℕ) (p : Part) → child_of n (content_in s p) ≡ nodes_in s p >>= child_of n
unfolding nodes_in content_in child_of
child_of_content s n Missing = refl
child_of_content s n Empty = refl
child_of_content s n (From q) = refl

pub number_of_child : (s n : List ℕ) (p i : Part) {r : std.Option Signed} → nodes_in s i ≡ child_of n (content_in s p) → r ≡ number_of (own_in (nodes_in s i)) → r ≡ number_of (child_number n (nodes_in s p))
unfolding child_number
number_of_child s n p i w z = z ∙ ap (λ o. number_of (own_in o)) (w ∙ child_of_content s n p)

pub ruleset limiting = (no_number, some_number, number_of_child, inside_high, inside_deep, rules)

-- ── as the definitions take them ──

-- the bound of that name has the number of the child of that name
pub bound_value : (n : List ℕ) (u : Nodes) (z : ℤ) → given (bound_of n u) z (λ (b : Bound). b.value) ≡ given (child_number n (some u)) z (λ y. y)
unfolding bound_of own_in child_number child_of
bound_value n end z = refl
bound_value n (other p c following) z = bound_value n following z
bound_value n (element p m s kids following) z = by (same n m) (own_number kids) refl (bound_value n following z)
  where
    by : (b : Bool) (o : Option ℤ) → own_number kids ≡ o → given (bound_of n following) z (λ (b : Bound). b.value) ≡ given (child_of n following >>= own_number) z (λ y. y)
        → given (cond b (own_number kids >>= λ y. some (record { place = p; value = y })) (bound_of n following)) z (λ (b : Bound). b.value) ≡ given (cond b (some kids) (child_of n following) >>= own_number) z (λ y. y)
    by true none e others = rw e
    by true (some y) e others = rw e
    by false o e others = others

pub bound_sign : (n : List ℕ) (u : Nodes) → is_signed (bound_of n u) ≡ given (child_number n (some u)) false (λ y. lt_z y (pos 0))
unfolding bound_of own_in child_number child_of is_signed
bound_sign n end = refl
bound_sign n (other p c following) = bound_sign n following
bound_sign n (element p m s kids following) = by (same n m) (own_number kids) refl (bound_sign n following)
  where
    by : (b : Bool) (o : Option ℤ) → own_number kids ≡ o → is_signed (bound_of n following) ≡ given (child_of n following >>= own_number) false (λ y. lt_z y (pos 0))
        → is_signed (cond b (own_number kids >>= λ y. some (record { place = p; value = y })) (bound_of n following)) ≡ given (cond b (some kids) (child_of n following) >>= own_number) false (λ y. lt_z y (pos 0))
    by true none e others = rw e
    by true (some y) e others = rw e
    by false o e others = others
