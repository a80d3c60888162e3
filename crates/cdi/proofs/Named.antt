-- The names of a tag's attributes stand behind the tag's `<`, each behind the one before, and so do the faults that stand at them.
use mathlib.Core.Path.{◌≡◌, refl, sym, ap, ◌∙◌}
use mathlib.Core.List.{List, [], ◌∷◌, ◌++◌}
use mathlib.Core.Bool.{Bool, true, false, cond}
use mathlib.Core.Option.{Option, none, some}
use Prim.Native.Nat.{ℕ, zero, suc, ◌+◌, ◌-◌, ◌≤◌, ◌<◌}
use native.Mathlib.Omega.{arith}
use borrow.Author.Tests.{lt-ltb}
use lib.ListN.{length}
use Rattle.cdi.specs.Lists.{ascii, given, while, after, same}
use Rattle.cdi.specs.Faults.{Fault, fault, unless, before, lesser, least}
use Rattle.cdi.specs.Pieces.{Attribute, blank, attribute_at, attributes}
use Rattle.cdi.specs.Rows.{Form, fixed, range, size, formatting, AttributeRule}
use Rattle.cdi.specs.Rules.{is_formatting, text_faults, name_faults, names_faults}
use Rattle.cdi.proofs.Least.{lesser_assoc, least_append}

-- all of them stand at p or behind it
unfoldable pub Behind : ℕ → List Attribute → Type 0
Behind p [] = Unit {0}
Behind p (a ∷ s) = (p ≤ a.place) × Behind p s

-- The attributes of a tag from a place on stand behind it.
pub attributes_behind : (p at k : ℕ) (s : List ℕ) → p ≤ at → Behind p (attributes at k s)
unfolding attributes Behind
attributes_behind p at k [] h = tt
attributes_behind p at (suc k) (x ∷ s) h = attributes_behind p (at + 1) k s (omega arith)
attributes_behind p at zero (x ∷ s) h = by (blank x) (attribute_at (after blank (x ∷ s))) (λ m. attributes_behind p (at + 1) m s (omega arith))
  where
    q : ℕ
    q = at + length (while blank (x ∷ s))

    by : (b : Bool) (o : Option ((List ℕ × List ℕ) × List ℕ)) → ((m : ℕ) → Behind p (attributes (at + 1) m s))
        → Behind p (cond b (given o [] (λ a. record { place = q; name = a.0.0; value = a.0.1 } ∷ attributes (at + 1) (length s - length a.1) s)) [])
    by false o f = tt
    by true none f = tt
    by true (some a) f = (omega arith, f (length s - length a.1))

-- ── their faults ──

-- none of the faults speaks beside one of that number at p
abbrev pub Silent : ℕ → ℕ → List Fault → Type 0
Silent m p fs = lesser (some (fault m p)) (least fs) ≡ some (fault m p)

module _ (m p : ℕ) where
  pub silent_none : Silent m p []
  unfolding least lesser
  silent_none = refl

  silent_unless : (t : Bool) (n q : ℕ) → p < q → Silent m p (unless t (fault n q))
  unfolding unless least lesser before
  silent_unless true n q h = refl
  silent_unless false n q h = rw (lt-ltb p q h)

  pub silent_append : (fs gs : List Fault) → Silent m p fs → Silent m p gs → Silent m p (fs ++ gs)
  silent_append fs gs e f =
      ap (lesser (some (fault m p))) (least_append fs gs) ∙ sym (lesser_assoc (some (fault m p)) (least fs) (least gs)) ∙ ap (λ (o : Option Fault). lesser o (least gs)) e ∙ f

  text_silent : (f : Form) (a : Attribute) → p < a.place → Silent m p (text_faults f a)
  unfolding text_faults
  text_silent (fixed t) a h = silent_unless (same a.value (ascii t)) 87 a.place h
  text_silent (range lo hi) a h = silent_none
  text_silent (size ts) a h = silent_none
  text_silent formatting a h = silent_unless (is_formatting a.value) 87 a.place h

  name_silent : (rules : List AttributeRule) (a : Attribute) → p < a.place → Silent m p (name_faults rules a)
  unfolding name_faults
  name_silent [] a h = unfold unless in silent_unless false 85 a.place h
  name_silent (r ∷ rules) a h = by (same a.name r.name) (name_silent rules a h)
    where
      by : (t : Bool) → Silent m p (name_faults rules a) → Silent m p (cond t (text_faults r.form a) (name_faults rules a))
      by true e = text_silent r.form a h
      by false e = e

  -- The faults at names that stand behind p don't speak beside one at p.
  pub names_silent : (rules : List AttributeRule) (s : List Attribute) → Behind (p + 1) s → Silent m p (names_faults rules s)
  unfolding names_faults Behind
  names_silent rules [] h = silent_none
  names_silent rules (a ∷ s) h = silent_append (name_faults rules a) (names_faults rules s) (name_silent rules a (omega (arith, h.0))) (names_silent rules s h.1)
