-- The value of the first attribute of a number is that of the first attribute of that name.
use mathlib.Core.Path.{◌≡◌, refl, sym, ap, ◌∙◌}
use mathlib.Core.List.{List, [], ◌∷◌}
use mathlib.Core.Bool.{Bool, true, false}
use mathlib.Core.Logic.{⊎_elim, ◌↔◌}
use Prim.Native.Nat.{ℕ, ◌+◌, ◌-◌, ◌≤◌}
use native.Mathlib.Omega.{arith}
use borrow.Author.Tests.{eq-eqb, ne_eqb}
use lib.Dec.{eqb}
use lib.ListN.{get_or}
use Rattle.cdi.specs.Lists.{same, lists_page}
use Rattle.cdi.specs.Pieces.{Attribute}
use Rattle.cdi.specs.Rules.{attribute_value}
use Rattle.cdi.proofs.Quiet.{same_self, same_equal}
use Rattle.scan.proofs.Tests.{eq_or_ne}
use Rattle.names.specs.Names.{attribute_names, attribute_number}
use Rattle.names.proofs.Positions.{attribute_kth}
use Rattle.rules_judge.specs.Tables.{attribute_name, tables_page}
use Rattle.rules_judge.proofs.Below.{Below, at_below}
use Rattle.tags_values.specs.Codes.{code_of, amount_of, numbered, code_in, amount_in}

NameIs : ℕ → Type 0
NameIs j = attribute_name (j + 1) ≡ get_or attribute_names j []

names_are : Below NameIs 10
unfolding Below NameIs lists_page tables_page attribute_names
names_are = (refl, (refl, (refl, (refl, (refl, (refl, (refl, (refl, (refl, (refl, tt))))))))))

-- a name is told by its number
pub by_number : (a : ℕ) (n : List ℕ) → 1 ≤ a → a ≤ 10 → same (attribute_name a) n ≡ eqb (attribute_number n) a
unfolding NameIs
by_number a n l h = ⊎_elim yes no (eq_or_ne (attribute_number n) a)
  where
    back : a - 1 + 1 ≡ a
    back = omega arith

    kth : (attribute_number n ≡ a - 1 + 1) ↔ (n ≡ get_or attribute_names (a - 1) [])
    kth = attribute_kth n (a - 1) (omega arith)

    word : attribute_name a ≡ get_or attribute_names (a - 1) []
    word = ap attribute_name (sym back) ∙ at_below NameIs 10 names_are (a - 1) (omega arith)

    yes : attribute_number n ≡ a → same (attribute_name a) n ≡ eqb (attribute_number n) a
    yes e = ap (λ (w : List ℕ). same w n) (word ∙ sym (kth.0 (e ∙ sym back))) ∙ same_self n ∙ sym (eq-eqb _ _ e)

    no : (attribute_number n ≡ a → ⊥) → same (attribute_name a) n ≡ eqb (attribute_number n) a
    no e = by (same (attribute_name a) n) refl ∙ sym (ne_eqb _ _ e)
      where
        by : (t : Bool) → same (attribute_name a) n ≡ t → t ≡ false
        by true q = absurd (e (kth.1 (sym (same_equal (attribute_name a) n q) ∙ word) ∙ back))
        by false q = refl

pub numbered_named : (a : ℕ) (s : List Attribute) → 1 ≤ a → a ≤ 10 → numbered a s ≡ attribute_value (attribute_name a) s
unfolding numbered attribute_value
numbered_named a [] l h = refl
numbered_named a (x ∷ s) l h = rw (by_number a x.name l h, numbered_named a s l h)

-- an attribute in front
module _ (x : Attribute) (rest : List Attribute) (b : ℕ) where
  pub front_code : attribute_number x.name ≡ b → code_in b (x ∷ rest) ≡ code_of b x.value
  unfolding code_in numbered
  front_code e = rw (eq-eqb _ _ e)

  pub behind_code : (attribute_number x.name ≡ b → ⊥) → code_in b (x ∷ rest) ≡ code_in b rest
  unfolding code_in numbered
  behind_code e = rw (ne_eqb _ _ e)

  pub front_amount : attribute_number x.name ≡ b → amount_in b (x ∷ rest) ≡ amount_of b x.value
  unfolding amount_in numbered
  front_amount e = rw (eq-eqb _ _ e)

  pub behind_amount : (attribute_number x.name ≡ b → ⊥) → amount_in b (x ∷ rest) ≡ amount_in b rest
  unfolding amount_in numbered
  behind_amount e = rw (ne_eqb _ _ e)
