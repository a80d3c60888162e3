-- Leaving a child by its number is leaving it by its name.
use mathlib.Core.Path.{◌≡◌, refl, sym, ap, ◌∙◌}
use mathlib.Core.List.{List}
use mathlib.Core.Bool.{Bool, true, false, cond, ◌&&◌}
use mathlib.Core.Logic.{⊎_elim}
use Prim.Native.Nat.{ℕ}
use native.Mathlib.Omega.{arith}
use borrow.Author.Tests.{eq-eqb, ne_eqb}
use Rattle.cdi.specs.Lists.{ascii, is_empty, same}
use Rattle.cdi.specs.Pieces.{Attribute}
use Rattle.cdi.specs.Numbers.{trimmed}
use Rattle.cdi.specs.Rules.{size_text}
use Rattle.scan.proofs.Tests.{eq_or_ne}
use Rattle.names.specs.Names.{element_number}
use Rattle.rules_judge.specs.declared.Judge.{Judge}
use Rattle.rules_judge.specs.Judging.{blamed, leave_of}
use Rattle.rules_judge.specs.Tables.{entry_at, exact_size, size_in, int_size}
use Rattle.rules_judge.specs.Parts.{missing_by, number_by, int_by, limit_sound}
use Rattle.rules_judge.proofs.Blaming.{blamed_append}
use Rattle.rules_judge.proofs.Tabled.{no_entry}
use Rattle.rules.proofs.Passing.{foreign_left, unknown_left, known_left}
use Rattle.judges_state.specs.Steps.{turn_of, size_at, content_faults, sound_by, left_by}

-- a size as it stands in a text is one of the sizes
size_kept : (v : List ℕ) → size_at (size_in v) ≡ size_in v
unfolding size_in exact_size size_at
size_kept v = by (same (trimmed v) (ascii "1")) (same (trimmed v) (ascii "2")) (same (trimmed v) (ascii "4")) (same (trimmed v) (ascii "8"))
  where
    by : (a b c d : Bool) → size_at (cond a 1 (cond b 2 (cond c 4 (cond d 8 0)))) ≡ cond a 1 (cond b 2 (cond c 4 (cond d 8 0)))
    by true b c d = refl
    by false true c d = refl
    by false false true d = refl
    by false false false true = refl
    by false false false false = refl

module _ (j : Judge) (p : ℕ) (n : List ℕ) (s : List Attribute) (i : Judge) {child entry size : ℕ} {bare : Bool}
    (ec : child ≡ element_number n) (ee : entry ≡ entry_at j.row child) (eb : bare ≡ is_empty s) (es : child ≡ 6 → size ≡ int_size s) where
  int_is : int_by p child (size_at size) i ≡ int_by p child (int_size s) i
  int_is = ⊎_elim an_int no_int (eq_or_ne child 6)
    where
      an_int : child ≡ 6 → int_by p child (size_at size) i ≡ int_by p child (int_size s) i
      an_int e = ap (λ (m : ℕ). int_by p child m i) (ap size_at (es e) ∙ (unfold int_size in size_kept (size_text s)))

      no_int : (child ≡ 6 → ⊥) → int_by p child (size_at size) i ≡ int_by p child (int_size s) i
      no_int e = unfold int_by in rw (ne_eqb child 6 e)

  foreign : j.row ≡ 24 → left_by j p child entry bare size i ≡ leave_of j p n s i
  unfolding left_by
  foreign e = foreign_left j p n s i e (rw (eq-eqb entry 0 (ee ∙ sym (no_entry j.row (omega arith) child))))

  module _ (f : j.row ≡ 24 → ⊥) where
    unknown : entry ≡ 0 → left_by j p child entry bare size i ≡ leave_of j p n s i
    unfolding left_by
    unknown z = unknown_left j p n s i f ec ee z (rw (eq-eqb entry 0 z))

    known_child : (entry ≡ 0 → ⊥) → left_by j p child entry bare size i ≡ leave_of j p n s i
    unfolding left_by turn_of
    known_child z = known_left j p n s i f ec ee z refl refl refl refl refl (rw (ne_eqb entry 0 z, ← least_is, ← sound_is))
      where
        least_is : blamed (blamed (blamed i.least (missing_by p child i.one i.two)) (number_by p j.numeric child i.said)) (int_by p child (int_size s) i)
            ≡ blamed i.least (content_faults p child j.numeric size i)
        least_is = unfold content_faults in
            blamed_append (blamed i.least (missing_by p child i.one i.two)) (number_by p j.numeric child i.said) (int_by p child (int_size s) i)
            ∙ blamed_append i.least (missing_by p child i.one i.two) _
            ∙ rw (← int_is)

        sound_is : (j.sound && limit_sound child (turn_of j entry) s i.said) ≡ (j.sound && sound_by child (turn_of j entry) bare i.said)
        sound_is = unfold limit_sound sound_by in rw eb

  -- Leaving a child by its number and entry, its tag bare or not, an int of that size, is leaving it by its name.
  pub left : left_by j p child entry bare size i ≡ leave_of j p n s i
  left = ⊎_elim foreign (λ f. ⊎_elim (unknown f) (known_child f) (eq_or_ne entry 0)) (eq_or_ne j.row 24)
