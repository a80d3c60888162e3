-- The children that a relation needs: the judge knows which of the two it has had.
use mathlib.Core.Path.{◌≡◌, refl, sym, ◌∙◌}
use mathlib.Core.List.{List, [], ◌∷◌, ◌++◌}
use mathlib.Core.Bool.{Bool, true, false, cond, ◌&&◌, ◌||◌}
use mathlib.Core.Option.{none, some}
use Prim.Native.Nat.{ℕ}
use lib.Dec.{eqb}
use Rattle.cdi.specs.Lists.{ascii, same, among, lists_page}
use Rattle.cdi.specs.Faults.{Fault, unless, lesser, least}
use Rattle.cdi.specs.Pieces.{Attribute, Piece}
use Rattle.cdi.specs.Tree.{Nodes, end, element, other}
use Rattle.cdi.specs.Rows.{row_of, rows_page}
use Rattle.cdi.specs.Rules.{missing_child, entry_from, entry_of, has_child, missing_faults}
use Rattle.cdi.proofs.Quiet.{same_equal, same_self}
use Rattle.rules_judge.specs.declared.Judge.{Judge}
use Rattle.rules_judge.specs.Judging.{Least, row_at, is_foreign, fresh, enter_of, other_of, missing, passed, leave_of, judge_nodes, judging_page}
use Rattle.names.specs.Names.{element_number}
use Rattle.rules.proofs.Named.{Numbered}
use Rattle.rules.proofs.Ordered.{lesser_same}
use Rattle.rules.proofs.Steps.{Reads, reads_other, reads_leave, cond_holds, not_foreign, looked_up}

abbrev relation : List ℕ
relation = ascii "relation"

abbrev property : List (List ℕ)
property = ascii "property" ∷ []

abbrev value : List (List ℕ)
value = ascii "value" ∷ []

or_none : (x : Bool) → x ≡ (x || false)
or_none true = refl
or_none false = refl

-- ── a relation's row ──

relation_judged : eqb (element_number relation) 24 ≡ false
unfolding lists_page judging_page
relation_judged = refl

relation_entry : (n : List ℕ) → entry_of (row_at (element_number relation)) n ≡ cond (among n property) (some (1, false)) (cond (among n value) (some (2, false)) none)
unfolding lists_page rows_page judging_page entry_of entry_from
relation_entry n = refl

relation_missing : (p : ℕ) (kids : Nodes) → missing_faults p (row_of relation).children kids ≡ unless (has_child property kids) (missing_child p) ++ (unless (has_child value kids) (missing_child p) ++ [])
unfolding lists_page rows_page missing_faults
relation_missing p kids = refl

property_no_value : (n : List ℕ) → among n property ≡ true → among n value ≡ false
unfolding lists_page
property_no_value n h = rw (same_equal n (ascii "property") (or_none (same n (ascii "property")) ∙ h))

-- ── what the judge knows after a relation's content ──

or_assoc : (x y z : Bool) → ((x || y) || z) ≡ (x || (y || z))
or_assoc true y z = refl
or_assoc false y z = refl

-- the judge's two facts after some more content, of which `first` and `second` say whether the two children stand there
record Has (j i : Judge) (first second : Bool) : Type 0 where
  one : i.one ≡ (j.one || first)
  two : i.two ≡ (j.two || second)

module _ {in_int : Bool} {j : Judge} (r : Reads (element_number relation) in_int j) where
  leave_has : (p : ℕ) (n : List ℕ) (s : List Attribute) (i : Judge) → Has j (leave_of j p n s i) (among n property) (among n value)
  unfolding leave_of passed
  leave_has p n s i = by (among n property) refl (among n value) refl
    where
      known : {t u : Bool} → among n property ≡ t → among n value ≡ u → entry_of (row_at j.row) n ≡ cond t (some (1, false)) (cond u (some (2, false)) none)
      known a c = looked_up relation_judged r n ∙ relation_entry n ∙ rw (a, c)

      by : (t : Bool) → among n property ≡ t → (u : Bool) → among n value ≡ u → Has j (leave_of j p n s i) (among n property) (among n value)
      by true a u c = rw (not_foreign relation_judged r, known a c, property_no_value n a, a) (record { one = refl; two = refl })
      by false a true c = rw (not_foreign relation_judged r, known a c, a, c) (record { one = refl; two = refl })
      by false a false c = rw (not_foreign relation_judged r, known a c, a, c) (record { one = or_none j.one; two = or_none j.two })

other_has : (j : Judge) (p : ℕ) (c : Piece) → ((other_of j p c).one ≡ j.one) × ((other_of j p c).two ≡ j.two)
unfolding other_of
other_has j p c = cond_holds (λ (i : Judge). (i.one ≡ j.one) × (i.two ≡ j.two)) (is_foreign j) (refl, refl) (refl, refl)

has_after : {in_int : Bool} {j : Judge} (t : Nodes) → Reads (element_number relation) in_int j → Has j (judge_nodes j t) (has_child property t) (has_child value t)
unfolding judge_nodes has_child
has_after {j = j} end r = record { one = or_none j.one; two = or_none j.two }
has_after {j = j} (other p c following) r =
    let h = has_after {j = other_of j p c} following (reads_other p c r) in
    let o = other_has j p c in
    record { one = h.one ∙ rw o.0; two = h.two ∙ rw o.1 }
has_after {j = j} (element p n s kids following) r =
    let i = judge_nodes (enter_of j p n s) kids in
    let h = has_after {j = leave_of j p n s i} following (reads_leave p n s i r) in
    let l = leave_has r p n s i in
    record {
      one = h.one ∙ rw l.one (or_assoc j.one (among n property) (has_child property following));
      two = h.two ∙ rw l.two (or_assoc j.two (among n value) (has_child value following));
    }

both_needed : (f : Fault) (x y : Bool) → least (unless (x && y) f) ≡ least (unless x f ++ (unless y f ++ []))
unfolding least lesser unless
both_needed f true true = refl
both_needed f true false = refl
both_needed f false true = refl
both_needed f false false = sym (lesser_same f)

relation_least : (l : Least) (in_int : Bool) (p : ℕ) (kids : Nodes)
    → least (missing p relation (judge_nodes (fresh l (element_number relation) in_int) kids)) ≡ least (missing_faults p (row_of relation).children kids)
unfolding missing fresh
relation_least l in_int p kids =
    let h = has_after {in_int = in_int} {j = fresh l (element_number relation) in_int} kids (record { row = refl; numeric = refl }) in
    rw (same_self relation, relation_missing, h.one, h.two) (both_needed (missing_child p) (has_child property kids) (has_child value kids))

-- The least fault of missing children is known after an element's content.
pub missing_least : (l : Least) (in_int : Bool) (p : ℕ) (n : List ℕ) (kids : Nodes) → Numbered n
    → least (missing p n (judge_nodes (fresh l (element_number n) in_int) kids)) ≡ least (missing_faults p (row_of n).children kids)
unfolding missing unless
missing_least l in_int p n kids h = by (same n relation) refl
  where
    by : (t : Bool) → same n relation ≡ t → least (missing p n (judge_nodes (fresh l (element_number n) in_int) kids)) ≡ least (missing_faults p (row_of n).children kids)
    by true q = rw (same_equal n relation q) (relation_least l in_int p kids)
    by false q = rw (q, h.needless q p kids)
