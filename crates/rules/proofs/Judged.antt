-- The judge's least fault is the least of all faults of stages 8 to 10.
use mathlib.Core.Path.{◌≡◌, refl, sym, ◌∙◌}
use mathlib.Core.List.{List, [], ◌∷◌, ◌++◌, append_assoc}
use mathlib.Core.Bool.{Bool, true, false, cond, ◌||◌}
use mathlib.Core.Option.{Option, none, some}
use Prim.Native.Nat.{ℕ}
use lib.Dec.{eqb}
use Rattle.cdi.specs.Faults.{Fault, lesser, least}
use Rattle.cdi.specs.Pieces.{Attribute, Piece}
use Rattle.cdi.specs.Tree.{Nodes, end, element, other}
use Rattle.cdi.specs.Rows.{Row, row_of}
use Rattle.cdi.specs.Rules.{Before, nothing_before, behind, entry_of, child_faults, stray_faults, attribute_faults, missing_faults, number_faults, int_faults, own_faults, is_int, is_known, faults_in, element_faults, unknown_element}
use Rattle.cdi.proofs.Least.{lesser_assoc, lesser_comm, lesser_none, least_append}
use Rattle.rules_judge.specs.declared.Judge.{Judge}
use Rattle.rules_judge.specs.Judging.{Least, as_fault, blamed, row_at, is_foreign, fresh, entry_faults, enter_of, other_of, missing, number_blame, int_blame, passed, leave_of, judge_nodes}
use Rattle.std.specs.Prelude.{None}
use Rattle.names.specs.Names.{element_number}
use Rattle.rules_judge.proofs.Blamed.{blamed_least}
use Rattle.rules.proofs.Named.{Numbered, numbered, counted}
use Rattle.rules.proofs.Ordered.{Like, like_nothing, child_alike}
use Rattle.rules.proofs.Steps.{Reads, reads_other, reads_leave, not_foreign, looked_up, enter_known, like_other, like_leave}
use Rattle.rules.proofs.Heard.{number_blamed}
use Rattle.rules.proofs.Needed.{missing_least}
use Rattle.rules.proofs.Bounding.{int_blamed}

-- ── content that isn't judged ──

foreign_least : (t : Nodes) (j : Judge) → is_foreign j ≡ true → (judge_nodes j t).least ≡ j.least
unfolding judge_nodes other_of enter_of leave_of passed fresh is_foreign
foreign_least end j f = refl
foreign_least (other p c following) j f = foreign_least following (other_of j p c) (rw f f) ∙ rw f
foreign_least (element p n s kids following) j f =
    foreign_least following (leave_of j p n s (judge_nodes (enter_of j p n s) kids)) (rw f f)
    ∙ rw f (foreign_least kids (fresh j.least 24 j.numeric) refl)

unjudged : (l : Least) (in_int : Bool) (t : Nodes) → (judge_nodes (fresh l 24 in_int) t).least ≡ l
unfolding fresh is_foreign
unjudged l in_int t = foreign_least t (fresh l 24 in_int) refl

-- ── content that is judged ──

-- what is to be shown of a content: from the judge's present state, the least is that of what was and what is still to come
abbrev Holds : Nodes → Type 0
Holds t =
    (k : ℕ) (in_int : Bool) (j : Judge) (b : Before) → eqb k 24 ≡ false → Reads k in_int j → Like j.last b
    → as_fault (judge_nodes j t).least ≡ lesser (as_fault j.least) (least (faults_in (row_at k) in_int b t))

-- Faults that are blamed first are the first of the list.
blamed_first : (l : Least) (fs gs : List Fault) → lesser (as_fault (blamed l fs)) (least gs) ≡ lesser (as_fault l) (least (fs ++ gs))
blamed_first l fs gs = rw (blamed_least, least_append fs gs) (lesser_assoc (as_fault l) (least fs) (least gs))

regrouped : (l e a i x : Option Fault) → lesser (lesser (lesser l (lesser e a)) i) x ≡ lesser l (lesser e (lesser (lesser a x) i))
regrouped l e a i x = simp lesser_assoc (rw (lesser_comm i x))

-- the faults that an element has by its content
content_faults : Bool → ℕ → List ℕ → List Attribute → Nodes → List Fault
content_faults in_int p n s kids = missing_faults p (row_of n).children kids ++ (number_faults in_int p n kids ++ int_faults p n s kids)

-- the faults of a child and in it
child_in : Row → Bool → Before → ℕ → List ℕ → List Attribute → Nodes → List Fault
child_in row in_int b p n s kids =
    child_faults row b p n ++ cond (is_known row n) (own_faults in_int p n s kids ++ faults_in (row_of n) (in_int || is_int n) nothing_before kids) []

module _ {k : ℕ} {in_int : Bool} {j : Judge} (judged : eqb k 24 ≡ false) (r : Reads k in_int j) where
  other_least : (p : ℕ) (c : Piece) → (other_of j p c).least ≡ blamed j.least (stray_faults (row_at k) p c)
  unfolding other_of
  other_least p c = rw (not_foreign judged r) (rw r.row)

  module _ (p : ℕ) (n : List ℕ) (s : List Attribute) where
    enter_unknown : entry_of (row_at k) n ≡ none → enter_of j p n s ≡ fresh (blamed j.least (unknown_element p ∷ [])) 24 in_int
    unfolding enter_of
    enter_unknown q = rw (not_foreign judged r, looked_up judged r n, q, r.numeric)

    leave_unknown : (i : Judge) → entry_of (row_at k) n ≡ none → (leave_of j p n s i).least ≡ i.least
    unfolding leave_of passed
    leave_unknown i q = rw (not_foreign judged r, looked_up judged r n, q)

    leave_known : (i : Judge) (e : ℕ × Bool) → entry_of (row_at k) n ≡ some e → (leave_of j p n s i).least ≡ blamed i.least (missing p n i ++ (number_blame j p n i ++ int_blame p n s i))
    unfolding leave_of
    leave_known i e q = rw (not_foreign judged r, looked_up judged r n, q)

    -- the judge of a child that the row knows
    entered : ℕ × Bool → Judge
    entered e = fresh (blamed j.least (entry_faults j.last p e ++ attribute_faults p (row_of n) s)) (element_number n) (in_int || is_int n)

    module _ (kids : Nodes) where
      -- what is in the child is judged by its own row
      entered_least : (e : ℕ × Bool) → Holds kids → Numbered n
          → as_fault (judge_nodes (entered e) kids).least
          ≡ lesser (lesser (as_fault j.least) (lesser (least (entry_faults j.last p e)) (least (attribute_faults p (row_of n) s))))
          (least (faults_in (row_of n) (in_int || is_int n) nothing_before kids))
      unfolding entered fresh
      entered_least e h m =
          h (element_number n) (in_int || is_int n) (entered e) nothing_before m.judged (record { row = refl; numeric = refl }) like_nothing
          ∙ rw (m.row, blamed_least, least_append)

      -- what its content makes of it is known after the content
      content_least : (e : ℕ × Bool) → Numbered n
          → least (missing p n (judge_nodes (entered e) kids) ++ (number_blame j p n (judge_nodes (entered e) kids) ++ int_blame p n s (judge_nodes (entered e) kids))) ≡ least (content_faults in_int p n s kids)
      unfolding entered content_faults
      content_least e m =
          let l = blamed j.least (entry_faults j.last p e ++ attribute_faults p (row_of n) s) in
          rw (number_blamed l in_int j p n kids r.numeric m, int_blamed l in_int p n s kids)
          (rw (least_append (missing p n (judge_nodes (entered e) kids)), missing_least l (in_int || is_int n) p n kids m)
          (sym (least_append (missing_faults p (row_of n).children kids) (number_faults in_int p n kids ++ int_faults p n s kids))))

      unknown_in : (b : Before) → entry_of (row_at k) n ≡ none → child_in (row_at k) in_int b p n s kids ≡ unknown_element p ∷ []
      unfolding child_in child_faults is_known
      unknown_in b q = rw q

      known_in : (b : Before) (e : ℕ × Bool) → Like j.last b → entry_of (row_at k) n ≡ some e
          → least (child_in (row_at k) in_int b p n s kids)
          ≡ lesser (least (entry_faults j.last p e))
          (lesser (lesser (least (attribute_faults p (row_of n) s)) (least (content_faults in_int p n s kids))) (least (faults_in (row_of n) (in_int || is_int n) nothing_before kids)))
      unfolding child_in is_known own_faults content_faults
      known_in b e l q =
          let c = child_alike (row_at k) p n e q (counted (row_at k) n e q) l in
          rw (q, least_append (child_faults (row_at k) b p n), c.least)
          (rw (least_append (attribute_faults p (row_of n) s ++ content_faults in_int p n s kids), least_append (attribute_faults p (row_of n) s)))

      child_least : (b : Before) → Holds kids → Like j.last b → (o : Option (ℕ × Bool)) → entry_of (row_at k) n ≡ o
          → as_fault (leave_of j p n s (judge_nodes (enter_of j p n s) kids)).least ≡ lesser (as_fault j.least) (least (child_in (row_at k) in_int b p n s kids))
      unfolding entered
      child_least b h l none q =
          rw (leave_unknown (judge_nodes (enter_of j p n s) kids) q, enter_unknown q, unjudged (blamed j.least (unknown_element p ∷ [])) in_int kids, unknown_in b q)
          (blamed_least j.least (unknown_element p ∷ []))
      child_least b h l (some e) q =
          let m = numbered k n e q in
          rw (leave_known (judge_nodes (enter_of j p n s) kids) e q, enter_known judged r p n s e q, blamed_least, content_least e m, entered_least e h m, known_in b e l q)
          (regrouped (as_fault j.least) _ _ _ _)

-- ── the whole content ──

holds : (t : Nodes) → Holds t
unfolding judge_nodes faults_in least child_in
holds end k in_int j b judged r l = sym (lesser_none (as_fault j.least))
holds (other p c following) k in_int j b judged r l =
    holds following k in_int (other_of j p c) b judged (reads_other p c r) (like_other j p c l)
    ∙ rw (other_least judged r p c) (blamed_first j.least (stray_faults (row_at k) p c) (faults_in (row_at k) in_int b following))
holds (element p n s kids following) k in_int j b judged r l =
    let i = judge_nodes (enter_of j p n s) kids in
    holds following k in_int (leave_of j p n s i) (behind (row_at k) b n) judged (reads_leave p n s i r) (like_leave judged r p n s i l)
    ∙ rw (child_least judged r p n s kids b (holds kids) l (entry_of (row_at k) n) refl, lesser_assoc, ← least_append, append_assoc)

-- Judging a text's elements finds the least of their faults.
pub judged : (t : Nodes) → as_fault (judge_nodes (fresh None 0 false) t).least ≡ least (element_faults t)
unfolding element_faults fresh as_fault lesser row_at
judged t = holds t 0 false (fresh None 0 false) nothing_before refl (record { row = refl; numeric = refl }) like_nothing
