-- Stages 8 to 12: what was summed up over the elements of a text without faults of stages 4 to 7 settles its outline.
use mathlib.Core.Path.{◌≡◌, refl, sym, ap, ◌∙◌}
use mathlib.Core.List.{List, [], ◌∷◌, ◌++◌}
use mathlib.Core.Bool.{true, false}
use mathlib.Core.Option.{none, some}
use mathlib.Core.Logic.{⊎_elim}
use Prim.Native.Nat.{ℕ, zero, suc, ◌*◌, ◌≤◌, ◌<◌, min}
use native.Mathlib.Omega.{arith}
use borrow.Author.Tests.{le-leb, lt-leb}
use lib.Dec.{leb}
use lib.IntN.{ℤ, pos}
use lib.ListN.{length, take, replicate, length-append, length-replicate}
use lib.Seq.{sets, sets-eq, take_at, take-append_seam}
use Rattle.std.specs.Prelude.{Some, None, Result, Ok, Err}
use Rattle.cdi.specs.Faults.{Fault, fault, least, Answer, accepted, refused, ◌and_then◌}
use Rattle.cdi.specs.Tree.{Nodes}
use Rattle.cdi.specs.Rules.{element_faults}
use Rattle.cdi.specs.Walk.{total}
use Rattle.cdi.specs.Table.{table_of, records_of}
use Rattle.cdi.specs.Planning.{Description, describe, elements, leaving, addressing, counting}
use Rattle.cdi.proofs.Quiet.{quiet}
use Rattle.cdi.proofs.PlanOf.{length_table}
use Rattle.scan.proofs.Tests.{lt_or_le}
use Rattle.rules_judge.specs.declared.Judge.{Judge}
use Rattle.rules_judge.specs.Judging.{Least}
use Rattle.rules_judge.specs.Judging as J
use Rattle.rules.proofs.Judged.{judged}
use Rattle.tally_tag.specs.declared.Tally.{Tally}
use Rattle.tally_tag.specs.Tallying as G
use Rattle.tally_tag.specs.Tallying.{Leaves, Tallied}
use Rattle.tally.proofs.Tallied.{records_tallied, leaves_tallied, total_tallied, table_tallied}
use Rattle.parse_sums.specs.declared.State.{State}
use Rattle.parse_sums.specs.Sums.{at_first}
use Rattle.parse_sums.specs.Folding.{Folded, folded, fold_nodes}
use Rattle.parse_sums.proofs.Splitting.{judge_alone, tally_alone, table_alone, root_alone}
use Rattle.parse_sums.proofs.Shorter.{front, fold_front}
use Rattle.refusals.specs.declared.Refusal.{Refusal}
use Rattle.refusals.specs.Refusals.{refusal}
use Rattle.plan_stages.specs.declared.Planned.{Planned}
use Rattle.plan_stages.specs.Outlines.{Outline, outline, outlined, sizes, of_tree, in_room, said_of, counted_by, addressed_by, ruled_by, settled_by}
use Rattle.plan_stages.proofs.Settling.{few_enough, too_many}

-- stages 8 to 12 of a state at the end
abbrev pub settled_of : State → Result Planned Refusal
settled_of st = settled_by st.judge.least st.tally.leaves st.tally.records st.tally.total st.root

-- rows that were written from the front stand in front
in_front : (t r : List ℤ) {n : ℕ} → length r ≡ n → n ≤ length t → take n (sets t 0 r) ≡ r
in_front t r {n} e h = ap (take n) (sets-eq r t 0 (omega (arith, e))) ∙ take_at r _ n e

-- stage 12
counts : (d : Description) → leb (total d.segments) 1000000 ≡ true → (counting d and_then outlined) ≡ accepted (outline (records_of d.segments) (total d.segments) (table_of d.segments))
unfolding counting outlined
counts d k = rw k

counts_not : (d : Description) → leb (total d.segments) 1000000 ≡ false → (counting d and_then outlined) ≡ refused (fault 12 d.root)
unfolding counting
counts_not d k = rw k

-- stage 11
keeps : (d : Description) → leaving 0 d.segments ≡ none → (addressing d and_then counting and_then outlined) ≡ (counting d and_then outlined)
unfolding addressing
keeps d k = rw k

keeps_not : (d : Description) {f : Fault} → leaving 0 d.segments ≡ some f → (addressing d and_then counting and_then outlined) ≡ refused f
unfolding addressing
keeps_not d k = rw k

-- stages 8 to 10
clean : (u : Nodes) → least (element_faults u) ≡ none → of_tree u ≡ (addressing (describe u u) and_then counting and_then outlined)
unfolding of_tree elements
clean u k = rw k

unclean : (u : Nodes) {f : Fault} → least (element_faults u) ≡ some f → of_tree u ≡ refused f
unfolding of_tree elements
unclean u k = rw k

module _ (t : List ℤ) (u : Nodes) (st : State) (t' : List ℤ) (q : folded st t' ≡ fold_nodes at_first t u) where
  abbrev tallied : Tallied
  tallied = G.tally_nodes G.at_start t u

  abbrev told : Description
  told = describe u u

  abbrev last : Result Planned Refusal
  last = counted_by st.tally.records st.tally.total st.root

  least_is : J.as_fault st.judge.least ≡ least (element_faults u)
  unfolding at_first
  least_is = ap (λ (f : Folded). J.as_fault f.state.judge.least) q ∙ ap (λ (j : Judge). J.as_fault j.least) (judge_alone at_first t u) ∙ judged u

  tally_is : st.tally ≡ tallied.tally
  unfolding at_first
  tally_is = ap (λ (f : Folded). f.state.tally) q ∙ tally_alone at_first t u

  table_is : t' ≡ tallied.table
  unfolding at_first
  table_is = ap (λ (f : Folded). f.table) q ∙ table_alone at_first t u

  root_is : st.root ≡ told.root
  unfolding at_first G.at_start
  root_is = ap (λ (f : Folded). f.state.root) q ∙ root_alone at_first t u u refl refl

  module _ (room : 8 * st.tally.records ≤ length t) where
    module _ (h : element_faults u ≡ []) where
      records_are : st.tally.records ≡ records_of told.segments
      records_are = ap (λ (g : Tally). g.records) tally_is ∙ records_tallied t u h

      leaves_are : G.as_fault st.tally.leaves ≡ leaving 0 told.segments
      leaves_are = ap (λ (g : Tally). G.as_fault g.leaves) tally_is ∙ leaves_tallied t u h

      module _ (k : leaving 0 told.segments ≡ none) where
        total_is : st.tally.total ≡ min (total told.segments) 1000001
        total_is = ap (λ (g : Tally). g.total) tally_is ∙ total_tallied t u h k

        rows_are : total told.segments ≤ 1000000 → take (8 * st.tally.records) t' ≡ table_of told.segments
        rows_are m =
            ap (λ (x : List ℤ). take (8 * st.tally.records) x) (table_is ∙ table_tallied t u h k m)
            ∙ in_front t (table_of told.segments) (length_table told.segments ∙ ap (λ n. 8 * n) (sym records_are)) (omega arith)

        enough : st.tally.total ≤ 1000000 → said_of (Ok (sizes st.tally.records st.tally.total)) t' ≡ (counting told and_then outlined)
        unfolding said_of
        enough m =
            let l : total told.segments ≤ 1000000 = omega (arith, total_is) in
            let e : st.tally.total ≡ total told.segments = omega (arith, total_is) in
            ap (λ n. accepted (outline n st.tally.total (take (8 * st.tally.records) t'))) records_are
            ∙ ap (λ v. accepted (outline (records_of told.segments) v (take (8 * st.tally.records) t'))) e
            ∙ ap (λ r. accepted (outline (records_of told.segments) (total told.segments) r)) (rows_are l)
            ∙ sym (counts told (le-leb _ _ l))

        many : 1000000 < st.tally.total → said_of (Err (refusal 12 st.root)) t' ≡ (counting told and_then outlined)
        unfolding said_of
        many m =
            let l : 1000000 < total told.segments = omega (arith, total_is) in
            ap (λ p. refused (fault 12 p)) root_is ∙ sym (counts_not told (lt-leb _ _ l))

        counted : said_of last t' ≡ (counting told and_then outlined)
        counted = ⊎_elim
            (λ m. ap (λ r. said_of r t') (sym (too_many st.tally.records st.tally.total st.root m)) ∙ many m)
            (λ m. ap (λ r. said_of r t') (sym (few_enough st.tally.records st.tally.total st.root m)) ∙ enough m)
            (lt_or_le 1000000 st.tally.total)

      measures : (l : Leaves) → st.tally.leaves ≡ l → said_of (addressed_by l last) t' ≡ (addressing told and_then counting and_then outlined)
      unfolding G.as_fault addressed_by said_of
      measures None e = let k = sym leaves_are ∙ ap G.as_fault e in counted k ∙ sym (keeps told k)
      measures (Some p) e = sym (keeps_not told (sym leaves_are ∙ ap G.as_fault e))

    judges : (l : Least) → st.judge.least ≡ l → said_of (ruled_by l (addressed_by st.tally.leaves last)) t' ≡ of_tree u
    unfolding J.as_fault ruled_by said_of
    judges None e =
        let k = sym least_is ∙ ap J.as_fault e in
        measures (quiet (element_faults u) k) st.tally.leaves refl ∙ sym (clean u k)
    judges (Some f) e = sym (unclean u (sym least_is ∙ ap J.as_fault e))

    -- Where the table had room for all records, the state at the end settles stages 8 to 12.
    settles_in_room : said_of (settled_of st) t' ≡ of_tree u
    unfolding settled_by
    settles_in_room = judges st.judge.least refl

-- ── rows that may be too few ──

take_swap : (m n : ℕ) (t : List ℤ) → take m (take n t) ≡ take n (take m t)
take_swap zero zero t = refl
take_swap zero (suc n) t = refl
take_swap (suc m) zero t = refl
take_swap (suc m) (suc n) [] = refl
take_swap (suc m) (suc n) (x ∷ t) = ap (λ (r : List ℤ). x ∷ r) (take_swap m n t)

said_front : (l : ℕ) (r : Result Planned Refusal) (t : List ℤ) → said_of r (take l t) ≡ (said_of r t and_then in_room l)
unfolding said_of in_room
said_front l (Ok d) t = ap (λ x. accepted (outline d.records d.variables x)) (take_swap (8 * d.records) l t)
said_front l (Err r) t = refl

-- The state at the end settles stages 8 to 12, and the table holds the rows for which it had room: it is the front of a table with room for all.
pub settles : (t : List ℤ) (u : Nodes) (st : State) (t' : List ℤ) → folded st t' ≡ fold_nodes at_first t u → st.tally.records ≤ 4096 → said_of (settled_of st) t' ≡ (of_tree u and_then in_room (length t))
settles t u st t' q few =
    ap (λ (x : List ℤ). said_of (settled_of st) x) (ap (λ (f : Folded). f.table) same)
    ∙ said_front (length t) (settled_of st) large.table
    ∙ ap (λ (a : Answer Outline). a and_then in_room (length t)) (settles_in_room longer u st large.table whole enough)
  where
    longer : List ℤ
    longer = t ++ replicate 32768 (pos 0)

    large : Folded
    large = fold_nodes at_first longer u

    same : folded st t' ≡ front (length t) large
    same = q ∙ ap (λ (x : List ℤ). fold_nodes at_first x u) (sym (take-append_seam t (replicate 32768 (pos 0)))) ∙ fold_front (length t) at_first longer u

    whole : folded st large.table ≡ fold_nodes at_first longer u
    whole = ap (λ (f : Folded). folded f.state large.table) same

    enough : 8 * st.tally.records ≤ length longer
    enough = omega (arith, few, length-append t (replicate 32768 (pos 0)), length-replicate 32768 (pos 0))
