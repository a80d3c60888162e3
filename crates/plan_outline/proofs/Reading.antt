-- Stages 4 to 12: what reading the content gives settles its outline.
use mathlib.Core.Path.{◌≡◌, refl, sym, ap, ◌∙◌}
use mathlib.Core.List.{List, []}
use mathlib.Core.Bool.{Bool, true, false, cond}
use mathlib.Core.Option.{Option, none, some}
use Prim.Native.Nat.{ℕ, ◌≤◌}
use native.Mathlib.Omega.{arith}
use borrow.Author.Rules.{rules}
use lib.Dec.{leb}
use lib.IntN.{ℤ}
use lib.ListN.{length}
use Rattle.std.specs.Prelude.{Some, None, Result, Ok, Err}
use Rattle.cdi.specs.Faults.{Fault, fault, least, Answer, ◌and_then◌, stage}
use Rattle.cdi.specs.Markup.{progress, markup_faults}
use Rattle.cdi.specs.Tree.{tree}
use Rattle.cdi.specs.Planning.{cut, markup}
use Rattle.rules_judge.specs.Judging.{Least}
use Rattle.judges_state.specs.Decoded.{least_in, judge_of}
use Rattle.tally_tag.specs.Tallying.{Leaves}
use Rattle.tallies_state.specs.Flat.{leaves_of, tally_of}
use Rattle.parse_sums.specs.Sums.{at_first, records_of}
use Rattle.parse_laws.proofs.Outside.{clean, folded_all}
use Rattle.parse_state.specs.States.{state_of}
use Rattle.parse_elements.specs.Reading.{ContentReads}
use Rattle.parse_elements.specs.declared.Reached.{Reached}
use Rattle.refusals.specs.declared.Refusal.{Refusal}
use Rattle.refusals.specs.Refusals.{refusal}
use Rattle.plan_stages.specs.declared.Planned.{Planned}
use Rattle.plan_stages.specs.Outlines.{Outline, sizes, of_markup, of_tree, in_room, said_of, Few, counted_by, addressed_by, ruled_by, settled_by}
use Rattle.plan_outline.proofs.Settling.{settled_of, settles}

-- stages 4 to 12, by the least fault of stages 4 to 7
marked : (c : List ℕ) (o : Option Fault) → least (markup_faults (length c) (progress [] 0) (cut c)) ≡ o → of_markup c ≡ (stage o (tree (cut c)) and_then of_tree)
unfolding of_markup markup of_tree
marked c none e = rw e
marked c (some f) e = rw e

-- the records of a text that was read are few
few_counted : (n v root : ℕ) → n ≤ 4096 → Few (counted_by n v root)
unfolding counted_by Few
few_counted n v root h = by (leb v 1000000)
  where
    by : (b : Bool) → Few (cond b (Ok (sizes n v)) (Err (refusal 12 root)))
    by true = h
    by false = tt

few_addressed : (l : Leaves) (r : Result Planned Refusal) → Few r → Few (addressed_by l r)
unfolding addressed_by Few
few_addressed None r h = h
few_addressed (Some p) r h = tt

few_ruled : (l : Least) (r : Result Planned Refusal) → Few r → Few (ruled_by l r)
unfolding ruled_by Few
few_ruled None r h = h
few_ruled (Some f) r h = tt

pub few_refused : (r : Refusal) → Few (Err r)
unfolding Few
few_refused r = tt

module _ {c : List ℕ} {t t' : List ℤ} {r : Reached} (w : ContentReads c 24 22 0 at_first t t' r) where
  pub not_read : (r.number ≡ 0 → ⊥) → said_of (Err (refusal r.number r.place)) t' ≡ (of_markup c and_then in_room (length t))
  unfolding said_of cut
  not_read z = sym (rw (marked c (some (fault r.number r.place)) ((w.fails z).first [] refl)))

  module _ (z : r.number ≡ 0) {p : Result Planned Refusal} (q : p ≡ settled_by (least_in r.state.judge.least) (leaves_of r.state.tally.leaves) r.state.tally.records r.state.tally.total r.state.tally.root) where
    few : r.state.tally.records ≤ 4096
    unfolding records_of state_of tally_of
    few = omega (arith, (w.done z).few, (w.done z).begun)

    meant : p ≡ settled_of (state_of r.state)
    unfolding state_of judge_of tally_of
    meant = q

    pub was_read : said_of p t' ≡ (of_markup c and_then in_room (length t))
    unfolding cut state_of tally_of least
    was_read =
        let none_is = ap least (clean (w.done z) (w.over z refl).0 (w.over z refl).1) in
        ap (λ (x : Result Planned Refusal). said_of x t') meant
        ∙ settles t (tree (cut c)) (state_of r.state) t' (sym (folded_all (w.done z) (w.over z refl).0)) few
        ∙ ap (λ (a : Answer Outline). a and_then in_room (length t)) (sym (marked c none none_is))

    pub few_read : Few p
    unfolding settled_by
    few_read = rw q (few_ruled (least_in r.state.judge.least) _ (few_addressed (leaves_of r.state.tally.leaves) _ (few_counted _ _ _ few)))

pub ruleset outlines = (not_read, was_read, few_read, few_refused, rules)
