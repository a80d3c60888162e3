-- What planning promises, of any call that meets the contract of `plan`: r is its answer, t the table before it and u the table afterwards.
use mathlib.Core.Path.{◌≡◌, refl, sym, ap, ◌∙◌}
use mathlib.Core.List.{List, []}
use mathlib.Core.Bool.{Bool, true, false}
use mathlib.Core.Option.{Option, none, some}
use mathlib.Core.Logic.{⊎_elim}
use Prim.Native.Nat.{ℕ, ◌*◌, ◌≤◌, ◌<◌}
use native.Mathlib.Omega.{arith}
use borrow.Author.Tests.{le-leb, leb-true}
use lib.Dec.{leb}
use lib.IntN.{ℤ}
use lib.ListN.{length, take, get_or}
use lib.Seq.{take_at}
use Rattle.std.specs.Prelude.{Result, Ok, Err}
use Rattle.cdi.specs.Lists.{begins}
use Rattle.cdi.specs.Faults.{fault, least, Answer, accepted, refused, ◌and_then◌}
use Rattle.cdi.specs.Text.{content, bad_character, first_line}
use Rattle.cdi.specs.Markup.{progress, markup_faults}
use Rattle.cdi.specs.Tree.{tree}
use Rattle.cdi.specs.Rules.{element_faults}
use Rattle.cdi.specs.Walk.{Segment, Found, walk, total}
use Rattle.cdi.specs.Table.{records_of, table_of}
use Rattle.cdi.specs.Plans.{is_plan, locating}
use Rattle.cdi.specs.Planning.{Description, Counts, describe, ending, characters, opening, cut, markup, elements, leaving, addressing, counting, described, counts_of, room, planned, placed, table_after}
use Rattle.cdi.proofs.Quiet.{impossible, through, test_passed}
use Rattle.cdi.proofs.PlanOf.{length_table}
use Rattle.cdi.proofs.Stages.{stages}
use Rattle.scan.proofs.Tests.{lt_or_le}
use Rattle.cdi.proofs.Room.{fits, fits_table, refuses_table, short_table}
use Rattle.cdi.proofs.Promises.{table_is_plan, table_locates, nth_is, nth_none}
use Rattle.refusals.specs.declared.Refusal.{Refusal}
use Rattle.refusals.specs.Refusals.{refusal}
use Rattle.plan_stages.specs.declared.Planned.{Planned}
use Rattle.plan_stages.specs.Outlines.{sizes, answer_of}

-- ── accepted exactly where no stage has a fault ──

-- what content c describes, if it has no fault
abbrev pub told : List ℕ → List Segment
told c = (describe (tree (cut c)) (tree (cut c))).segments

-- no stage has a fault: b is a text with content c, and t is the table
pub record Faultless (b : List ℕ) (t : List ℤ) (c : List ℕ) : Type 0 where
  pub ends : content b ≡ some c
  pub allowed : bad_character c ≡ none
  pub opens : begins first_line c ≡ true
  pub formed : markup_faults (length c) (progress [] 0) (cut c) ≡ []
  pub ruled : element_faults (tree (cut c)) ≡ []
  pub inside : leaving 0 (told c) ≡ none
  pub counted : total (told c) ≤ 1000000
  pub roomy : 8 * records_of (told c) ≤ length t

module _ (b : List ℕ) (t : List ℤ) where
  faultless_described : (c : List ℕ) → Faultless b t c → described b ≡ accepted (describe (tree (cut c)) (tree (cut c)))
  unfolding described ending characters opening markup elements addressing counting least
  faultless_described c f = rw (f.ends, f.allowed, f.opens, f.formed, f.ruled, f.inside, le-leb _ _ f.counted)

  pub faultless_accepted : (c : List ℕ) → Faultless b t c → planned b t ≡ accepted (counts_of (told c))
  faultless_accepted c f = fits b t _ (faultless_described c f) f.roomy

  module _ (d : Description) (h : described b ≡ accepted d) (c : List ℕ) (e : content b ≡ some c) where
    characters_passed : (o : Option ℕ) → bad_character c ≡ o → o ≡ none
    unfolding described ending characters
    characters_passed none q = refl
    characters_passed (some p) q = let z : described b ≡ refused (fault 2 p) = rw (e, q) in impossible (cc)

    opening_passed : (o : Bool) → begins first_line c ≡ o → o ≡ true
    unfolding described ending characters opening
    opening_passed true q = refl
    opening_passed false q = let z : described b ≡ refused (fault 3 0) = rw (e, characters_passed _ refl, q) in impossible (cc)

  -- what an accepted text describes, in n records and v variables
  pub record Told (n v : ℕ) : Type 0 where
    pub text : List ℕ
    pub faultless : Faultless b t text
    pub records : n ≡ records_of (told text)
    pub variables : v ≡ total (told text)

  module _ {r : Result Planned Refusal} (a : answer_of r ≡ planned b t) {n v : ℕ} (e : r ≡ Ok (sizes n v)) where
    -- an accepted text has no fault
    pub accepted_faultless : Told n v
    unfolding answer_of planned room counts_of
    accepted_faultless =
        through (described b) (room t) _ (sym a ∙ ap answer_of e) λ d p roomy.
        let s = stages b d p in
        let g = test_passed (leb (8 * records_of d.segments) (length t)) (fault 13 0) (counts_of d.segments) _ roomy in
        let segments : d.segments ≡ told s.text = ap (λ (x : Description). x.segments) (sym s.told) in
        record {
          text = s.text;
          faultless = record {
            ends = s.ends;
            allowed = characters_passed d p s.text s.ends _ refl;
            opens = opening_passed d p s.text s.ends _ refl;
            formed = s.marked;
            ruled = s.ruled;
            inside = rw segments at s.keeps;
            counted = leb-true _ _ (rw segments at s.counts);
            roomy = leb-true _ _ (rw segments at g.0);
          };
          records = ap (λ (k : Counts). k.records) (sym g.1) ∙ ap records_of segments;
          variables = ap (λ (k : Counts). k.variables) (sym g.1) ∙ ap total segments;
        }

    -- ── the table of an accepted text ──

    module _ {u : List ℤ} (w : u ≡ table_after b t) where
      abbrev settings : List Segment
      settings = told accepted_faultless.text

      table_is : u ≡ placed (table_of settings) t
      table_is = let f = accepted_faultless.faultless in w ∙ fits_table b t _ (faultless_described accepted_faultless.text f) f.roomy

      -- its records stand at the front
      pub records_in_front : take (8 * n) u ≡ table_of settings
      unfolding placed
      records_in_front =
          let q : length (table_of settings) ≡ 8 * n = length_table settings ∙ ap (λ k. 8 * k) (sym accepted_faultless.records) in
          ap (take (8 * n)) table_is ∙ take_at (table_of settings) _ (8 * n) q

      abbrev known : described b ≡ accepted (describe (tree (cut accepted_faultless.text)) (tree (cut accepted_faultless.text)))
      known = faultless_described accepted_faultless.text accepted_faultless.faultless

      -- they are a plan
      pub records_are_plan : is_plan (take (8 * n) u) ≡ true
      records_are_plan = ap is_plan records_in_front ∙ table_is_plan b _ known

      -- asked of them alone, variable k below the count is entry k of the walk that copies out every group of the description
      pub located : (k : ℕ) (o : Found) → k < v → locating (take (8 * n) u) k ≡ accepted (get_or (walk settings) k o)
      located k o h =
          ap (λ (x : List ℤ). locating x k) records_in_front ∙ table_locates b _ known k ∙ nth_is settings k o (omega (arith, accepted_faultless.variables))

      -- from the count on there is none
      pub not_located : (k : ℕ) → v ≤ k → locating (take (8 * n) u) k ≡ refused (fault 21 0)
      not_located k h =
          ap (λ (x : List ℤ). locating x k) records_in_front ∙ table_locates b _ known k ∙ nth_none settings k (omega (arith, accepted_faultless.variables))

  -- ── a refusal ──

  -- A refusal leaves the table as it was.
  pub refusal_keeps : {r : Result Planned Refusal} {n p : ℕ} {u : List ℤ} → answer_of r ≡ planned b t → r ≡ Err (refusal n p) → u ≡ table_after b t → u ≡ t
  unfolding answer_of planned
  refusal_keeps {r} {n} {p} {u} a e w = w ∙ by (described b) refl (sym a ∙ ap answer_of e)
    where
      by : (d : Answer Description) → described b ≡ d → (d and_then room t) ≡ refused (fault n p) → table_after b t ≡ t
      by (refused f) q h = refuses_table b t f q
      by (accepted d) q h = ⊎_elim (λ l. short_table b t d q l) (λ l. let z = fits b t d q l in let y : planned b t ≡ refused (fault n p) = rw q h in impossible (cc)) (lt_or_le (length t) (8 * records_of d.segments))
