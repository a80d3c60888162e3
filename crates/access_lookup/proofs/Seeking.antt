-- A variable of a text and a table that have been checked.
use mathlib.Core.Path.{◌≡◌, refl, sym, ap, ◌∙◌}
use mathlib.Core.List.{List}
use mathlib.Core.Bool.{true}
use mathlib.Core.Option.{Option, none, some}
use mathlib.Core.Logic.{⊎_elim}
use Prim.Native.Nat.{ℕ, ◌+◌, ◌-◌, ◌*◌, ◌≤◌, ◌<◌}
use native.Mathlib.Omega.{arith}
use borrow.Author.Rules.{rules}
use lib.IntN.{ℤ}
use lib.ListN.{length, take, drop, length-take}
use Rattle.cdi.specs.Lists.{given, is_some, ◌>>=◌}
use Rattle.cdi.specs.Faults.{fault, accepted, ◌and_then◌}
use Rattle.cdi.specs.Text.{zero_from, end_of, content}
use Rattle.cdi.specs.Tree.{end, top, tree}
use Rattle.cdi.specs.Rules.{natural}
use Rattle.cdi.specs.Walk.{Found}
use Rattle.cdi.specs.Table.{same_table, table_of}
use Rattle.cdi.specs.Plans.{field, is_plan, segments_of, variable_of}
use Rattle.cdi.specs.Planning.{Description, cut, described}
use Rattle.cdi.specs.Access.{content_at, exact, setting_in, setting_of}
use Rattle.cdi.proofs.Quiet.{impossible, through, test_passed}
use Rattle.cdi.proofs.PlanOf.{same_table_law}
use Rattle.cdi.proofs.Stages.{first_zero, stages}
use Rattle.cdi.proofs.Settings.{described_nodes, variable_stands, setting_fits}
use Rattle.cdi.proofs.Promises.{table_is_plan, table_decodes}
use Rattle.scan.proofs.Tests.{lt_or_le}
use Rattle.locate.specs.Answers.{found_as, told_of, Held}
use Rattle.std.specs.Prelude.{Result, Ok, Err}
use Rattle.locate.specs.declared.Variable.{Variable as One}
use Rattle.locate.specs.declared.Absent.{Absent}
use Rattle.locate.specs.declared.Absent.TheVariants.{NotAPlan, NoVariable}
use Rattle.levels.specs.Ahead.{here}
use Rattle.children.specs.Siblings.{nodes_in, Inside}
use Rattle.children.specs.declared.Part.{Part}
use Rattle.children.proofs.Turning.{nothing_ahead}
use Rattle.settings.specs.Contents.{content_in}
use Rattle.settings.proofs.Rereading.{content_place}
use Rattle.access_lookup.specs.Told.{end_in, known_of, lookup_of, Fits}
use Rattle.access_kinds.specs.Told.{setting_is}
use Rattle.access_kinds.specs.declared.Setting.{Setting}
use Rattle.refusals.specs.declared.Refusal.{Refusal}
use Rattle.refusals.specs.Refusals.{refusal}

-- ── what was checked ──

-- what a text and the table planned from it describe
record Known (b : List ℕ) (t : List ℤ) (e : ℕ) : Type 0 where
  told : Description
  describes : described b ≡ accepted told
  same : same_table t (table_of told.segments) ≡ true
  table : t ≡ table_of told.segments
  ends : e ≡ end_in b

known : (b : List ℕ) (t : List ℤ) (e : ℕ) → known_of b t ≡ accepted e → Known b t e
unfolding known_of exact
known b t e h =
    through (described b and_then exact t) (λ d. accepted (end_in b)) e h λ d p z.
    through (described b) (exact t) d p λ c q y.
    let k = test_passed (same_table t (table_of c.segments)) (fault 20 0) c d y in
    record { told = c; describes = q; same = k.0; table = same_table_law t _ k.0; ends = cc }

-- the content, by its end
content_by_end : (b c : List ℕ) → content b ≡ some c → (c ≡ take (end_in b) b) × (end_in b ≤ length b)
unfolding content end_in end_of
content_by_end b c h = by (zero_from 0 (take 65536 b)) refl h
  where
    by : (o : Option ℕ) → zero_from 0 (take 65536 b) ≡ o → (o >>= λ e. some (take e b)) ≡ some c → (c ≡ take (given o 0 (λ e. e)) b) × (given o 0 (λ e. e) ≤ length b)
    by none q e = impossible (cc)
    by (some z) q e = (cc, (let l = first_zero 0 (take 65536 b) z q in omega (arith, l, length-take 65536 b)))

nothing_here : (c : List ℕ) (f : ℕ) → length c ≤ f → here c f ≡ end
unfolding tree top
nothing_here c f h = ap top (nothing_ahead c f h)

-- the part of the text that is lent on
pub lent : (b : List ℕ) (e : ℕ) → take (e - 0) (drop 0 b) ≡ take e b
lent b e = let l : e - 0 ≡ e = omega arith in ap (λ m. take m b) l

module _ (b : List ℕ) (t : List ℤ) {e : ℕ} (h : known_of b t ≡ accepted e) where
  abbrev c : List ℕ
  c = take e b

  k : Known b t e
  k = known b t e h

  d : Description
  d = k.told

  nodes_are : d.nodes ≡ here c 22
  unfolding d cut
  nodes_are =
      let s = stages b d k.describes in
      let w = content_by_end b s.text s.ends in
      sym (ap (λ x. x.nodes) s.told) ∙ described_nodes _ _ ∙ ap (λ x. here x 22) (w.0 ∙ ap (λ n. take n b) (sym k.ends))

  pub known_end : e ≤ length b
  unfolding d
  known_end = let s = stages b d k.describes in let w = content_by_end b s.text s.ends in omega (arith, w.1, k.ends)

  pub known_plan : is_plan t ≡ true
  unfolding d
  known_plan = rw k.table (table_is_plan b d k.describes)

  segments_are : segments_of t ≡ d.segments
  unfolding d
  segments_are = ap segments_of k.table ∙ table_decodes b d k.describes

  setting_is_law : (n : ℕ) → setting_of b t n ≡ setting_in t n d
  unfolding setting_of exact d
  setting_is_law n = rw (k.describes, k.same)

  module _ (n : ℕ) {r : Result One Absent} (f : told_of r ≡ variable_of (segments_of t) n) where
    -- no such variable
    pub seek_none : r ≡ Err NoVariable → lookup_of c (Err (refusal 21 0)) ≡ setting_of b t n
    unfolding lookup_of setting_in told_of
    seek_none q = sym (setting_is_law n ∙ rw (ap (λ x. variable_of x n) (sym segments_are) ∙ sym f ∙ ap told_of q))

    pub seek_no_plan : r ≡ Err NotAPlan → lookup_of c (Err (refusal 20 0)) ≡ setting_of b t n
    unfolding lookup_of setting_in told_of
    seek_no_plan q = sym (setting_is_law n ∙ rw (ap (λ x. variable_of x n) (sym segments_are) ∙ sym f ∙ ap told_of q))

    module _ {v : One} (g : r ≡ Ok v) where
      abbrev variable : Found
      variable = found_as v

      found : variable_of d.segments n ≡ accepted variable
      unfolding told_of
      found = ap (λ x. variable_of x n) (sym segments_are) ∙ sym f ∙ ap told_of g

      pub stands : {p : ℕ} → p ≡ natural (field t v.record 1) → is_some (content_at p (here (take (e - 0) (drop 0 b)) 22)) ≡ true
      unfolding d
      stands {p} l = rw (l, lent b e) (rw nodes_are at (variable_stands b t n d variable k.describes k.table found))

      pub stands_inside : {p : ℕ} → p ≡ natural (field t v.record 1) → p < length (take (e - 0) (drop 0 b))
      stands_inside l = content_place (take (e - 0) (drop 0 b)) 22 _ (stands l)

      pub stands_behind : {p : ℕ} → p ≡ natural (field t v.record 1) → 22 ≤ length (take (e - 0) (drop 0 b))
      unfolding content_at is_some
      stands_behind {p} l = ⊎_elim
          (λ x. let y : is_some (content_at p end) ≡ true = rw (nothing_here (take (e - 0) (drop 0 b)) 22 (omega arith)) at (stands l) in impossible (cc))
          (λ x. x)
          (lt_or_le (length (take (e - 0) (drop 0 b))) 22)

      module _ {p : ℕ} (l : p ≡ natural (field t v.record 1)) (x : Part) (m : nodes_in (take (e - 0) (drop 0 b)) x ≡ content_at p (here (take (e - 0) (drop 0 b)) 22)) where
        abbrev it : Setting
        it = record { number = v.record; space = v.space; address = v.address; size = v.size; kind = v.kind; part = x }

        pub seek_is : lookup_of c (Ok it) ≡ setting_of b t n
        unfolding lookup_of setting_is setting_in content_in
        seek_is = sym (setting_is_law n ∙ rw (found, nodes_are, sym (rw (lent b e, l) at m)))

        pub seek_fits : Inside (take (e - 0) (drop 0 b)) x → Fits c (Ok it)
        unfolding Fits lookup_of
        seek_fits y = record { inside = rw (lent b e) at y; fits = setting_fits b t n (setting_is c it) (sym seek_is) }

pub nothing_fits : (c : List ℕ) (r : Refusal) → Fits c (Err r)
unfolding Fits
nothing_fits c r = tt

pub held_record : (t : List ℤ) {r : Result One Absent} → Held t r → (v : One) → r ≡ Ok v → v.record * 8 + 8 ≤ length t
unfolding Held
held_record t h v g = rw g at h

pub ruleset seeking = (known_end, known_plan, seek_none, seek_no_plan, stands, stands_inside, stands_behind, seek_is, seek_fits, nothing_fits, held_record, rules)
