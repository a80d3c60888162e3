-- The table of an accepted text holds a plan at its front.
use mathlib.Core.Path.{◌≡◌, refl, sym, ap, ◌∙◌}
use mathlib.Core.List.{List}
use mathlib.Core.Bool.{true}
use Prim.Native.Nat.{ℕ, ◌*◌, ◌-◌, ◌≤◌}
use native.Mathlib.Omega.{arith}
use native.Mathlib.Decide.{dec_le}
use lib.IntN.{ℤ}
use lib.ListN.{length, take, drop}
use lib.Seq.{take_at}
use Rattle.cdi.specs.Faults.{Answer, accepted, refused}
use Rattle.cdi.specs.Table.{records_of, table_of}
use Rattle.cdi.specs.Plans.{is_plan}
use Rattle.cdi.specs.Planning.{Description, Counts, described, planned, counts_of, placed, table_after}
use Rattle.cdi.proofs.Room.{fits, fits_table, short, refuses}
use Rattle.cdi.proofs.Promises.{table_is_plan}
use Rattle.cdi.proofs.PlanOf.{length_table}
use Rattle.cdi.proofs.Quiet.{impossible}
use Rattle.std.specs.Prelude.{Result, Ok}
use Rattle.refusals.specs.declared.Refusal.{Refusal}
use Rattle.plan_stages.specs.declared.Planned.{Planned}
use Rattle.plan_stages.specs.Outlines.{answer_of}

same_records : (c c' : Counts) → accepted c ≡ accepted c' → c.records ≡ c'.records
same_records c c' e = let y : c ≡ c' = cc in ap (λ (x : Counts). x.records) y

module _ (b : List ℕ) (t : List ℤ) {a : Result Planned Refusal} (e : answer_of a ≡ planned b t) {d : Planned} (q : a ≡ Ok d) where
  abbrev n : ℕ
  n = d.records

  counts : accepted (record { records = n; variables = d.variables }) ≡ planned b t
  unfolding answer_of
  counts = sym (ap answer_of q) ∙ e

  -- what the text describes, and that it has room
  told : {P : Type 0} → ((w : Description) → described b ≡ accepted w → n ≡ records_of w.segments → 8 * n ≤ length t → P) → P
  unfolding counts_of
  told {P} f = by (described b) refl
    where
      by : (w : Answer Description) → described b ≡ w → P
      by (refused g) k = let x = counts ∙ refuses b t g k in impossible (cc)
      by (accepted w) k = held (dec_le (8 * records_of w.segments) (length t))
        where
          held : Dec (8 * records_of w.segments ≤ length t) → P
          held (yes h) =
              let z : n ≡ records_of w.segments = same_records _ _ (counts ∙ fits b t w k h) in
              f w k z (omega arith)
          held (no h) = let x = counts ∙ short b t w k (omega arith) in impossible (cc)

  pub has_room_law : 8 * n ≤ length t
  has_room_law = told λ w k z h. h

  pub plan_in_front : (t' : List ℤ) → t' ≡ table_after b t → is_plan (take (8 * n - 0) (drop 0 t')) ≡ true
  unfolding placed
  plan_in_front t' g = told λ w k z h.
      let l : length (table_of w.segments) ≡ 8 * n - 0 = omega (arith, length_table w.segments) in
      let m : 8 * records_of w.segments ≤ length t = omega arith in
      ap (λ (x : List ℤ). is_plan (take (8 * n - 0) x)) (g ∙ fits_table b t w k m)
      ∙ ap is_plan (take_at (table_of w.segments) (drop (length (table_of w.segments)) t) (8 * n - 0) l)
      ∙ table_is_plan b w k
