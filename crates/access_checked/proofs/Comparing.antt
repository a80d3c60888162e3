-- The table compared with the rows that the text describes.
use mathlib.Core.Path.{◌≡◌, refl, sym, ap, ◌∙◌}
use mathlib.Core.List.{List}
use mathlib.Core.Bool.{Bool, true, false, cond, ◌&&◌}
use mathlib.Core.Logic.{⊎_elim}
use Prim.Native.Nat.{ℕ, ◌-◌, ◌*◌, ◌≤◌, ◌<◌, min}
use native.Mathlib.Omega.{arith}
use borrow.Author.Rules.{rules}
use borrow.Author.Tests.{le-leb, lt-leb}
use lib.Dec.{leb}
use lib.IntN.{ℤ}
use lib.ListN.{length, take, drop}
use lib.Seq.{take_all}
use Rattle.std.specs.Prelude.{Result, Ok, Err}
use Rattle.cdi.specs.Faults.{fault, Answer, accepted, refused, ◌and_then◌}
use Rattle.cdi.specs.Table.{same_table, table_of}
use Rattle.cdi.specs.Planning.{Description, ending, characters, opening, markup, elements, addressing, counting, described}
use Rattle.cdi.specs.Access.{exact}
use Rattle.cdi.proofs.PlanOf.{same_table_law}
use Rattle.scan.proofs.Tests.{lt_or_le}
use Rattle.plan_opening.specs.Openings.{opened_of, Ended}
use Rattle.plan_opening.proofs.Lent.{lent_end, lent_whole, lent_long, lent_short}
use Rattle.refusals.specs.declared.Refusal.{Refusal}
use Rattle.refusals.specs.Refusals.{refusal}
use Rattle.plan_stages.specs.declared.Planned.{Planned}
use Rattle.plan_stages.specs.Outlines.{Outline, outlined, of_markup, in_room, said_of, Few}
use Rattle.plan_table.proofs.Placing.{not_described, is_counted, few_told}
use Rattle.access_lookup.specs.Told.{end_in, known_of}
use Rattle.access_checked.specs.Told.{checked_of, same_rows, compared_of, compared_by}

-- ── two tables ──

module _ (t r : List ℤ) {m : ℕ} where
  pub too_few : length r < m → false ≡ (leb m (length r) && same_table t (take m r))
  too_few h = rw (lt-leb m (length r) h)

  pub front_rows : {x : Bool} → m ≤ length r → x ≡ same_table t (take (m - 0) (drop 0 r)) → x ≡ (leb m (length r) && same_table t (take m r))
  front_rows h e = let l : m - 0 ≡ m = omega arith in e ∙ ap (λ k. same_table t (take k r)) l ∙ rw (le-leb m (length r) h)

pub ruleset fronts_compared = (too_few, front_rows, rules)

-- tables of other lengths are not the same
apart : (t u : List ℤ) → (length t ≡ length u → ⊥) → same_table t u ≡ false
apart t u h = by (same_table t u) refl
  where
    by : (b : Bool) → same_table t u ≡ b → b ≡ false
    by false e = refl
    by true e = absurd (h (ap length (same_table_law t u e)))

-- ── what the content is told with ──

module _ (r t : List ℤ) (end : ℕ) {a : Result Planned Refusal} where
  pub told_refused : {f : Refusal} → a ≡ Err f → Err f ≡ compared_by a r t end
  unfolding compared_by
  told_refused q = rw q

  module _ {d : Planned} (q : a ≡ Ok d) {x : Bool} (k : x ≡ (leb (8 * d.records) (length r) && same_table t (take (8 * d.records) r))) where
    pub told_exact : x ≡ true → Ok end ≡ compared_by a r t end
    unfolding compared_by
    told_exact f = rw (q, sym k ∙ f)

    pub told_other : x ≡ false → Err (refusal 20 0) ≡ compared_by a r t end
    unfolding compared_by
    told_other f = rw (q, sym k ∙ f)

pub ruleset telling = (told_refused, told_exact, told_other, few_told, rules)

module _ (c : List ℕ) (r t : List ℤ) (l : ℕ) (a : Result Planned Refusal) (e : said_of a r ≡ (of_markup c and_then in_room l)) (m : length r ≡ l) where
  -- the rows have room for all records, or for as many as the table has
  same_rows_law : (n : ℕ) → min (8 * n) (length t) ≤ length r → (o : Outline) → take (8 * n) r ≡ take l o.rows → length o.rows ≡ 8 * n → (leb (8 * n) (length r) && same_table t (take (8 * n) r)) ≡ same_table t o.rows
  same_rows_law n h o z w = ⊎_elim
      (λ (y : length r < 8 * n). rw (lt-leb (8 * n) (length r) y) (sym (apart t o.rows (λ g. omega (arith, h, y, g, w)))))
      (λ (y : 8 * n ≤ length r). rw (le-leb (8 * n) (length r) y) (ap (same_table t) (z ∙ take_all l o.rows (omega (arith, w, m, y)))))
      (lt_or_le (length r) (8 * n))

  compare_by : (p : Result Planned Refusal) → a ≡ p → ((d : Planned) → a ≡ Ok d → min (8 * d.records) (length t) ≤ length r) → checked_of (compared_by p r t (length c)) ≡ compared_of c t
  unfolding checked_of compared_by compared_of same_rows
  compare_by (Err f) q h = sym (rw (not_described c r l e q))
  compare_by (Ok d) q h = is_counted c r l e q λ o y i j z w. rw (y, same_rows_law d.records (h d q) o z w) (by (same_table t o.rows) o)
    where
      by : (b : Bool) (o : Outline) → checked_of (cond b (Ok (length c)) (Err (refusal 20 0))) ≡ (cond b (accepted o) (refused (fault 20 0)) and_then λ i. accepted (length c))
      by true o = refl
      by false o = refl

  module _ {x : Result ℕ Refusal} (k : x ≡ compared_by a r t (length c)) where
    -- a table that is no longer than the rows
    pub compare_short : length t ≤ l → checked_of x ≡ compared_of c t
    compare_short h = ap checked_of k ∙ compare_by a refl (λ d q. omega (arith, m, h))

    -- rows for all records that a description can have
    pub compare_any : Few a → 32768 ≤ l → checked_of x ≡ compared_of c t
    compare_any f h = ap checked_of k ∙ compare_by a refl (λ d q. omega (arith, m, h, few_told f q))

-- ── the text ──

module _ (b : List ℕ) (t : List ℤ) {o : Result ℕ Refusal} (e : opened_of b o ≡ (ending b and_then characters and_then opening)) where
  pub check_refused : {f : Refusal} → o ≡ Err f → checked_of (Err f) ≡ known_of b t
  unfolding checked_of known_of described opened_of
  check_refused q = sym (rw (sym e ∙ ap (opened_of b) q))

  module _ (d : Ended b o) {z : ℕ} (q : o ≡ Ok z) where
    abbrev c : List ℕ
    c = take (z - 0) (drop 0 b)

    end_is : length c ≡ end_in b
    unfolding end_in Ended
    end_is = let w : Ended b (Ok z) = rw q at d in lent_whole b d q ∙ sym (rw w.0)

    by : (a : Answer Description) → (a and_then outlined and_then same_rows t and_then λ k. accepted (length c)) ≡ (a and_then exact t and_then λ k. accepted (end_in b))
    unfolding outlined same_rows exact
    by (accepted k) = way (same_table t (table_of k.segments)) refl
      where
        way : (x : Bool) → same_table t (table_of k.segments) ≡ x → (outlined k and_then same_rows t and_then λ i. accepted (length c)) ≡ (exact t k and_then λ i. accepted (end_in b))
        way true y = rw (y, end_is)
        way false y = rw y
    by (refused f) = refl

    pub check_ended : (r : Result ℕ Refusal) → checked_of r ≡ compared_of c t → checked_of r ≡ known_of b t
    unfolding compared_of known_of of_markup described opened_of
    check_ended r k = let l : z - 0 ≡ z = omega arith in k ∙ by (markup c and_then elements and_then addressing and_then counting) ∙ sym (rw (sym e ∙ ap (opened_of b) q, l))

pub ruleset checking = (check_refused, check_ended, lent_end, lent_long, lent_short, rules)
