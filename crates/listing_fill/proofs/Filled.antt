-- Filling along records, into a group's copies, and from one copy to the next.
use mathlib.Core.Path.{◌≡◌, refl, sym, ap, ap₂, ◌∙◌}
use mathlib.Core.List.{List, [], ◌∷◌, ◌++◌, append_assoc}
use Prim.Native.Nat.{ℕ, zero, suc, pred, ◌+◌, ◌*◌, ◌-◌, ◌/◌, ◌%◌, ◌^◌, ◌≤◌, ◌<◌}
use native.Mathlib.Omega.{arith}
use native.Mathlib.Nat.{mod-add-div'}
use borrow.Author.Rules.{rules}
use borrow.Author.Tests.{lt-ltb}
use lib.ListN.{length}
use lib.IntN.{ℤ, pos, neg_ℤ, ◌+ℤ◌}
use Rattle.cdi.specs.Rules.{natural}
use Rattle.cdi.specs.Walk.{Items, Found, found, Step, steps, copies, count, change, variables}
use Rattle.cdi.specs.Plans.{field, next_of, items_in}
use Rattle.cdi.proofs.Walked.{count_copies, change_copies, copy_start}
use Rattle.extent.specs.Reach.{Sound, repeat}
use Rattle.extent.specs.declared.Extent.{Extent}
use Rattle.extent.proofs.Reached.{Fits, of_fits, extent_change}
use Rattle.locate_plan.specs.Judging.{items_extent}
use Rattle.locate_ways.specs.Finding.{Site}
use Rattle.locate_copies.specs.Choosing.{moved_by, each_of, copy_of, Chosen}
use Rattle.locate_copies.specs.declared.Copied.{Copied}
use Rattle.locate_plan.proofs.Elements.{items_sound}
use Rattle.locate_ways.proofs.Copies.{starts_at, copy_starts}
use Rattle.locate_ways.proofs.Ways.{group_steps, variable_steps, Seeking, start as seeks, en, start_is, is_group, copies_fit, each_one, some, below, starts, numbers, address_high as ways_high, start_low as ways_start, start_high as ways_far, chosen as ways_chosen}
use Rattle.listing_fill.specs.Filling.{found_at, put, Filling, filling, one, fill, met, copies_met, element_met, Copying}
use Rattle.listing_fill.proofs.Batches.{met_append, length_met, fill_append, fill_skip}

-- ── copies ──

copies_split : (q r : ℕ) (s : List Step) → q ≤ r → copies r s ≡ copies q s ++ copies (r - q) s
unfolding copies
copies_split zero r s h = let e : r - 0 ≡ r = omega arith in rw e
copies_split (suc q) zero s h = absurd (omega arith)
copies_split (suc q) (suc r) s h =
    let e : suc r - suc q ≡ r - q = omega arith in
    rw e (ap (λ (l : List Step). s ++ l) (copies_split q r s (omega arith)) ∙ sym (append_assoc s (copies q s) (copies (r - q) s)))

-- by numbers alone: d, u what the copies before have fallen and risen by, D, U what those behind will
rest_fits : (a b s u d U D : ℕ) → b ≤ s → b + (d + D) ≤ a → a + (s + ((d + D) + (u + U))) ≤ 2 ^ 32 + (b + (d + D))
    → (b + D ≤ a + u - d) × (a + u - d + (s + (D + U)) ≤ 2 ^ 32 + (b + D))
rest_fits a b s u d U D h k l = (omega arith, omega arith)

-- the copies from copy q on keep the limits that all keep
later_fits : (a r q : ℕ) (e : Extent) → Sound e → Fits a (repeat r e) → q < r → Fits (starts_at a e q) (repeat (r - q) e)
unfolding repeat starts_at
later_fits a r q e h f l =
    let u = e.ends - e.below in
    let d = e.below - e.ends in
    let m = pred (r - q) in
    let z : pred r ≡ q + pred (r - q) = omega arith in
    let g = rest_fits a e.below e.span (q * u) (q * d) (m * u) (m * d) h.start (omega (arith, f.low, split z d)) (omega (arith, f.high, split z d, split z u)) in
    record { low = g.0; high = g.1 }
  where
    split : pred r ≡ q + pred (r - q) → (n : ℕ) → pred r * n ≡ q * n + pred (r - q) * n
    split z n = rw z (omega arith)

-- ── one element ──

fill_one : (room k : ℕ) (o : List ℕ) (f : Found) → k < room → fill room (filling 0 k o) (f ∷ []) ≡ filling 0 (k + 1) (put o k f)
unfolding fill one
fill_one room k o f h = rw (lt-ltb k room h)

module _ (t : List ℤ) (space i e a left room k : ℕ) (o : List ℕ) (b : i < e) (st : Site t i e a) (h : left < natural (field t i 6)) where
  v : Seeking t i e a left i a left
  v = seeks t i e a left (omega arith) st

  abbrev M : Items
  M = items_in t (i + 1) (next_of t i)

  abbrev E : Extent
  E = items_extent t (i + 1) (next_of t i)

  abbrev K : ℕ
  K = count (steps (i + 1) (items_in t (i + 1) (next_of t i)))

  abbrev r : ℕ
  r = natural (field t i 4)

  pub element_high : a ≤ 2 ^ 32
  element_high = ways_high v b

  pub element_low : natural (neg_ℤ (field t i 2)) ≤ a
  element_low = ways_start v b

  pub element_far : natural (field t i 2) ≤ 2 ^ 32
  element_far = ways_far v b

  pub element_next_first : i < natural (field t i 5)
  element_next_first = (en v b).range.ahead

  pub element_next_last : natural (field t i 5) ≤ e
  element_next_last = (en v b).range.nests

  pub element_replication : 1 ≤ natural (field t i 4)
  element_replication = (en v b).range.one

  module _ {s : ℕ} (es : s ≡ moved_by t i 2 a) {kind : ℕ} (ek : kind ≡ natural (field t i 0)) where
    -- a variable
    variable_met : (kind ≡ 2 → ⊥) → (element_met t space i a ≡ found_at i space s (natural (field t i 3)) kind ∷ []) × (left ≡ 0)
    unfolding element_met met variables found count natural
    variable_met z = (
      rw (variable_steps t i M other, start_is v b refl h es ek, ek),
      omega (arith, (en v b).counts, ap count (variable_steps t i M other)),
    )
      where
        other : natural (field t i 0) ≡ 2 → ⊥
        other q = z (ek ∙ q)

    stored : (kind ≡ 2 → ⊥) → k < room → fill room (filling left k o) (element_met t space i a) ≡ filling 0 (k + 1) (put o k (found_at i space s (natural (field t i 3)) kind))
    stored z l = let m = variable_met z in rw (m.0, m.1) (fill_one room k o (found_at i space s (natural (field t i 3)) kind) l)

    pub variable_filled : (kind ≡ 2 → ⊥) → k < room → k + 1 ≡ (fill room (filling left k o) (element_met t space i a)).filled
    variable_filled z l = sym (ap (λ (x : Filling). x.filled) (stored z l))

    pub variable_out : (kind ≡ 2 → ⊥) → k < room → {n : ℕ} → n ≡ natural (field t i 3) → {o' : List ℕ} → o' ≡ put o k (found_at i space s n kind)
        → o' ≡ (fill room (filling left k o) (element_met t space i a)).out
    variable_out z l en' eo = eo ∙ rw en' (sym (ap (λ (x : Filling). x.out) (stored z l)))

    -- a group
    module _ (z : kind ≡ 2) where
      pub group_chosen : Chosen t i s left
      group_chosen = ways_chosen v b refl h es ek z

      each_is : natural (field t i 6) / natural (field t i 4) ≡ K
      unfolding each_of
      each_is = each_one v b refl h es ek z

      pub group_each : 1 ≤ natural (field t i 6) / natural (field t i 4)
      group_each = rw each_is (some v b refl h es ek z)

      in_copies : left / K < natural (field t i 4)
      in_copies = below v b refl h es ek z

      pub group_copy : left / (natural (field t i 6) / natural (field t i 4)) ≤ natural (field t i 4)
      group_copy = rw each_is (omega (arith, in_copies))

      module _ {ch : Copied} (ec : ch ≡ copy_of t i s left) {n : ℕ} (en' : n ≡ natural (field t i 4) - left / (natural (field t i 6) / natural (field t i 4))) where
        copies_are : n ≡ natural (field t i 4) - left / K
        copies_are = en' ∙ rw each_is

        pub group_copying : {x : ℕ} → x ≡ natural (field t i 5) → Copying t (i + 1) x ch.start n
        group_copying ex = rw (ex, copies_are) (record {
          some = omega (arith, in_copies);
          depth = v.depth + 1;
          good = (en v b).inner;
          keeps = of_fits ch.start (repeat (natural (field t i 4) - left / K) E)
              (rw (starts v b refl h es ek z ec) (later_fits s (natural (field t i 4)) (left / K) E (items_sound t (i + 1) (next_of t i)) (copies_fit v b refl h es ek z) in_copies));
        })

        -- the copies before are skipped
        group_met : {x : ℕ} → x ≡ natural (field t i 5) → fill room (filling left k o) (element_met t space i a) ≡ fill room (filling ch.number k o) (copies_met t space (i + 1) x ch.start n)
        unfolding element_met copies_met met variables copy_start items_extent
        group_met ex =
            ap (λ (l : List Step). fill room (filling left k o) (met space (pos a) l)) (group_steps t i M (is_group v b refl h es ek z))
            ∙ ap (λ (y : ℤ). fill room (filling left k o) (met space y (copies (natural (field t i 4)) S))) (start_is v b refl h es ek)
            ∙ ap (λ (l : List Step). fill room (filling left k o) (met space (pos s) l)) (copies_split q (natural (field t i 4)) S (omega (arith, in_copies)))
            ∙ ap (λ (l : List Found). fill room (filling left k o) l) (met_append space (pos s) (copies q S) rest)
            ∙ fill_append room (filling left k o) (met space (pos s) (copies q S)) (met space (pos s +ℤ change (copies q S)) rest)
            ∙ ap₂ (λ (x : Filling) (y : ℤ). fill room x (met space y rest))
            (fill_skip room (met space (pos s) (copies q S)) left k o (omega (arith, skipped, counted)) ∙ ap (λ (m : ℕ). filling m k o) left_over)
            there
            ∙ rw (ex, copies_are)
          where
            S : List Step
            S = steps (i + 1) M

            q : ℕ
            q = left / K

            rest : List Step
            rest = copies (natural (field t i 4) - q) S

            skipped : length (met space (pos s) (copies q S)) ≡ q * K
            skipped = length_met space (pos s) (copies q S) ∙ count_copies q S

            counted : left % K + q * K ≡ left
            counted = mod-add-div' left K

            left_over : left - length (met space (pos s) (copies q S)) ≡ ch.number
            left_over = omega (arith, skipped, counted, numbers v b refl h es ek z ec)

            there : pos s +ℤ change (copies q S) ≡ pos ch.start
            there =
                ap (λ (y : ℤ). pos s +ℤ y) (change_copies q S)
                ∙ copy_starts s (natural (field t i 4)) q E (items_sound t (i + 1) (next_of t i)) (copies_fit v b refl h es ek z) in_copies (change S) (extent_change S)
                ∙ ap pos (sym (starts v b refl h es ek z ec))

        pub group_filled : {x : ℕ} → x ≡ natural (field t i 5) → {n' : ℕ} → n' ≡ (fill room (filling ch.number k o) (copies_met t space (i + 1) x ch.start n)).filled
            → n' ≡ (fill room (filling left k o) (element_met t space i a)).filled
        group_filled ex p = p ∙ sym (ap (λ (x : Filling). x.filled) (group_met ex))

        pub group_out : {x : ℕ} → x ≡ natural (field t i 5) → {o' : List ℕ} → o' ≡ (fill room (filling ch.number k o) (copies_met t space (i + 1) x ch.start n)).out
            → o' ≡ (fill room (filling left k o) (element_met t space i a)).out
        group_out ex p = p ∙ sym (ap (λ (x : Filling). x.out) (group_met ex))

pub ruleset element_needs = (element_high, element_low, element_far, element_next_first, element_next_last, element_replication, group_chosen, group_each, group_copy, group_copying, rules)

pub ruleset element_fills = (variable_filled, variable_out, group_filled, group_out, rules)
