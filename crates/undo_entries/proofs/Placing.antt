-- The place of one more entry, and the latest one.
use mathlib.Core.Path.{◌≡◌, refl, sym, ap, ◌∙◌}
use mathlib.Core.List.{List}
use mathlib.Core.Bool.{Bool, true, false, cond, ◌&&◌}
use mathlib.Core.Option.{Option, none, some}
use Prim.Native.Nat.{ℕ, suc, ◌+◌, ◌-◌, ◌<◌, ◌≤◌, min}
use native.Mathlib.Omega.{arith}
use native.Mathlib.Decide.{dec_le}
use borrow.Author.Rules.{rules}
use borrow.Author.Tests.{le-leb, lt-leb, lt-ltb, le-ltb}
use lib.Dec.{leb, ltb}
use lib.ListN.{length, take, drop}
use lib.Seq.{take_all, take-length}
use Rattle.cdi.specs.Values.{value_of}
use Rattle.cdi.proofs.Quiet.{impossible}
use Rattle.undo_model.specs.Journal.{room, four_at, beginning, lie, has_room}
use Rattle.undo_laws.proofs.Entries.{room_exactly, last_lies}
use Rattle.undo_laws.proofs.Walks.{Reached, reached_lie, next, no_head, no_bytes, none_behind}
use Rattle.undo_entries.specs.Begun.{begun_of, begun, stands_in, last_of, head_in, last_in}
use Rattle.undo_entries.specs.declared.Last.{Last}
use Rattle.std.specs.Prelude.{Some, None, Option as Maybe}

-- the part of a journal that is its room
lent_room : (j : List ℕ) {end : ℕ} → end ≡ min 65536 (length j) → take (end - 0) (drop 0 j) ≡ room j
unfolding room
lent_room j {end} e = by (dec_le (length j) 65536)
  where
    by : Dec (length j ≤ 65536) → take (end - 0) (drop 0 j) ≡ take 65536 j
    by (yes h) =
        let l : end - 0 ≡ length j = omega arith in
        ap (λ k. take k j) l ∙ take-length j ∙ sym (take_all 65536 j h)
    by (no h) = let l : end - 0 ≡ 65536 = omega arith in ap (λ k. take k j) l

-- ── what the walk has found ──

module _ (r : List ℕ) (k : ℕ) {b : Maybe ℕ} (f : begun_of b ≡ begun r k) where
  none_lie : b ≡ None → lie r k ≡ false
  unfolding begun_of begun
  none_lie e = by (lie r k) (sym f ∙ ap begun_of e)
    where
      by : (x : Bool) → cond x (some (beginning r k)) none ≡ none → x ≡ false
      by true q = impossible (cc)
      by false q = refl

  pub reached : {at : ℕ} → b ≡ Some at → Reached r k at
  unfolding begun_of begun
  reached {at} e = by (lie r k) refl (sym f ∙ ap begun_of e)
    where
      by : (x : Bool) → lie r k ≡ x → cond x (some (beginning r k)) none ≡ some at → Reached r k at
      by true q z =
          let w : beginning r k ≡ at = cc in
          record { begins = w; within = omega (arith, last_lies r k q) }
      by false q z = impossible (cc)

-- ── one more entry ──

module _ (r : List ℕ) (s z : ℕ) where
  -- 64 stand
  pub no_more : 64 ≤ s → begun_of None ≡ stands_in r s z
  unfolding begun_of stands_in
  no_more h = sym (rw (le-ltb s 64 h))

  no_room : leb (beginning r s + 8 + z) (length r) ≡ false → begun_of None ≡ stands_in r s z
  unfolding begun_of stands_in
  no_room h = by (ltb s 64)
    where
      by : (x : Bool) → none ≡ cond (x && has_room r s z) (some (beginning r s)) none
      by true = sym (rw (room_exactly r s z, h))
      by false = refl

  module _ {b : Maybe ℕ} (f : begun_of b ≡ begun r s) where
    pub none_before : b ≡ None → begun_of None ≡ stands_in r s z
    unfolding has_room
    none_before e = no_room (sym (room_exactly r s z) ∙ rw (none_lie r s f e))

    module _ {at : ℕ} (e : b ≡ Some at) where
      pub inside_room : at ≤ length r
      inside_room = (reached r s f e).within

      pub head_missing : length r - at < 8 → begun_of None ≡ stands_in r s z
      head_missing h = no_room (lt-leb (beginning r s + 8 + z) (length r) (omega (arith, (reached r s f e).begins, (reached r s f e).within)))

      pub bytes_missing : 8 ≤ length r - at → length r - at - 8 < z → begun_of None ≡ stands_in r s z
      bytes_missing h m = no_room (lt-leb (beginning r s + 8 + z) (length r) (omega (arith, (reached r s f e).begins, (reached r s f e).within)))

      pub stands : s < 64 → 8 ≤ length r - at → z ≤ length r - at - 8 → begun_of (Some at) ≡ stands_in r s z
      unfolding begun_of stands_in
      stands l h m =
          let q : leb (beginning r s + 8 + z) (length r) ≡ true = le-leb (beginning r s + 8 + z) (length r) (omega (arith, (reached r s f e).begins, (reached r s f e).within)) in
          sym (rw (lt-ltb s 64 l, room_exactly r s z, q, (reached r s f e).begins))

-- ── the latest entry ──

not_last : (r : List ℕ) (s : ℕ) → lie r s ≡ false → last_of None ≡ last_in r s
unfolding last_of last_in
not_last r s h = sym (rw h)

module _ (r : List ℕ) {s : ℕ} (p : 1 ≤ s) {b : Maybe ℕ} (f : begun_of b ≡ begun r (s - 1)) where
  pub none_last : b ≡ None → last_of None ≡ last_in r s
  none_last e = not_last r s (none_behind r (s - 1) s (omega arith) (none_lie r (s - 1) f e))

  module _ {at : ℕ} (e : b ≡ Some at) where
    at_room : Reached r (s - 1) at
    at_room = reached r (s - 1) f e

    pub last_inside : at ≤ length r
    last_inside = at_room.within

    pub last_head_missing : length r - at < 8 → last_of None ≡ last_in r s
    last_head_missing h = not_last r s (no_head at_room s (omega arith) (omega (arith, at_room.within)))

    module _ {n : ℕ} (head : n ≡ value_of (take (at + 4 - at) (drop at r))) {z : ℕ} (size : z ≡ value_of (take (at + 8 - (at + 4)) (drop (at + 4) r))) (h : 8 ≤ length r - at) where
      size_is : z ≡ four_at r (at + 4)
      unfolding four_at
      size_is = let d : at + 8 - (at + 4) ≡ 4 = omega arith in rw d at size

      number_is : n ≡ four_at r at
      unfolding four_at
      number_is = let d : at + 4 - at ≡ 4 = omega arith in rw d at head

      pub last_bytes_missing : length r - at - 8 < z → last_of None ≡ last_in r s
      last_bytes_missing m = not_last r s (no_bytes at_room s z size_is (omega arith) (omega (arith, at_room.within)))

      pub last_is : z ≤ length r - at - 8 → last_of (Some (record { number = n; size = z; from = at + 8 })) ≡ last_in r s
      unfolding last_of last_in head_in
      last_is m =
          let q : s - 1 + 1 ≡ s = omega arith in
          let l : lie r s ≡ true = ap (lie r) (sym q) ∙ reached_lie (next at_room z size_is (omega (arith, at_room.within))) in
          sym (rw (l, at_room.begins, ← number_is, ← size_is))

pub ruleset placing = (no_more, none_before, inside_room, head_missing, bytes_missing, stands, rules)

pub ruleset latest = (none_last, last_inside, last_head_missing, last_bytes_missing, last_is, rules)

-- ── of a journal, by its room ──

module _ (j : List ℕ) {end : ℕ} (e : end ≡ min 65536 (length j)) where
  pub place_lent : (s z : ℕ) (b : Maybe ℕ) → begun_of b ≡ stands_in (take (end - 0) (drop 0 j)) s z → begun_of b ≡ stands_in (room j) s z
  place_lent s z b h = rw (← lent_room j e) h

  pub last_lent : (s : ℕ) (l : Maybe Last) → last_of l ≡ last_in (take (end - 0) (drop 0 j)) s → last_of l ≡ last_in (room j) s
  last_lent s l h = rw (← lent_room j e) h

pub ruleset lent = (place_lent, last_lent, rules)
