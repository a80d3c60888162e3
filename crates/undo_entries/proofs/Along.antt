use mathlib.Core.Path.{◌≡◌, refl, sym, ap, ◌∙◌}
use mathlib.Core.List.{List}
use mathlib.Core.Bool.{true, false}
use mathlib.Core.Option.{none, some}
use Prim.Native.Nat.{ℕ, ◌+◌, ◌-◌, ◌<◌, ◌≤◌}
use native.Mathlib.Omega.{arith}
use borrow.Author.Rules.{rules}
use lib.ListN.{length, take, drop}
use Rattle.cdi.specs.Values.{value_of}
use Rattle.undo_model.specs.Journal.{four_at, beginning, lie}
use Rattle.undo_laws.proofs.Walks.{Reached, reached_lie, start, next, no_head, no_bytes}
use Rattle.undo_entries.specs.Begun.{begun_of, begun}
use Rattle.std.specs.Prelude.{Some, None}

module _ {r : List ℕ} {i at : ℕ} (h : Reached r i at) where
  pub short : {k : ℕ} → i < k → length r - at < 8 → begun_of None ≡ begun r k
  unfolding begun_of begun
  short {k} l m = rw (no_head h k l (omega (arith, h.within)))

  pub long : {k : ℕ} {size : ℕ} → size ≡ value_of (take (at + 8 - (at + 4)) (drop (at + 4) r)) → i < k → 8 ≤ length r - at → length r - (at + 8) < size → begun_of None ≡ begun r k
  unfolding begun_of begun four_at
  long {k} {size} z l m n =
      let d : at + 8 - (at + 4) ≡ 4 = omega arith in
      rw (no_bytes h k size (rw d at z) l (omega (arith, h.within)))

  pub on : {size : ℕ} → size ≡ value_of (take (at + 8 - (at + 4)) (drop (at + 4) r)) → 8 ≤ length r - at → size ≤ length r - (at + 8) → Reached r (i + 1) (at + 8 + size)
  unfolding four_at
  on {size} z m n =
      let d : at + 8 - (at + 4) ≡ 4 = omega arith in
      next h size (rw d at z) (omega (arith, h.within))

  pub ends : {k : ℕ} → k ≤ i → i ≤ k → begun_of (Some at) ≡ begun r k
  unfolding begun_of begun
  ends {k} l m = let q : k ≡ i = omega arith in rw (q, reached_lie h, h.begins)

pub ruleset walk_loop = (start, short, long, on, ends, rules)
