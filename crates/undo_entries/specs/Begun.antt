-- What the walk along a journal answers.
use Rattle.std.specs.Prelude.{List, cond, ◌&&◌, ℕ, ◌+◌, ◌-◌, ltb, length, Some, None, Option as Maybe}
use Rattle.std.proofs.Math.Option.{Option, none, some}
use Rattle.undo_model.specs.Journal.{Entry, four_at, beginning, lie, has_room}
use Rattle.undo_entries.specs.declared.Last.{Last}

unfoldable pub begun_of : Maybe ℕ → Option ℕ
begun_of (Some i) = some i
begun_of None = none

-- where entry k begins in a room, if all entries before it lie there
unfoldable pub begun : List ℕ → ℕ → Option ℕ
begun r k = cond (lie r k) (some (beginning r k)) none

-- where the entry of one more edit begins in a room, if it can stand
unfoldable pub stands_in : List ℕ → ℕ → ℕ → Option ℕ
stands_in r session size = cond (ltb session 64 && has_room r session size) (some (beginning r session)) none

-- the entry that keeps these bytes
unfoldable pub entry_for : ℕ → List ℕ → Entry
entry_for n old = record { number = n; size = length old; old = old }

-- number and size of an entry, and where its old bytes begin
pub record Head : Type 0 where
  pub number : ℕ
  pub size : ℕ
  pub from : ℕ

unfoldable pub last_of : Maybe Last → Option Head
last_of (Some l) = some (record { number = l.number; size = l.size; from = l.from })
last_of None = none

-- the head of the entry before entry k
unfoldable pub head_in : List ℕ → ℕ → Head
head_in r k = let at = beginning r (k - 1) in record { number = four_at r at; size = four_at r (at + 4); from = at + 8 }

-- the same, if that entry lies in the room
unfoldable pub last_in : List ℕ → ℕ → Option Head
last_in r k = cond (lie r k) (some (head_in r k)) none
