-- The latest entry, as it was found.
use Rattle.std.specs.Prelude.{◌≡◌, List, true, ℕ, ◌+◌, ◌-◌}
use Rattle.undo_model.specs.Journal.{room, four_at, beginning, lie}

-- it lies in the journal, has this size, and its old bytes begin here
pub record Held (j : List ℕ) (session size from : ℕ) : Type 0 where
  pub lies : lie (room j) session ≡ true
  pub sized : four_at (room j) (beginning (room j) (session - 1) + 4) ≡ size
  pub begins : beginning (room j) (session - 1) + 8 ≡ from
