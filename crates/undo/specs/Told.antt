-- An edit as a call is handed it.
use Rattle.std.specs.Prelude.{ℕ}
use Rattle.cdi.specs.Access.{Value}
use Rattle.undo_model.specs.Sessions.{Edit}

abbrev pub edit_of : ℕ → Value → Edit
edit_of n v = record { number = n; value = v }
