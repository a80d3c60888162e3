-- What the locator's answers say.
use Rattle.std.specs.Prelude.{List, Result, Ok, Err, ◌+◌, ◌*◌, ◌≤◌, length, ℤ}
use Rattle.cdi.specs.Faults.{Answer, fault}
use Rattle.cdi.specs.Faults.Answer.{accepted, refused}
use Rattle.cdi.specs.Walk.{Found}
use Rattle.locate.specs.declared.Variable.{Variable}
use Rattle.locate.specs.declared.Absent.{Absent}
use Rattle.locate.specs.declared.Absent.TheVariants.{NotAPlan, NoVariable}

-- the variable
abbrev pub found_as : Variable → Found
found_as v = record { number = v.record; space = v.space; address = v.address; size = v.size; kind = v.kind }

-- document 01's answer for each case: the variable, 20 "not a plan", 21 "no variable n"
unfoldable pub told_of : Result Variable Absent → Answer Found
told_of (Ok v) = accepted (found_as v)
told_of (Err NotAPlan) = refused (fault 20 0)
told_of (Err NoVariable) = refused (fault 21 0)

-- a variable's record is one of the table
unfoldable pub Held : List ℤ → Result Variable Absent → Type 0
Held t (Ok v) = v.record * 8 + 8 ≤ length t
Held t (Err e) = Unit
