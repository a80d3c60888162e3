-- The answers of the boundary that are no other call's.
use Rattle.std.specs.Prelude.{List, cond, ℕ, ℤ}
use Rattle.cdi.specs.Faults.{Answer, accepted, refused, fault}
use Rattle.cdi.specs.Plans.{is_plan}
use Rattle.cdi.specs.Access.{read}
use Rattle.access_kinds.specs.Told.{window_of}
use Rattle.access.specs.Told.{start_for}
use Rattle.planksling_out.specs.Readings.{Shown, showing}

-- whether a table is a plan: 20 "not a plan"
unfoldable pub tested : List ℤ → Answer (Unit {0})
tested t = cond (is_plan t) (accepted tt) (refused (fault 20 0))

-- reading, as it is handed out
unfoldable pub shown : List ℕ → List ℤ → ℕ → ℕ → ℕ → List ℕ → Answer Shown
shown b t n space first bytes = showing (start_for b t n first) (read b t n (window_of space first bytes))
