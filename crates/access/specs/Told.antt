-- Where a variable begins in a window.
use Rattle.std.specs.Prelude.{List, ℕ, ◌-◌, ℤ}
use Rattle.cdi.specs.Faults.{accepted, refused}
use Rattle.cdi.specs.Access.{setting_of}

-- where a variable begins in a window that begins at this address
unfoldable pub start_for : List ℕ → List ℤ → ℕ → ℕ → ℕ
start_for b t n first = elim (setting_of b t n) [ refused f ↦ 0 | accepted s ↦ s.variable.address - first ]
