-- What is known of a text and its table, and which setting is sought.
use Rattle.std.specs.Prelude.{List, ℕ, ℤ, Result, Ok, Err}
use Rattle.cdi.specs.Lists.{given}
use Rattle.cdi.specs.Faults.{Answer, accepted, refused, ◌and_then◌}
use Rattle.cdi.specs.Text.{end_of}
use Rattle.cdi.specs.Planning.{described}
use Rattle.cdi.specs.Access as A
use Rattle.cdi.specs.Access.{exact}
use Rattle.access_kinds.specs.declared.Setting.{Setting}
use Rattle.refusals.specs.declared.Refusal.{Refusal}
use Rattle.refusals.specs.Refusals.{fault_of}
use Rattle.access_kinds.specs.Told.{setting_is, Good}

-- the end of the content, else 0
unfoldable pub end_in : List ℕ → ℕ
end_in b = given (end_of b) 0 (λ e. e)

-- 1 to 12 and 20: the end of the content, where the table is exactly the one planned from the text
unfoldable pub known_of : List ℕ → List ℤ → Answer ℕ
known_of b t = described b and_then exact t and_then λ d. accepted (end_in b)

unfoldable pub lookup_of : List ℕ → Result Setting Refusal → Answer A.Setting
lookup_of c (Ok s) = accepted (setting_is c s)
lookup_of c (Err r) = refused (fault_of r)

unfoldable pub Fits : List ℕ → Result Setting Refusal → Type 0
Fits c (Ok s) = Good c s
Fits c (Err r) = Unit
