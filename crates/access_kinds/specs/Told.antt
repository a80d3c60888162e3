-- What a setting means, and its causes.
use Rattle.std.specs.Prelude.{◌≡◌, List, [], Bool, false, not, ◌&&◌, ℕ, ◌+◌, eqb, leb, Option}
use Rattle.cdi.specs.Access as A
use Rattle.cdi.specs.Access.{Window, Value, kind_of_value, in_bounds, is_inside, first_cause, write_causes}
use Rattle.cdi.specs.Settings.{SettingFits}
use Rattle.children.specs.Siblings.{Inside}
use Rattle.settings.specs.Contents.{content_in}
use Rattle.access_kinds.specs.declared.Setting.{Setting}
use Rattle.access_order.specs.Told.{first_of, cause_of}

-- a setting whose content stands in c
unfoldable pub setting_is : List ℕ → Setting → A.Setting
setting_is c s = record {
  variable = record { number = s.number; space = s.space; address = s.address; size = s.size; kind = s.kind };
  content = content_in c s.part;
}

-- a setting of an accepted text: its content is closed, its kind and size belong together, and an int's bounds can be stored
pub record Good (c : List ℕ) (s : Setting) : Type 0 where
  pub inside : Inside c s.part
  pub fits : SettingFits (setting_is c s)

-- no bytes: what stands beside a value that is no text
abbrev pub no_text : List ℕ
no_text = []

abbrev pub window_of : ℕ → ℕ → List ℕ → Window
window_of space first bytes = record { space = space; first = first; bytes = bytes }

-- 26, by the window's length
unfoldable pub inside_by : Setting → ℕ → ℕ → ℕ → Bool
inside_by s space first l = eqb space s.space && (leb first s.address && leb (s.address + s.size) (first + l))

-- 23, for a value of the variable's kind
unfoldable pub Bounded : A.Setting → Value → Bool → Type 0
Bounded s v r = kind_of_value v ≡ s.variable.kind → r ≡ in_bounds s v

-- r is the cause why v can't be written, if there is one
pub record Decides (s : A.Setting) (inside : Bool) (v : Value) (r : Option ℕ) : Type 0 where
  pub of : (w : Window) → inside ≡ is_inside w s.variable → cause_of r ≡ first_cause (write_causes w v s)

unfoldable pub read_cause : Setting → Bool → Option ℕ
read_cause s inside = first_of (eqb s.kind 6) false false false false (not inside)
