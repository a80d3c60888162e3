-- What holds of every setting of an accepted text.
use Rattle.std.specs.Prelude.{◌≡◌, true, ◌≤◌, pos}
use Rattle.cdi.specs.Rules.{bounds_of, storable}
use Rattle.cdi.specs.Plans.{size_fits}
use Rattle.cdi.specs.Access.{Setting}

-- what holds of a variable's kind and size, and of an int's bounds
pub record SettingFits (s : Setting) : Type 0 where
  pub kinds : 3 ≤ s.variable.kind
  pub sized : size_fits s.variable.kind (pos s.variable.size) ≡ true
  pub low : s.variable.kind ≡ 3 → storable (bounds_of s.variable.size s.content).signed s.variable.size (bounds_of s.variable.size s.content).min ≡ true
  pub high : s.variable.kind ≡ 3 → storable (bounds_of s.variable.size s.content).signed s.variable.size (bounds_of s.variable.size s.content).max ≡ true
