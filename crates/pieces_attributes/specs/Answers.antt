-- An answer that shows a fact where it is yes.
use Rattle.std.specs.Prelude.{◌≡◌, Bool, true}

pub record Shows (r : Bool) (P : Type 0) : Type 0 where
  pub is : r ≡ true → P
