-- What the answer of reading means.
use Rattle.std.specs.Prelude.{◌≡◌, List, Bool, true, ℕ, ◌-◌, ◌≤◌, ◌<◌, length, take, drop, Result, Ok, Err}
use Rattle.cdi.specs.Faults.{Answer, accepted, refused, ◌and_then◌, is_accepted}
use Rattle.cdi.specs.Values.{with_sign}
use Rattle.cdi.specs.Access as A
use Rattle.cdi.specs.Access.{Window, Value, integer, event, string, is_inside, first_cause, write_causes, value_in}
use Rattle.refusals.specs.declared.Refusal.{Refusal}
use Rattle.refusals.specs.Refusals.{fault_of}
use Rattle.access_reading.specs.declared.Reading.{Reading}
use Rattle.access_reading.specs.declared.Reading.TheVariants as reading

-- an answer about a window with these bytes
unfoldable pub reading_of : List ℕ → Result Reading Refusal → Answer A.Reading
reading_of bytes (Ok (reading.Integer b m f)) = accepted (record { value = integer (with_sign b m); writable = f })
reading_of bytes (Ok (reading.Event v f)) = accepted (record { value = event v; writable = f })
reading_of bytes (Ok (reading.Text i j f)) = accepted (record { value = string (take (j - i) (drop i bytes)); writable = f })
reading_of bytes (Err r) = refused (fault_of r)

-- what else holds of it: zero isn't negative, and a text begins at this place and ends in the window
unfoldable pub ReadAt : ℕ → List ℕ → Result Reading Refusal → Type 0
ReadAt at bytes (Ok (reading.Integer b m f)) = b ≡ true → 0 < m
ReadAt at bytes (Ok (reading.Event v f)) = Unit
ReadAt at bytes (Ok (reading.Text i j f)) = (i ≡ at) × (i ≤ j) × (j ≤ length bytes)
ReadAt at bytes (Err r) = Unit

-- a value and whether it can be written
unfoldable pub as_read : Window → A.Setting → Answer Value → Answer A.Reading
as_read w s a = a and_then λ v. accepted (record { value = v; writable = is_accepted (first_cause (write_causes w v s)) })

-- r is what is read of the variable's own bytes
pub record ReadsAs (s : A.Setting) (inside : Bool) (bytes own : List ℕ) (r : Result Reading Refusal) : Type 0 where
  pub of : (w : Window) → inside ≡ is_inside w s.variable → reading_of bytes r ≡ as_read w s (value_in s own)
