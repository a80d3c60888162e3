-- The eight numbers of a record.
use Rattle.std.specs.Prelude.{List, [], ◌∷◌, ℕ, ℤ, pos}
use Rattle.extent.specs.declared.Extent.{Extent}
use Rattle.tally_tag.specs.Tallying.{change_of}

-- kind, place, address, width, copies, the index behind its content, and the count and the change of the extent that it tells of
unfoldable pub fields_of : ℕ → ℕ → ℤ → ℕ → ℕ → ℕ → Extent → List ℤ
fields_of k p a w c n e = pos k ∷ pos p ∷ a ∷ pos w ∷ pos c ∷ pos n ∷ pos e.count ∷ change_of e ∷ []
