-- What holds wherever a variable stands in the walk holds of every variable that is found.
use mathlib.Core.Path.{◌≡◌}
use mathlib.Core.List.{List, [], ◌∷◌, ◌++◌, map}
use Prim.Native.Nat.{ℕ, zero, suc}
use lib.IntN.{ℤ, pos, ◌+ℤ◌}
use lib.ListN.{get_or}
use Rattle.cdi.specs.Faults.{Fault, accepted, refused}
use Rattle.cdi.specs.Walk.{Segment, Step, add, stand, copies, variables, segment_steps, after_segment, Found, found, walk_from, walk}
use Rattle.cdi.specs.Plans.{variable_of}
use Rattle.cdi.proofs.Quiet.{impossible}

module _ (P : ℕ → ℕ → ℕ → Type 0) where
  -- P holds of kind, record and size of every variable that the steps meet
  unfoldable pub AllStand : List Step → Type 0
  AllStand [] = Unit
  AllStand (add o ∷ ss) = AllStand ss
  AllStand (stand k i n ∷ ss) = P k i n × AllStand ss

  -- It holds of steps after others.
  pub stand_append : (ss us : List Step) → AllStand ss → AllStand us → AllStand (ss ++ us)
  unfolding AllStand
  stand_append [] us h g = g
  stand_append (add o ∷ ss) us h g = stand_append ss us h g
  stand_append (stand k i n ∷ ss) us h g = (h.0, stand_append ss us h.1 g)

  -- It holds of copies.
  pub stand_copies : (r : ℕ) (ss : List Step) → AllStand ss → AllStand (copies r ss)
  unfolding AllStand copies
  stand_copies zero ss h = tt
  stand_copies (suc r) ss h = stand_append ss (copies r ss) h (stand_copies r ss h)

  -- it holds of the steps of segments
  unfoldable pub SegmentsStand : ℕ → List Segment → Type 0
  SegmentsStand i [] = Unit
  SegmentsStand i (g ∷ gs) = AllStand (segment_steps i g) × SegmentsStand (after_segment i g) gs

  AllFound : List Found → Type 0
  AllFound [] = Unit
  AllFound (v ∷ vs) = P v.kind v.number v.size × AllFound vs

  found_append : (vs ws : List Found) → AllFound vs → AllFound ws → AllFound (vs ++ ws)
  unfolding AllFound
  found_append [] ws h g = g
  found_append (v ∷ vs) ws h g = (h.0, found_append vs ws h.1 g)

  found_steps : (space : ℕ) (a : ℤ) (ss : List Step) → AllStand ss → AllFound (map (found space) (variables a ss))
  unfolding AllStand AllFound variables found
  found_steps space a [] h = tt
  found_steps space a (add o ∷ ss) h = found_steps space (a +ℤ o) ss h
  found_steps space a (stand k i n ∷ ss) h = (h.0, found_steps space (a +ℤ pos n) ss h.1)

  found_walk : (i : ℕ) (gs : List Segment) → SegmentsStand i gs → AllFound (walk_from i gs)
  unfolding AllFound SegmentsStand walk_from
  found_walk i [] h = tt
  found_walk i (g ∷ gs) h =
      found_append (map (found g.space) (variables (pos g.origin) (segment_steps i g))) (walk_from (after_segment i g) gs)
      (found_steps g.space (pos g.origin) (segment_steps i g) h.0) (found_walk (after_segment i g) gs h.1)

  found_nth : (vs : List Found) (n : ℕ) (f : Fault) (v : Found) → AllFound vs → get_or (map accepted vs) n (refused f) ≡ accepted v → P v.kind v.number v.size
  unfolding AllFound
  found_nth [] n f v h e = impossible (cc)
  found_nth (w ∷ vs) zero f v h e = let q : w ≡ v = cc in rw q at h.0
  found_nth (w ∷ vs) (suc n) f v h e = found_nth vs n f v h.1 e

  -- It holds of a variable that is found.
  pub stand_found : (gs : List Segment) (n : ℕ) (v : Found) → SegmentsStand 0 gs → variable_of gs n ≡ accepted v → P v.kind v.number v.size
  unfolding variable_of walk
  stand_found gs n v h e = found_nth (walk gs) n _ v (found_walk 0 gs h) e
