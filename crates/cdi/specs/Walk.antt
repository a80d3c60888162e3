-- Where a variable lives: the full walk, with every group copied out.
use Rattle.std.specs.Prelude.{List, [], ◌∷◌, ◌++◌, map, Bool, ℕ, zero, suc, ◌+◌, ◌^◌, ℤ, pos, ◌+ℤ◌}
use Rattle.cdi.specs.Lists.{all}
use Rattle.cdi.specs.Numbers.{within}
use Rattle.cdi.specs.Rules.{natural}

-- the data elements of a segment or a group, in order
pub data Items : Type 0 where
  -- nothing more
  no_items : Items
  -- a variable: its kind, place, offset and size; then what follows it
  variable : ℕ → ℕ → ℤ → ℕ → Items → Items
  -- a group: its place, offset and replication; its members; then what follows it
  group : ℕ → ℤ → ℕ → Items → Items → Items

pub record Segment : Type 0 where
  pub place : ℕ
  pub space : ℕ
  pub origin : ℕ
  pub items : Items

-- "one record for each segment and data element in document order": those of the data elements
unfoldable pub records : Items → ℕ
records no_items = 0
records (variable k p o n following) = 1 + records following
records (group p o r members following) = 1 + records members + records following

-- ── the walk ──

-- a step: an offset is added, or a variable stands here and adds its size: its kind, the number of its record, its size
pub data Step : Type 0 where
  add : ℤ → Step
  stand : ℕ → ℕ → ℕ → Step

-- r copies, one after another
unfoldable pub copies : ℕ → List Step → List Step
copies zero s = []
copies (suc r) s = s ++ copies r s

-- "A data element first adds its offset. A variable then stands at the current address and adds its size. A group adds its offset once, then
-- its members are walked replication times, member offsets added in every copy." The first element has record i
unfoldable pub steps : ℕ → Items → List Step
steps i no_items = []
steps i (variable k p o n following) = add o ∷ stand k i n ∷ steps (i + 1) following
steps i (group p o r members following) = add o ∷ (copies r (steps (i + 1) members) ++ steps (i + 1 + records members) following)

unfoldable pub moves : Step → ℤ
moves (add o) = o
moves (stand k i n) = pos n

-- the addresses after every addition, from a on
unfoldable pub addresses : ℤ → List Step → List ℤ
addresses a [] = []
addresses a (s ∷ ss) = (a +ℤ moves s) ∷ addresses (a +ℤ moves s) ss

-- "the address must lie from 0 to 2^32"
unfoldable pub is_address : ℤ → Bool
is_address a = within (pos 0) (pos (2 ^ 32)) a

unfoldable pub keeps : ℤ → List Step → Bool
keeps a ss = all is_address (addresses a ss)

-- the change of the address
unfoldable pub change : List Step → ℤ
change [] = pos 0
change (s ∷ ss) = moves s +ℤ change ss

-- how many variables are met
unfoldable pub count : List Step → ℕ
count [] = 0
count (add o ∷ ss) = count ss
count (stand k i n ∷ ss) = 1 + count ss

-- a variable where it is met
pub record Variable : Type 0 where
  pub kind : ℕ
  pub number : ℕ
  pub address : ℤ
  pub size : ℕ

unfoldable pub variables : ℤ → List Step → List Variable
variables a [] = []
variables a (add o ∷ ss) = variables (a +ℤ o) ss
variables a (stand k i n ∷ ss) = record { kind = k; number = i; address = a; size = n } ∷ variables (a +ℤ pos n) ss

-- ── segments, the first of which has record i ──

-- the steps of its data elements
unfoldable pub segment_steps : ℕ → Segment → List Step
segment_steps i g = steps (i + 1) g.items

-- "A segment sets it to its origin": whether they keep the addresses from there on
unfoldable pub segment_keeps : ℕ → Segment → Bool
segment_keeps i g = keeps (pos g.origin) (segment_steps i g)

-- the number of the record after its subtree
unfoldable pub after_segment : ℕ → Segment → ℕ
after_segment i g = i + 1 + records g.items

-- what is told of a variable: its record, space, address, size and kind
pub record Found : Type 0 where
  pub number : ℕ
  pub space : ℕ
  pub address : ℕ
  pub size : ℕ
  pub kind : ℕ

unfoldable pub found : ℕ → Variable → Found
found space v = record { number = v.number; space = space; address = natural v.address; size = v.size; kind = v.kind }

-- "Variables are numbered from 0 as met"
unfoldable pub walk_from : ℕ → List Segment → List Found
walk_from i [] = []
walk_from i (g ∷ gs) = map (found g.space) (variables (pos g.origin) (segment_steps i g)) ++ walk_from (after_segment i g) gs

unfoldable pub walk : List Segment → List Found
walk gs = walk_from 0 gs

unfoldable pub count_from : ℕ → List Segment → ℕ
count_from i [] = 0
count_from i (g ∷ gs) = count (segment_steps i g) + count_from (after_segment i g) gs

unfoldable pub total : List Segment → ℕ
total gs = count_from 0 gs

unfoldable pub walk_page : Unit {0}
unfolding records copies steps moves addresses is_address keeps change count variables segment_steps segment_keeps after_segment found walk_from walk count_from total
walk_page = tt
