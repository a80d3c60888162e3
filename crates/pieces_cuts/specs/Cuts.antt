-- What a cut says of the piece at its place.
use Rattle.std.specs.Prelude.{◌≡◌, List, [], ◌∷◌, Bool, false, cond, ℕ, ◌+◌, ◌≤◌, ◌<◌, length, drop}
use Rattle.std.proofs.Math.Option.{Option, none, some}
use Rattle.cdi.specs.Lists.{while}
use Rattle.cdi.specs.Pieces.{Piece, start, finish, remark, refer, text, malformed, unsupported, blank, attributes, twice, piece_at, pieces}
use Rattle.cdi.specs.Markup.{refers}
use Rattle.pieces_cuts.specs.Places.{part}
use Rattle.pieces_cuts.specs.declared.Kind.{Kind}
use Rattle.pieces_cuts.specs.declared.Kind.TheVariants.{Start, Finish, Remark, Refer, Text, Malformed, Unsupported}
use Rattle.pieces_cuts.specs.declared.Cut.{Cut}

-- a cut that has no name and no text
abbrev pub plain_cut : Kind → ℕ → ℕ → Cut
plain_cut k e c = record { kind = k; name = 0; behind = 0; end = e; solid = 0; code = c; short = false; refers = false }

-- the piece that a cut stands for
unfoldable pub piece_of : Kind → List ℕ → ℕ → Cut → Piece
piece_of Start s at r = start (part s r.name r.behind) (attributes r.behind 0 (drop r.behind s)) r.short
piece_of Finish s at r = finish (part s r.name r.behind)
piece_of Remark s at r = remark
piece_of Refer s at r = refer r.code
piece_of Text s at r = text (part s at r.end)
piece_of Malformed s at r = malformed
piece_of Unsupported s at r = unsupported

-- how many bytes stand before a tag's name: `<`, or `</`
unfoldable pub before : Kind → ℕ
before Start = 1
before Finish = 2
before Remark = 0
before Refer = 0
before Text = 0
before Malformed = 0
before Unsupported = 0

-- a tag's name
unfoldable pub name_of : Piece → List ℕ
name_of (start n s e) = n
name_of (finish n) = n
name_of remark = []
name_of (refer c) = []
name_of (text t) = []
name_of malformed = []
name_of unsupported = []

-- the text of a run
unfoldable pub text_of : Piece → List ℕ
text_of (start n s e) = []
text_of (finish n) = []
text_of remark = []
text_of (refer c) = []
text_of (text t) = t
text_of malformed = []
text_of unsupported = []

-- the character that a reference is to
unfoldable pub code_of : Piece → ℕ
code_of (start n s e) = 0
code_of (finish n) = 0
code_of remark = 0
code_of (refer c) = c
code_of (text t) = 0
code_of malformed = 0
code_of unsupported = 0

-- a start tag in the short form
unfoldable pub short_of : Piece → Bool
short_of (start n s e) = e
short_of (finish n) = false
short_of remark = false
short_of (refer c) = false
short_of (text t) = false
short_of malformed = false
short_of unsupported = false

-- a start tag with `&` in an attribute's value
unfoldable pub refers_of : Piece → Bool
refers_of (start n s e) = refers s
refers_of (finish n) = false
refers_of remark = false
refers_of (refer c) = false
refers_of (text t) = false
refers_of malformed = false
refers_of unsupported = false

-- the cut r of s is the wanted piece, which stands at a place and is followed by the wanted rest
pub record Cuts (s : List ℕ) (at : ℕ) (want : Piece × List ℕ) (r : Cut) : Type 0 where
  pub is : want ≡ (piece_of r.kind s at r, drop r.end s)
  pub name : r.name ≡ at + before r.kind
  pub behind : r.behind ≡ r.name + length (name_of want.0)
  pub solid : r.solid ≡ at + length (while blank (text_of want.0))
  pub code : r.code ≡ code_of want.0
  pub short : r.short ≡ short_of want.0
  pub refers' : r.refers ≡ refers_of want.0
  pub name_low : r.name ≤ r.behind
  pub name_high : r.behind ≤ r.end
  pub solid_low : at ≤ r.solid
  pub solid_high : r.solid ≤ r.end
  pub low : at < r.end
  pub high : r.end ≤ length s

-- the piece that stands at a place of the content: the cutting goes on behind it
pub record Stands (s : List ℕ) (at : ℕ) (r : Cut) : Type 0 where
  pub is : pieces at 0 (drop at s) ≡ (at, piece_of r.kind s at r) ∷ pieces r.end 0 (drop r.end s)
  pub cut : Cuts s at (piece_at at (drop at s)) r

-- a start tag that closes as it says, unless a name stands twice in it: its name ends before n, and it ends before e
unfoldable pub tag_of : List ℕ → ℕ → ℕ → Bool → Option (Piece × List ℕ)
tag_of s n e k = cond (twice (attributes n 0 (drop n s))) none (some (start (part s 1 n) (attributes n 0 (drop n s)) k, drop e s))
