-- What one step over the pieces gives.
use Rattle.std.specs.Prelude.{◌≡◌, ◌≤◌, length, Option, MatchOption}
use Rattle.pieces_cuts.specs.Cuts.{Stands}
use Rattle.children.specs.declared.Placed.{Placed}
use Rattle.children.specs.declared.Pieces.{Pieces}

-- a piece stands at the place, and the next is to stand behind it
pub record Came (p : Pieces) (x : Placed) (q : Pieces) : Type 0 where
  pub place : x.place ≡ p.at
  pub stands : Stands p.content.now p.at x.cut
  pub content : q.content.now ≡ p.content.now
  pub at : q.at ≡ x.cut.end

-- the content is at its end
pub record Over (p q : Pieces) : Type 0 where
  pub out : length p.content.now ≤ p.at
  pub content : q.content.now ≡ p.content.now
  pub at : q.at ≡ p.at

abbrev pub Gives : Pieces → Option Placed → Pieces → Type 0
Gives p r q = MatchOption r (Over p q) (λ x. Came p x q)
