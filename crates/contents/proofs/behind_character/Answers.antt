use Rattle.std.proofs.Common.{arith}
use Rattle.contents.proofs.Decoding.{bytes_are, bytes_room}
use Rattle.contents.proofs.behind_character.Goals as goal

pub shared_ref_as_front-behind_word : goal.shared_ref_as_front-behind_word
shared_ref_as_front-behind_word c = omega (arith, bytes_room c.utf8-encoding.ensures)

pub returns : goal.returns
returns c = rw (← bytes_are c.utf8-encoding.ensures) c.behind_word.ensures
