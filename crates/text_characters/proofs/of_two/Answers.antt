use Rattle.text_characters.proofs.Characters.{several}
use Rattle.text_characters.proofs.of_two.Goals as goal

pub returns : goal.returns
returns c = search several
