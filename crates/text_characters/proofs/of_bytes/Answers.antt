use Rattle.text_characters.proofs.Characters.{first_bytes}
use Rattle.text_characters.proofs.of_bytes.Goals as goal

pub returns-in-0-to-127 : goal.returns-in-0-to-127
returns-in-0-to-127 c = search first_bytes

pub returns-in-192-to-223 : goal.returns-in-192-to-223
returns-in-192-to-223 c = search first_bytes

pub returns-in-224-to-239 : goal.returns-in-224-to-239
returns-in-224-to-239 c = search first_bytes

pub returns-in-240-to-247 : goal.returns-in-240-to-247
returns-in-240-to-247 c = search first_bytes

pub returns-in_default : goal.returns-in_default
returns-in_default c = search first_bytes

pub returns-in_default-2 : goal.returns-in_default-2
returns-in_default-2 c = search first_bytes
