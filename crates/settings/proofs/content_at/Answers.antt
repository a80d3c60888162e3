use Rattle.settings.proofs.Rereading.{rereading}
use Rattle.settings.proofs.content_at.Goals as goal

pub returns-clause-is : goal.returns-clause-is
returns-clause-is c = search rereading

pub returns-clause-inside : goal.returns-clause-inside
returns-clause-inside c = search rereading
