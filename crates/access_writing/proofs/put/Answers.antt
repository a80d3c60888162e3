use Rattle.access_writing.proofs.Storing.{putting}
use Rattle.access_writing.proofs.put.Goals as goal

pub put_whole-requires : goal.put_whole-requires
put_whole-requires c = search putting

pub put_text-requires : goal.put_text-requires
put_text-requires c = search putting

pub returns-in-Number : goal.returns-in-Number
returns-in-Number c = search putting

pub returns-in-Event : goal.returns-in-Event
returns-in-Event c = search putting

pub returns-in-Text : goal.returns-in-Text
returns-in-Text c = search putting
