use Rattle.pieces_references.proofs.Referring.{references}
use Rattle.pieces_references.proofs.reference.Goals as goal

pub character-requires : goal.character-requires
character-requires c = search references

pub returns-then-begins_at : goal.returns-then-begins_at
returns-then-begins_at c = search references

pub character-requires-then-begins_at-2 : goal.character-requires-then-begins_at-2
character-requires-then-begins_at-2 c = search references

pub returns-then-begins_at-2 : goal.returns-then-begins_at-2
returns-then-begins_at-2 c = search references

pub character-requires-then-begins_at-3 : goal.character-requires-then-begins_at-3
character-requires-then-begins_at-3 c = search references

pub returns-then-begins_at-3 : goal.returns-then-begins_at-3
returns-then-begins_at-3 c = search references

pub character-requires-then-begins_at-4 : goal.character-requires-then-begins_at-4
character-requires-then-begins_at-4 c = search references

pub returns-then-begins_at-4 : goal.returns-then-begins_at-4
returns-then-begins_at-4 c = search references

pub character-requires-then-begins_at-5 : goal.character-requires-then-begins_at-5
character-requires-then-begins_at-5 c = search references

pub returns-then-begins_at-5 : goal.returns-then-begins_at-5
returns-then-begins_at-5 c = search references

pub returns : goal.returns
returns c = search references
