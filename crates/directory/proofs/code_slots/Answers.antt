-- The slots are a part by their definition.
use Rattle.directory.specs.Rows.{code_slots}
use Rattle.directory.proofs.code_slots.Goals as goal

pub returns : goal.returns
unfolding code_slots
returns c = cc
