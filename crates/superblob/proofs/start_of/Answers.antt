-- The offset at the position of the type: by definition.
use Rattle.superblob.proofs.start_of.Goals as goal

pub returns : goal.returns
returns c = cc
