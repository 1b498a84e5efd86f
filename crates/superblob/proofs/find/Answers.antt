-- The part from start to end is the blob, by its definition.
use Rattle.superblob.specs.Rows.{blob}
use Rattle.superblob.proofs.find.Goals as goal

pub returns-in-Some : goal.returns-in-Some
unfolding blob
returns-in-Some c = cc (c.in-Some.ensures.found.start_is, c.in-Some.ensures.found.end_is)

pub returns-in-None : goal.returns-in-None
unfolding blob
returns-in-None c = rw (← c.in-None.ensures.found.start_is, ← c.in-None.ensures.found.end_is)
