-- Each order is a part of the condition.
use Rattle.std.proofs.Common.{arith}
use Rattle.std.proofs.lemmas.Grind.{common_steps}
use Rattle.refusals.specs.Refusals.{holds}
use Rattle.superblob.specs.Rows.{outside}
use Rattle.superblob.proofs.lies_outside.Goals as goal

pub returns-then-size-offset-2 : goal.returns-then-size-offset-2
unfolding outside holds
returns-then-size-offset-2 c = grind (arith, common_steps)

pub returns-else-size-offset-2 : goal.returns-else-size-offset-2
unfolding outside holds
returns-else-size-offset-2 c = grind (arith, common_steps)
