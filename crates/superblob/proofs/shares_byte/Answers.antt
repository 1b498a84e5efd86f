-- The two orders are the condition.
use Rattle.std.proofs.Common.{arith}
use Rattle.std.proofs.lemmas.Grind.{common_steps}
use Rattle.refusals.specs.Refusals.{holds}
use Rattle.superblob.specs.Rows.{shared}
use Rattle.superblob.proofs.shares_byte.Goals as goal

pub returns-then-a-b : goal.returns-then-a-b
unfolding shared holds
returns-then-a-b c = grind (arith, common_steps)

pub returns-else-a-b : goal.returns-else-a-b
unfolding shared holds
returns-else-a-b c = grind (arith, common_steps)
