-- Each test is a part of the condition.
use Rattle.std.proofs.Common.{arith}
use Rattle.std.proofs.lemmas.Grind.{common_steps}
use Rattle.refusals.specs.Refusals.{holds}
use Rattle.macho.specs.Rows.{malformed}
use Rattle.macho.proofs.command.Command.is_malformed.Goals as goal

pub returns-then-size-ne0 : goal.returns-then-size-ne0
unfolding malformed holds
returns-then-size-ne0 c = grind (arith, common_steps)

pub returns-else-size-ne0 : goal.returns-else-size-ne0
unfolding malformed holds
returns-else-size-ne0 c = grind (arith, common_steps)
