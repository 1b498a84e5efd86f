-- It is an LC_CODE_SIGNATURE, and one of the two.
use Rattle.std.proofs.Common.{arith}
use Rattle.std.proofs.lemmas.Grind.{common_steps}
use Rattle.refusals.specs.Refusals.{holds}
use Rattle.macho.specs.Rows.{wrong_signature}
use Rattle.macho.proofs.command.Command.is_wrong_signature.Goals as goal

pub returns-then-second : goal.returns-then-second
unfolding wrong_signature holds
returns-then-second c = grind (arith, common_steps)

pub returns-else-second : goal.returns-else-second
unfolding wrong_signature holds
returns-else-second c = grind (arith, common_steps)

pub returns-else-is_signature : goal.returns-else-is_signature
unfolding wrong_signature holds
returns-else-is_signature c = grind (arith, common_steps)
