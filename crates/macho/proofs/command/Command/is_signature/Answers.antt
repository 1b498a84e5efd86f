-- The type is read where the command starts.
use Rattle.refusals.specs.Refusals.{holds}
use Rattle.layout.specs.MachO.{cmd}
use Rattle.macho.specs.Rows.{is_signature}
use Rattle.macho.proofs.command.Command.is_signature.Goals as goal

pub returns : goal.returns
unfolding holds is_signature cmd
returns c = cc
