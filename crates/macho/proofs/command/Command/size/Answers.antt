-- The size is read where the command starts.
use Rattle.layout.specs.MachO.{cmdsize}
use borrow.Author.Rules.{rules}
use Rattle.macho.proofs.command.Command.size.Goals as goal

pub returns : goal.returns
unfolding cmdsize
returns c = (cc, search rules)
