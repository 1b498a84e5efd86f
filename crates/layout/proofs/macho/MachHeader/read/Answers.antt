-- Each field is what `le32` reads at its offset.
use Rattle.layout.specs.MachO.{header_magic, ncmds, sizeofcmds}
use borrow.Author.Rules.{rules}
use Rattle.layout.proofs.macho.MachHeader.read.Goals as goal

pub returns : goal.returns
unfolding header_magic ncmds sizeofcmds
returns c = search rules
