-- Each field is what `be32` reads at its offset.
use Rattle.layout.specs.SuperBlob.{magic, super_length, count}
use borrow.Author.Rules.{rules}
use Rattle.layout.proofs.superblob.SuperBlob.read.Goals as goal

pub returns : goal.returns
unfolding magic super_length count
returns c = search rules
