-- The blob is read at the offset of its index entry.
use Rattle.layout.specs.SuperBlob.{blob_length}
use borrow.Author.Rules.{rules}
use Rattle.superblob.proofs.length_at.Goals as goal

pub returns : goal.returns
unfolding blob_length
returns c = (cc, search rules)
