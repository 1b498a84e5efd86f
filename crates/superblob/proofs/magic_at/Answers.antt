-- The blob is read at the offset of its index entry.
use Rattle.layout.specs.SuperBlob.{blob_magic}
use Rattle.superblob.proofs.magic_at.Goals as goal

pub returns : goal.returns
unfolding blob_magic
returns c = cc
