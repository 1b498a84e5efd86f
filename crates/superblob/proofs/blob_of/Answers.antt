-- The part at the offset, as long as the length, of the type's position: by definition.
use Rattle.superblob.specs.Rows.{blob_at, blob_of}
use Rattle.superblob.proofs.blob_of.Goals as goal

pub returns : goal.returns
unfolding blob_of blob_at
returns c = cc
