-- The index is `count` entries behind the head.
use Rattle.layout.specs.SuperBlob.{index_end}
use native.Mathlib.Omega.{arith}
use Rattle.superblob.proofs.index_end.Goals as goal

pub returns : goal.returns
unfolding index_end
returns c = omega arith
