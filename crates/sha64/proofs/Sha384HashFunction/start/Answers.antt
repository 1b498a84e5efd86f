-- The words are the definition's, by computation. Assumes nothing.
use Rattle.std.proofs.Common.{refl}
use Rattle.sha.specs.Sha2.{h384}
use Rattle.sha64.proofs.Sha384HashFunction.start.Goals as goal

pub returns : goal.returns
unfolding h384
returns c = refl
