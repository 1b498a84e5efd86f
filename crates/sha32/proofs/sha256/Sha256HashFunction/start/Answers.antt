-- The words are the definition's, by computation. Assumes nothing.
use Rattle.std.proofs.Common.{refl}
use Rattle.sha.specs.Sha2.{h256}
use Rattle.sha32.proofs.sha256.Sha256HashFunction.start.Goals as goal

pub returns : goal.returns
unfolding h256
returns c = refl
