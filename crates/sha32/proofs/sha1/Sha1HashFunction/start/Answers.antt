-- The words are the definition's, by computation. Assumes nothing.
use Rattle.std.proofs.Common.{refl}
use Rattle.sha.specs.Sha1.{h1}
use Rattle.sha32.proofs.sha1.Sha1HashFunction.start.Goals as goal

pub returns : goal.returns
unfolding h1
returns c = refl
