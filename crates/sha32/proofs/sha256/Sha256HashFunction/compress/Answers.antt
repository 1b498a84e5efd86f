-- The calls' equations are the definition's. Assumes nothing.
use Rattle.sha.specs.Sha2.{compress, k256}
use Rattle.sha32.proofs.sha256.Sha256HashFunction.compress.Goals as goal

pub returns : goal.returns
unfolding compress k256
returns c = cc
