-- The calls' equations are the definition's. Assumes nothing.
use Rattle.sha.specs.Sha1.{compress1}
use Rattle.sha32.proofs.sha1.Sha1HashFunction.compress.Goals as goal

pub returns : goal.returns
unfolding compress1
returns c = cc
