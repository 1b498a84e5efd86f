-- The calls' equations are the definition's. Assumes nothing.
use Rattle.sha.specs.Sha2.{t2}
use Rattle.sha32.proofs.sha256.temp2.Goals as goal

pub returns : goal.returns
unfolding t2
returns g c = cc
