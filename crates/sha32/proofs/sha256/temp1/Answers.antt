-- The calls' equations are the definition's. Assumes nothing.
use Rattle.sha.specs.Sha2.{t1}
use Rattle.sha32.proofs.sha256.temp1.Goals as goal

pub returns : goal.returns
unfolding t1
returns g c = cc
