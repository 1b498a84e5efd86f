-- The calls' equations are the definition's. Assumes nothing.
use Rattle.sha.specs.Sha1.{temp}
use Rattle.sha32.proofs.sha1.temp.Goals as goal

pub returns : goal.returns
unfolding temp
returns c = cc
