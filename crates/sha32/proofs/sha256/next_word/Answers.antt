-- The calls' equations are the definition's. Assumes nothing.
use Rattle.sha.specs.Sha2.{mix}
use Rattle.sha32.proofs.sha256.next_word.Goals as goal

pub returns : goal.returns
unfolding mix
returns g c = cc
