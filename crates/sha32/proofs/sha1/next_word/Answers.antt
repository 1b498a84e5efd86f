-- The calls' equations are the definition's. Assumes nothing.
use Rattle.sha.specs.Sha1.{mix1}
use Rattle.sha32.proofs.sha1.next_word.Goals as goal

pub returns : goal.returns
unfolding mix1
returns c = cc
