-- The callees' equations are the definition's. Assumes nothing.
use Rattle.sha.specs.Sha2.{compress, k512}
use Rattle.sha64.proofs.block.compress_block.Goals as goal

pub returns : goal.returns
unfolding compress k512
returns c = cc
