-- The supplied wrapping sum is the sum modulo 2 ^ 64. Assumes nothing.
use Rattle.sha.specs.Words.{plus}
use Rattle.std.proofs.Common.{rules}
use Rattle.sha64.proofs.word.add.Goals as goal

pub returns : goal.returns
unfolding plus
returns c = search rules
