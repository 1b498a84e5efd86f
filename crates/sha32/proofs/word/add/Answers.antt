-- The supplied wrapping sum is the sum modulo 2 ^ 32. Assumes nothing.
use Rattle.sha.specs.Words.{plus}
use Rattle.std.proofs.Common.{rules}
use Rattle.sha32.proofs.word.add.Goals as goal

pub returns : goal.returns
unfolding plus
returns c = search rules
