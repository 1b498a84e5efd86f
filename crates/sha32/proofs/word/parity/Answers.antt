-- The code's operations are the definition's. Assumes nothing.
use Rattle.sha.specs.Words.{parity}
use Rattle.std.proofs.Common.{rules}
use Rattle.sha32.proofs.word.parity.Goals as goal

pub returns : goal.returns
unfolding parity
returns c = search rules
