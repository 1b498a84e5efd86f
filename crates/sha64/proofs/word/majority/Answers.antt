-- The code has a shorter form of the definition (`maj_short`). Assumes nothing.
use Rattle.std.proofs.Common.{arith}
use Rattle.sha.proofs.Short.{maj_short}
use Rattle.sha64.proofs.word.majority.Goals as goal

pub returns : goal.returns
returns c = maj_short 64 _ _ _ (omega arith) (omega arith) (omega arith)
