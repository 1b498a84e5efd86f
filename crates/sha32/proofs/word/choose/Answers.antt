-- The code has a shorter form of the definition (`ch_short`). Assumes nothing.
use Rattle.std.proofs.Common.{arith}
use Rattle.sha.proofs.Short.{ch_short}
use Rattle.sha32.proofs.word.choose.Goals as goal

pub returns : goal.returns
returns c = ch_short 32 _ _ _ (omega arith) (omega arith) (omega arith)
