-- The word stored is the rule's (`renewed_of`). Assumes nothing.
use Rattle.sha.specs.Sha2.{core256}
use Rattle.sha.proofs.Rounds.{renewed_of}
use Rattle.std.proofs.Common.{arith}
use Rattle.sha32.proofs.sha256.renew_word.Goals as goal

pub returns : goal.returns
returns c = renewed_of core256 _ _ _ (omega arith) c.next_word.ensures
