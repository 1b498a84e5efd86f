-- The word stored is the rule's (`renewed1_of`). Assumes nothing.
use Rattle.sha.proofs.Rounds1.{renewed1_of}
use Rattle.std.proofs.Common.{arith}
use Rattle.sha32.proofs.sha1.renew_word.Goals as goal

pub returns : goal.returns
returns c = renewed1_of _ _ _ (omega arith) c.next_word.ensures
