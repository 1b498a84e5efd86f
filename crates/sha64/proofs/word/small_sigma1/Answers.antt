-- One rotation goes around the other (`small_sigma_nested`). Assumes nothing.
use Rattle.std.proofs.Common.{arith}
use Rattle.sha.proofs.Rotations.{small_sigma_nested}
use Rattle.sha64.proofs.word.small_sigma1.Goals as goal

pub returns : goal.returns
returns c = small_sigma_nested 64 19 61 6 42 _ (omega arith) (omega arith) (omega arith) c.rotate.ensures c.rotate-2.ensures
