-- One rotation goes around the other (`small_sigma_nested`). Assumes nothing.
use Rattle.std.proofs.Common.{arith}
use Rattle.sha.proofs.Rotations.{small_sigma_nested}
use Rattle.sha32.proofs.word.RotationsSigmas.small_sigma1.Goals as goal

pub returns : goal.returns
returns c = small_sigma_nested 32 17 19 10 2 _ (omega arith) (omega arith) (omega arith) c.rotate.ensures c.rotate-2.ensures
