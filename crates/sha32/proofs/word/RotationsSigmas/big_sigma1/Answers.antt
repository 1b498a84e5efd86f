-- Each rotation goes around the one before it (`big_sigma_nested`). Assumes nothing.
use Rattle.std.proofs.Common.{arith}
use Rattle.sha.proofs.Rotations.{big_sigma_nested}
use Rattle.sha32.proofs.word.RotationsSigmas.big_sigma1.Goals as goal

pub returns : goal.returns
returns c = big_sigma_nested 32 6 11 25 14 5 _ (omega arith) (omega arith) (omega arith) (omega arith)
    c.rotate.ensures c.rotate-2.ensures c.rotate-3.ensures
