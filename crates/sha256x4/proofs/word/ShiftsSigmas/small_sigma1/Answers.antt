-- The shifts of the rotations, in the law's order (`small_sigma_shifts`). Assumes nothing.
use native.Mathlib.Omega.{arith}
use Rattle.sha.proofs.Shifts.{small_sigma_shifts}
use Rattle.sha256x4.proofs.word.ShiftsSigmas.small_sigma1.Goals as goal

pub returns : goal.returns
returns c = small_sigma_shifts 32 17 19 10 _ (omega arith) (omega arith) (omega arith)
