-- The shifts of the rotations, in the law's order (`big_sigma_shifts`). Assumes nothing.
use native.Mathlib.Omega.{arith}
use Rattle.sha.proofs.Shifts.{big_sigma_shifts}
use Rattle.sha256x4.proofs.word.ShiftsSigmas.big_sigma1.Goals as goal

pub returns : goal.returns
returns c = big_sigma_shifts 32 6 11 25 _ (omega arith) (omega arith) (omega arith) (omega arith)
