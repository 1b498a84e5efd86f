-- What is read fits into the part of the buffer that is left, so that n stays inside and grows.
use Rattle.std.proofs.Common.{length, ◌-◌, ◌≤◌}
use Rattle.admit_run.proofs.files.read_all.Given as goal

abbrev pub invariant-loop-n : goal.invariant-loop-n
invariant-loop-n g l = l.n ≤ length l.out

abbrev pub decreases-loop-n : goal.decreases-loop-n
decreases-loop-n g l = length l.out - l.n
