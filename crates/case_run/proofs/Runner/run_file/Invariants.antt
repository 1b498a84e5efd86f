-- Each case leaves less of the file.
use Rattle.std.proofs.Common.{length}
use Rattle.case_run.proofs.Runner.run_file.Given as goal

abbrev pub decreases-loop-rest : goal.decreases-loop-rest
decreases-loop-rest l = length l.rest
