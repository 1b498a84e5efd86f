-- The check is lent as many marks as are wanted, and its verdict is taken (`verdict_is`). Assumes nothing.
use native.Mathlib.Omega.{arith}
use Rattle.admit_run.proofs.Laws.{verdict_is}
use Rattle.admit_run.proofs.admit.Goals as goal

pub returns : goal.returns
returns c = verdict_is _ _ _ c.args.marks.now c.marks_wanted-n.result _ _ c.marks_wanted-n.ensures.0 (omega arith) c.check.ensures
