-- Test 41 by the code limit that is read, and where it passes test 20.
use native.Mathlib.Omega.{arith}
use Rattle.refusals.specs.Refusals.{accepted}
use Rattle.refusals.proofs.Exact.{decides}
use Rattle.admission.specs.Check.{count_rows}
use Rattle.admission.specs.File.{start_rows}
use Rattle.admission.proofs.Tests.{starts_there}
use Rattle.admission.proofs.start_tested.Goals as goal

pub returns-then-start-code_limit : goal.returns-then-start-code_limit
unfolding start_rows count_rows
returns-then-start-code_limit c = decides _ accepted _ _ (omega arith)

pub returns : goal.returns
returns c = starts_there _ _ _ _ _ _ c.code_limit.ensures c.if-start-code_limit.false c.count_tested.ensures
