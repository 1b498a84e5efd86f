-- Test 19 by the code limit that is read, and where it passes test 20.
use native.Mathlib.Omega.{arith}
use Rattle.refusals.specs.Refusals.{accepted}
use Rattle.refusals.proofs.Exact.{decides}
use Rattle.admission.specs.Check.{image_rows, count_rows}
use Rattle.admission.proofs.Tests.{image_long}
use Rattle.admission.proofs.sizes_tested.Goals as goal

pub returns-then-image_length-code_limit : goal.returns-then-image_length-code_limit
unfolding image_rows count_rows
returns-then-image_length-code_limit c = decides _ accepted _ _ (omega arith)

pub returns : goal.returns
returns c = image_long _ _ _ _ _ c.code_limit.ensures c.if-image_length-code_limit.false c.count_tested.ensures
