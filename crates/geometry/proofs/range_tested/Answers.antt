-- Each refusal is its own row, with no row before it; the limit is compared with differences, which say the same of the sum.
use native.Mathlib.Omega.{arith}
use Rattle.refusals.specs.Refusals.{accepted}
use Rattle.refusals.proofs.Exact.{decides, passes}
use Rattle.geometry.specs.Pages.{range_rows}
use Rattle.geometry.proofs.range_tested.Goals as goal

pub returns-then-limit-start : goal.returns-then-limit-start
unfolding range_rows
returns-then-limit-start c = decides _ accepted _ _ (omega arith)

pub returns-then-given-wanted_bytes : goal.returns-then-given-wanted_bytes
unfolding range_rows
returns-then-given-wanted_bytes c = decides _ accepted _ _ (omega arith)

pub returns : goal.returns
unfolding range_rows
returns c = passes _ accepted (omega arith)
