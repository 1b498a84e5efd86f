-- Each refusal is the first row that holds: the rows before it are the tests passed on the way.
use native.Mathlib.Omega.{arith}
use Rattle.refusals.specs.Refusals.{accepted}
use Rattle.refusals.proofs.Exact.{decides, passes}
use Rattle.superblob.specs.Rows.{head_rows}
use Rattle.superblob.proofs.head_tested.Goals as goal

pub returns-then-sig-lt-HEAD : goal.returns-then-sig-lt-HEAD
unfolding head_rows
returns-then-sig-lt-HEAD c = decides _ accepted _ _ (omega arith)

pub returns-then-head-ne-MAGIC : goal.returns-then-head-ne-MAGIC
unfolding head_rows
returns-then-head-ne-MAGIC c = decides _ accepted _ _ (omega arith)

pub returns-then-head-eq0 : goal.returns-then-head-eq0
unfolding head_rows
returns-then-head-eq0 c = decides _ accepted _ _ (omega arith)

pub returns-then-head-index_end : goal.returns-then-head-index_end
unfolding head_rows
returns-then-head-index_end c = decides _ accepted _ _ (omega arith)

pub returns : goal.returns
unfolding head_rows
returns c = passes _ accepted (omega arith)
