-- The three cases of the definition; the quotient is at most the last byte's place, so one more does not wrap.
use native.Mathlib.Omega.{arith}
use Prim.Native.Nat.{◌+◌, ◌-◌}
use mathlib.Core.Path.{sym}
use native.Mathlib.Nat.{div-le_self}
use Rattle.geometry.proofs.Pages.{end_empty, end_zero, range_end}
use Rattle.geometry.proofs.end_met.Goals as goal

pub returns-then-size-eq0 : goal.returns-then-size-eq0
returns-then-size-eq0 c = end_empty _ _ _ (omega arith)

pub returns-then-p-eq0 : goal.returns-then-p-eq0
returns-then-p-eq0 c = end_zero _ _ _ (omega arith) (omega arith)

pub overflow_add-result-2 : goal.overflow_add-result-2
overflow_add-result-2 c = omega (arith, div-le_self (c.args.start + (c.args.size - 1)) c.args.p)

pub returns : goal.returns
returns c = sym (range_end _ _ _ (omega arith))
