-- The limit plus P - 1, divided by P, is one more than the limit less 1, divided by P; a division by 0 is 0.
use native.Mathlib.Omega.{arith}
use Prim.Native.Nat.{◌-◌}
use mathlib.Core.Logic.{⊎_elim}
use native.Mathlib.Nat.{div-le_self}
use Rattle.geometry.proofs.Pages.{count_zero, count_none, count_pos}
use Rattle.geometry.proofs.page_count.Goals as goal

pub returns-then-limit-eq0 : goal.returns-then-limit-eq0
returns-then-limit-eq0 c = ⊎_elim (count_zero _ _) (λ w. count_none _ _ w.1) c.then-limit-eq0.either

pub overflow_add-result : goal.overflow_add-result
overflow_add-result c = omega (arith, div-le_self (c.args.limit - 1) c.args.p)

pub returns : goal.returns
returns c = count_pos _ _ (omega arith) (omega arith)
