-- The three cases of the definition: an empty range, a division by 0, and a division.
use native.Mathlib.Omega.{arith}
use mathlib.Core.Logic.{⊎_elim}
use mathlib.Core.Path.{sym}
use Rattle.geometry.proofs.Pages.{first_empty, first_zero, range_first}
use Rattle.geometry.proofs.first_met.Goals as goal

pub returns-then-size-eq0 : goal.returns-then-size-eq0
returns-then-size-eq0 c = ⊎_elim (first_empty _ _ _) (λ w. first_zero _ _ _ w.1 (omega (arith, w.0))) c.then-size-eq0.either

pub returns : goal.returns
returns c = sym (range_first _ _ _ (omega arith))
