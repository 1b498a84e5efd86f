-- Each part of the condition is a test of two numbers.
use native.Mathlib.Omega.{arith}
use Rattle.refusals.proofs.Conditions.{lt_says, ne_says}
use Rattle.directory.specs.Rows.{special_outside}
use Rattle.directory.proofs.special_outside.Goals as goal

pub returns-then-at-head_of : goal.returns-then-at-head_of
unfolding special_outside
returns-then-at-head_of c = lt_says _ _ _ (λ h. omega arith) (λ h. omega arith)

pub returns-else-at-head_of : goal.returns-else-at-head_of
unfolding special_outside
returns-else-at-head_of c = lt_says _ _ _ (λ h. omega arith) (λ h. omega arith)

pub returns-else-head-ne0 : goal.returns-else-head-ne0
unfolding special_outside
returns-else-head-ne0 c = ne_says _ _ _ (λ h. omega arith) (λ h. omega arith)
