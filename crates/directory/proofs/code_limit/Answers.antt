-- By codeLimit64: 0 where the version has none.
use native.Mathlib.Omega.{arith}
use Rattle.directory.proofs.Pages.{limit_small, limit_large}
use Rattle.directory.proofs.code_limit.Goals as goal

pub returns-then-limit64-eq0 : goal.returns-then-limit64-eq0
returns-then-limit64-eq0 c = limit_small _ _ c.limit64_of-limit64.ensures _ (omega arith) c.read.ensures.code_limit32_is

pub returns : goal.returns
returns c = limit_large _ _ c.limit64_of-limit64.ensures (omega arith)
