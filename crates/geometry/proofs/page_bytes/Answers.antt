-- Each arm of the match is its own case of the definition.
use native.Mathlib.Omega.{arith}
use Rattle.geometry.proofs.Pages.{whole_bytes, small_bytes, large_bytes, other_bytes}
use Rattle.geometry.proofs.page_bytes.Goals as goal

pub returns-in-0 : goal.returns-in-0
returns-in-0 c = whole_bytes _ _ (omega arith)

pub returns-in-12 : goal.returns-in-12
returns-in-12 c = small_bytes _ _ (omega arith)

pub returns-in-14 : goal.returns-in-14
returns-in-14 c = large_bytes _ _ (omega arith)

pub returns-in_default : goal.returns-in_default
returns-in_default c = other_bytes _ _ (omega arith) (omega arith) (omega arith)
