-- A number that is none of the four is in no line of the table of widths.
use native.Mathlib.Omega.{arith}
use mathlib.Core.Path.{sym}
use Rattle.refusals.proofs.Ranges.{misses}
use Rattle.layout.specs.CodeDirectory.{slot_widths, width_of}
use Rattle.layout.proofs.kinds.HashKind.of.Goals as goal

pub returns-in_default-clause-unknown : goal.returns-in_default-clause-unknown
unfolding width_of slot_widths
returns-in_default-clause-unknown c = λ h. sym (misses slot_widths 0 _ (omega arith))
