-- The area stands behind the header.
use native.Mathlib.Omega.{arith}
use Rattle.macho.specs.Rows.{area_end}
use Rattle.macho.proofs.command.area_end.Goals as goal

pub returns : goal.returns
unfolding area_end
returns c = omega arith
