-- The width by the kind that is read.
use mathlib.Core.Path.{◌∙◌, ap}
use native.Mathlib.Omega.{arith}
use Rattle.layout.specs.CodeDirectory.{width_of, slot_width}
use Rattle.directory.proofs.slot_width.Goals as goal

pub returns : goal.returns
unfolding slot_width
returns c = (c.slot_width.ensures.0 ∙ ap width_of (omega (arith, c.read-hash_type.ensures.hash_type_is)), c.slot_width.ensures.1)
