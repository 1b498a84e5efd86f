-- The longer of the two lengths.
use mathlib.Core.Path.{◌∙◌}
use Rattle.admission.proofs.Tests.{longest_is}
use Rattle.admission.proofs.longest_side.Goals as goal

pub returns : goal.returns
returns c = c.max.ensures ∙ longest_is _ _ _ c.side_length.ensures c.side_length-2.ensures
