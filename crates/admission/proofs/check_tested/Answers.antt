-- Tests 1 to 30 of an image that is lent apart.
use mathlib.Core.Path.{◌∙◌}
use Rattle.admission.proofs.Calls.{tested_apart}
use Rattle.admission.proofs.check_tested.Goals as goal

pub returns : goal.returns
returns c = c.parts_tested.ensures ∙ tested_apart _ _ _
