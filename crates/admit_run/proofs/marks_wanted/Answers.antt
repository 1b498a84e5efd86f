-- Where tests 1 to 18 pass the slots lie inside the signature; elsewhere none is wanted. Assumes nothing.
use mathlib.Core.Path.{ap, refl, ◌∙◌}
use Rattle.refusals.proofs.Results.{refused}
use native.Mathlib.Omega.{arith}
use Rattle.layout.specs.CodeDirectory.{n_code_slots}
use Rattle.admit_run.proofs.Laws.{wanted_none, wanted_some}
use Rattle.admit_run.proofs.marks_wanted.Goals as goal

pub returns-in_default : goal.returns-in_default
returns-in_default c = (wanted_none _ _ c.in_default.ensures (refused _), omega arith)

pub returns : goal.returns
returns c = wanted_some _ _ c.in-Ok.ensures _ (c.read.ensures.n_code_slots_is ∙ ap n_code_slots c.blob_of.ensures) refl
