-- Where a test refuses every field is 0, and where none does it is what is read. Assumes nothing.
use mathlib.Core.Path.{ap, refl, ◌∙◌}
use Rattle.refusals.proofs.Results.{refused}
use Rattle.trewizlow.specs.Interface.{no_fields}
use Rattle.trewizlow.proofs.Laws.{fields_read, fields_refused}
use Rattle.trewizlow.proofs.trewizlow_read.Goals as goal

pub returns-in-Ok : goal.returns-in-Ok
returns-in-Ok c = c.fields.ensures ∙ fields_read _ _ c.in-Ok.ensures refl

pub returns-in-Err : goal.returns-in-Err
returns-in-Err c = c.no_fields.ensures ∙ ap no_fields c.from.ensures ∙ fields_refused _ _ c.in-Err.ensures (refused _)
