-- The whole check of an image that is lent apart.
use mathlib.Core.Path.{ap, ◌∙◌}
use Rattle.admission.specs.declared.Verdict.{Verdict}
use Rattle.admission.proofs.Calls.{parts_apart}
use Rattle.admission.proofs.check.Goals as goal

pub returns : goal.returns
returns c = ap (λ (v : Verdict). record { verdict = v; marks = c.check_parts.new.marks }) c.from.ensures ∙ c.check_parts.ensures ∙ parts_apart _ _
