-- A refusal by the tests stands and leaves the marks; where they pass all marks are written and judged.
use mathlib.Core.Path.{refl}
use Rattle.std.proofs.lemmas.Result.{err_from_is_err_and}
use Rattle.refusals.proofs.Results.{refused}
use Rattle.admission.proofs.Calls.{parts_refused, image_here, parts_judged}
use Rattle.admission.proofs.check_parts.Goals as goal

pub returns-in_err-entry : goal.returns-in_err-entry
returns-in_err-entry c =
    let p = err_from_is_err_and c.from_residual.result c.from_residual.ensures.1 in
    rw (p.1, p.2) (parts_refused _ _ _ _ c.in_err-entry.ensures (refused _) _ refl)

pub write_marks-requires : goal.write_marks-requires
write_marks-requires c = image_here _ _ _ _ c.in_ok-entry.ensures refl _ c.blob_of-d.ensures

pub returns : goal.returns
returns c = parts_judged _ _ _ _ c.in_ok-entry.ensures refl _ c.blob_of-d.ensures _ c.write_marks.ensures _ c.judge.ensures _ refl
