-- A refusal by tests 36 to 40 stands and leaves the marks; where they pass, the rest is a whole check of the image and the signature.
use mathlib.Core.Path.{refl}
use Rattle.std.proofs.lemmas.Result.{err_from_is_err_and}
use Rattle.refusals.proofs.Results.{refused}
use Rattle.admission.proofs.Calls.{file_refused, file_checked}
use Rattle.admission.proofs.check_walked.Goals as goal

pub returns-in_err-span : goal.returns-in_err-span
returns-in_err-span c =
    let p = err_from_is_err_and c.from_residual.result c.from_residual.ensures.1 in
    rw (p.1, p.2) (file_refused _ _ _ c.in_err-span.ensures.0 (refused _) _ refl)

pub returns : goal.returns
returns c = file_checked _ _ _ c.in_ok-span.ensures.0 refl _ c.in_ok-span.ensures.1 _ _ c.check_parts.ensures
