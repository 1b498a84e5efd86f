-- A refusal by the tests stands and leaves the marks; where they pass the marks of the pages met are written and all are judged.
use mathlib.Core.Path.{refl}
use Rattle.std.proofs.lemmas.Result.{err_from_is_err_and}
use Rattle.refusals.proofs.Results.{refused}
use Rattle.admission.proofs.Calls.{recheck_refused, range_here, recheck_judged}
use Rattle.admission.proofs.range.Call.answer.Goals as goal

pub returns-in_err-tested : goal.returns-in_err-tested
returns-in_err-tested c =
    let p = err_from_is_err_and c.from_residual.result c.from_residual.ensures.1 in
    rw (p.1, p.2) (recheck_refused _ _ _ _ _ _ c.in_err-tested.ensures (refused _))

pub rewrite_marks-requires : goal.rewrite_marks-requires
rewrite_marks-requires c = range_here _ _ _ _ _ _ c.in_ok-tested.ensures refl _ c.blob_of-d.ensures

pub returns : goal.returns
returns c = recheck_judged _ _ _ _ _ _ c.in_ok-tested.ensures refl _ c.blob_of-d.ensures _ c.rewrite_marks.ensures _ c.judge.ensures
