-- Each group of tests is one call. A refusal stands before all later groups, and where it passes the next decides.
use mathlib.Core.Path.{refl}
use Rattle.std.proofs.lemmas.Result.{err_from_is_err_and}
use Rattle.refusals.proofs.Results.{refused}
use Rattle.admission.proofs.Tests.{call_formed_stops, counted_stops, input_stops, input_goes}
use Rattle.admission.proofs.range.Call.tested.Goals as goal

pub returns-in_err-tested : goal.returns-in_err-tested
returns-in_err-tested c =
    let p = err_from_is_err_and c.from_residual.result c.from_residual.ensures.1 in
    rw (p.1, p.2) (call_formed_stops _ _ _ _ _ _ c.in_err-tested.ensures (refused _))

pub returns-in_err-count_tested : goal.returns-in_err-count_tested
returns-in_err-count_tested c =
    let p = err_from_is_err_and c.from_residual-in_err-count_tested.result c.from_residual-in_err-count_tested.ensures.1 in
    rw (p.1, p.2) (counted_stops _ _ _ _ _ _ c.in_ok-tested.ensures refl _ c.blob_of-d.ensures _ c.in_err-count_tested.ensures (refused _))

pub returns-in_err-range_tested : goal.returns-in_err-range_tested
returns-in_err-range_tested c =
    let p = err_from_is_err_and c.from_residual-in_err-range_tested.result c.from_residual-in_err-range_tested.ensures.1 in
    rw (p.1, p.2) (input_stops _ _ _ _ _ _ c.in_ok-tested.ensures refl _ c.blob_of-d.ensures _ c.in_ok-count_tested.ensures refl _ c.in_err-range_tested.ensures (refused _))

pub returns : goal.returns
returns c = input_goes _ _ _ _ _ _ c.in_ok-tested.ensures refl _ c.blob_of-d.ensures _ c.in_ok-count_tested.ensures refl _ c.in_ok-range_tested.ensures refl _ c.marks_tested.ensures
