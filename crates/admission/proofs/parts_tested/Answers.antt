-- Each group of tests is one call. A refusal stands before all later groups, and where it passes the next decides.
use mathlib.Core.Path.{refl}
use Rattle.std.proofs.lemmas.Result.{err_from_is_err_and}
use Rattle.refusals.proofs.Results.{refused}
use Rattle.directory.proofs.Formed.{kind_known}
use Rattle.admission.proofs.Tests.{formed_stops, sized_stops, sized_goes}
use Rattle.admission.proofs.parts_tested.Goals as goal

pub returns-in_err-tested : goal.returns-in_err-tested
returns-in_err-tested c =
    let p = err_from_is_err_and c.from_residual.result c.from_residual.ensures.1 in
    rw (p.1, p.2) (formed_stops _ _ _ _ _ c.longest_side.ensures _ c.in_err-tested.ensures (refused _))

pub returns-in_err-origin_tested : goal.returns-in_err-origin_tested
returns-in_err-origin_tested c =
    let p = err_from_is_err_and c.from_residual-in_err-origin_tested.result c.from_residual-in_err-origin_tested.ensures.1 in
    rw (p.1, p.2) (sized_stops _ _ _ _ _ c.longest_side.ensures _ c.in_ok-tested.ensures refl _ c.blob_of-d.ensures _ c.in_err-origin_tested.ensures (refused _))

pub later_tested-requires : goal.later_tested-requires
later_tested-requires c = kind_known _ _ _ _ c.in_ok-tested.ensures refl c.blob_of-d.ensures

pub returns : goal.returns
returns c = sized_goes _ _ _ _ _ c.longest_side.ensures _ c.in_ok-tested.ensures refl _ c.blob_of-d.ensures _ c.in_ok-origin_tested.ensures refl _ c.later_tested.ensures
