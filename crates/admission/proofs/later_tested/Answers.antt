-- Each group of tests is one call. A refusal stands before all later groups, and where it passes the next decides.
use mathlib.Core.Path.{refl}
use native.Mathlib.Omega.{arith}
use Rattle.std.proofs.lemmas.Result.{err_from_is_err_and}
use Rattle.refusals.proofs.Results.{refused}
use Rattle.admission.proofs.Tests.{matched_stops, matched_goes}
use Rattle.admission.proofs.later_tested.Goals as goal

pub returns-in_err-tested : goal.returns-in_err-tested
returns-in_err-tested c =
    let p = err_from_is_err_and c.from_residual.result c.from_residual.ensures.1 in
    rw (p.1, p.2) (matched_stops _ _ _ c.in_err-tested.ensures (refused _))

pub returns : goal.returns
returns c = matched_goes _ _ _ c.in_ok-tested.ensures refl _ _ _ (omega (arith, c.read-kind.ensures.hash_type_is)) c.cdhash.ensures c.tested-2.ensures
