-- Tests 1 to 9, and where they pass 10, by whether the index has the directory's type, and the directory's own.
use mathlib.Core.Path.{refl}
use Rattle.std.proofs.lemmas.Result.{err_from_is_err_and}
use Rattle.refusals.proofs.Results.{err_stops}
use Rattle.superblob.specs.Rows.{rows}
use Rattle.directory.specs.Rows.{directory_rows, signature_rows}
use Rattle.directory.proofs.Found.{found_none, found_some}
use Rattle.directory.proofs.tested.Goals as goal

pub returns-in_err-tested : goal.returns-in_err-tested
unfolding signature_rows
returns-in_err-tested c =
    let p = err_from_is_err_and c.from_residual.result c.from_residual.ensures.1 in
    rw (p.1, p.2) (err_stops (rows _ _) (directory_rows _) _ _ c.in_err-tested.ensures)

pub returns-then-has : goal.returns-then-has
returns-then-has c = found_some _ _ c.has.ensures _ _ _ c.in_ok-tested.ensures refl c.if-has.true (rw (← c.blob_of.ensures) c.blob_tested.ensures)

pub returns-else-has : goal.returns-else-has
returns-else-has c = found_none _ _ c.has.ensures _ _ _ c.in_ok-tested.ensures refl c.if-has.false refl
