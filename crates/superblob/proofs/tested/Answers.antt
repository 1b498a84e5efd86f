-- Tests 1 to 4, and where they pass 5 to 9.
use Rattle.std.proofs.lemmas.Result.{err_from_is_err_and}
use Rattle.refusals.proofs.Results.{err_stops, ok_goes}
use Rattle.superblob.specs.Rows.{head_rows, index_rows, rows}
use Rattle.superblob.proofs.Numbers.{head_rows_unused}
use Rattle.superblob.proofs.tested.Goals as goal

pub returns-in_err-head_tested : goal.returns-in_err-head_tested
unfolding rows
returns-in_err-head_tested c =
    let p = err_from_is_err_and c.from_residual.result c.from_residual.ensures.1 in
    rw (p.1, p.2) (err_stops (head_rows _ _) (index_rows _) _ _ c.in_err-head_tested.ensures)

pub returns : goal.returns
unfolding rows
returns c = ok_goes (head_rows _ _) (index_rows _) _ _ (head_rows_unused _ _) c.in_ok-head_tested.ensures c.index_tested.ensures
