-- Tests 11 to 15, 35 and 46, and where they pass 16 to 18.
use Rattle.std.proofs.lemmas.Result.{err_from_is_err_and}
use Rattle.refusals.proofs.Results.{err_stops, ok_goes}
use Rattle.directory.specs.Rows.{field_rows, slot_rows, blob_rows}
use Rattle.directory.proofs.Numbers.{field_rows_unused}
use Rattle.directory.proofs.blob_tested.Goals as goal

pub returns-in_err-fields_tested : goal.returns-in_err-fields_tested
unfolding blob_rows
returns-in_err-fields_tested c =
    let p = err_from_is_err_and c.from_residual.result c.from_residual.ensures.1 in
    rw (p.1, p.2) (err_stops (field_rows _) (slot_rows _) _ _ c.in_err-fields_tested.ensures)

pub returns : goal.returns
unfolding blob_rows
returns c = ok_goes (field_rows _) (slot_rows _) _ _ (field_rows_unused _) c.in_ok-fields_tested.ensures c.slots_tested.ensures
