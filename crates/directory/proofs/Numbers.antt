-- The numbers of tests 1 to 18: none is 0, and no two rows have one, so that the table is exact.
use Prim.Native.Nat.{ℕ}
use mathlib.Core.List.{List}
use mathlib.Core.Path.{refl}
use Rattle.refusals.specs.Refusals.{accepted, Exact}
use Rattle.refusals.proofs.Exact.{Unused, Distinct, exact}
use Rattle.superblob.specs.Rows.{rows, head_rows, index_rows}
use Rattle.directory.specs.Rows.{field_rows, slot_rows, blob_rows, directory_rows, signature_rows}

pub field_rows_unused : (d : List ℕ) → Unused (field_rows d) 0
unfolding field_rows
field_rows_unused d = tt

pub signature_rows_unused : (side : ℕ) (s : List ℕ) → Unused (signature_rows side s) 0
unfolding signature_rows rows head_rows index_rows directory_rows blob_rows field_rows slot_rows
signature_rows_unused side s = tt

signature_rows_distinct : (side : ℕ) (s : List ℕ) → Distinct (signature_rows side s)
unfolding signature_rows rows head_rows index_rows directory_rows blob_rows field_rows slot_rows
signature_rows_distinct side s = tt

pub signature_rows_exact : (side : ℕ) (s : List ℕ) → Exact (signature_rows side s) accepted
signature_rows_exact side s = exact (signature_rows side s) accepted (signature_rows_unused side s) (signature_rows_distinct side s) refl
