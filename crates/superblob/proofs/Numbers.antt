-- The numbers of tests 1 to 9: none is 0, and no two rows have one, so that the table is exact.
use Prim.Native.Nat.{ℕ}
use mathlib.Core.List.{List}
use mathlib.Core.Path.{refl}
use Rattle.refusals.specs.Refusals.{accepted, Exact}
use Rattle.refusals.proofs.Exact.{Unused, Distinct, exact}
use Rattle.superblob.specs.Rows.{head_rows, index_rows, rows}

pub head_rows_unused : (side : ℕ) (s : List ℕ) → Unused (head_rows side s) 0
unfolding head_rows
head_rows_unused side s = tt

pub rows_unused : (side : ℕ) (s : List ℕ) → Unused (rows side s) 0
unfolding rows head_rows index_rows
rows_unused side s = tt

rows_distinct : (side : ℕ) (s : List ℕ) → Distinct (rows side s)
unfolding rows head_rows index_rows
rows_distinct side s = tt

pub rows_exact : (side : ℕ) (s : List ℕ) → Exact (rows side s) accepted
rows_exact side s = exact (rows side s) accepted (rows_unused side s) (rows_distinct side s) refl
