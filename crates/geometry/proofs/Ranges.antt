-- Tests 32 and 33: their numbers, and what a range that passes is.
use Prim.Native.Nat.{ℕ, ◌+◌, ◌≤◌}
use mathlib.Core.Path.{◌≡◌}
use Rattle.refusals.specs.Refusals.{Passes}
use Rattle.refusals.proofs.Exact.{Unused}
use Rattle.geometry.specs.Pages.{wanted, range_rows}

pub range_unused : (p limit start size n : ℕ) → Unused (range_rows p limit start size n) 0
unfolding range_rows
range_unused p limit start size n = tt

-- a range that passes lies below the limit and is lent the bytes of the pages met
pub range_passed : (p limit start size n : ℕ) → Passes (range_rows p limit start size n) → (start + size ≤ limit) × (n ≡ wanted p limit start size)
unfolding range_rows
range_passed p limit start size n h = (h.0, h.1.0)
