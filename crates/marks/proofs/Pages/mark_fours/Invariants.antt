-- The first 4 i marks are those of the pages from `from` on, and the others are as they were.
use Prim.Native.Nat.{◌*◌}
use mathlib.Core.Path.{◌≡◌}
use mathlib.Core.List.{◌++◌}
use lib.ListN.{drop}
use Rattle.marks.specs.Marks.{tab}
use Rattle.marks.specs.Lent.{mark_at}
use Rattle.marks.proofs.Pages.mark_fours.Given as goal

abbrev pub invariant-loop-i : goal.invariant-loop-i
invariant-loop-i l = l.marks ≡ tab l.self.from (4 * l.i) (mark_at l.self) ++ drop (4 * l.i) l.initial.marks
