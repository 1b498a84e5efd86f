-- The first i marks are those of the pages from `from` on, and the others are as the fours left them.
use mathlib.Core.Path.{◌≡◌}
use mathlib.Core.List.{◌++◌}
use lib.ListN.{drop}
use Rattle.marks.specs.Marks.{tab}
use Rattle.marks.specs.Lent.{mark_at}
use Rattle.marks.proofs.Pages.mark.Given as goal

abbrev pub invariant-loop-i : goal.invariant-loop-i
invariant-loop-i l = l.marks ≡ tab l.self.from l.i (mark_at l.self) ++ drop l.i l.initial.marks
