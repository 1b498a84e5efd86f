-- After `at` turns the first `at` words are there. Assumes nothing.
use Rattle.std.proofs.Common.{◌≡◌, length, take}
use Rattle.sha32.proofs.word.wide.Given as goal

abbrev pub invariant-loop-at : goal.invariant-loop-at
invariant-loop-at g l = (length l.w ≡ g.row.N) × (take l.at l.w ≡ take l.at l.h)
