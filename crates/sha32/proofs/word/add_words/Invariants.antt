-- After i turns the first i sums are there. Assumes nothing.
use Rattle.std.proofs.Common.{◌≡◌, length, take}
use Rattle.sha.specs.Words.{sums}
use Rattle.sha32.proofs.word.add_words.Given as goal

abbrev pub invariant-loop-i : goal.invariant-loop-i
invariant-loop-i g l = (length l.r ≡ g.row.N) × (take l.i l.r ≡ sums 32 l.i l.h l.s)
