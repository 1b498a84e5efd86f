-- The first i bytes are the same; the first that differs decides.
use Rattle.trustcache.proofs.Order.{SameTo}
use Rattle.trustcache.proofs.entries.compare.Given as goal

abbrev pub invariant-loop-i : goal.invariant-loop-i
invariant-loop-i l = SameTo l.i l.x l.y
