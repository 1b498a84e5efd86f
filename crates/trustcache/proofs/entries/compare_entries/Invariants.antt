-- The first k numbers are the same, so the first 4 k bytes are; the first number that differs decides. Assumes nothing.
use Prim.Native.Nat.{◌*◌}
use Rattle.layout.specs.TrustCache.{hash_at}
use Rattle.trustcache.proofs.Order.{SameTo}
use Rattle.trustcache.proofs.entries.compare_entries.Given as goal

abbrev pub invariant-loop-k : goal.invariant-loop-k
invariant-loop-k l = SameTo (4 * l.k) (hash_at l.c l.i) (hash_at l.c l.j)
