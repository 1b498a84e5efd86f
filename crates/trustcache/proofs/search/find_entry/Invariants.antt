-- The entry that has the hash, if there is one, is among those that are left, and each comparison leaves fewer of them.
use Prim.Native.Nat.{◌-◌}
use Rattle.trustcache.proofs.Lookup.{Searching}
use Rattle.trustcache.proofs.search.find_entry.Given as goal

abbrev pub invariant-loop-low : goal.invariant-loop-low
invariant-loop-low l = Searching l.c l.hash l.low l.high

abbrev pub decreases-loop-low : goal.decreases-loop-low
decreases-loop-low l = l.high - l.low
