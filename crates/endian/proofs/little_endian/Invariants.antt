-- The loop holds the number that the last i bytes make: each turn puts one more byte before them.
use Prim.Native.Nat.{◌+◌, ◌-◌, ◌^◌, ◌<◌}
use mathlib.Core.Path.{◌≡◌}
use Rattle.endian.specs.Numbers.{little}
use Rattle.endian.proofs.little_endian.Given as goal

abbrev pub invariant-loop-i : goal.invariant-loop-i
invariant-loop-i l = (l.n ≡ little l.i l.s (l.start + l.field + (l.width - l.i))) × (l.n < 256 ^ l.i)
