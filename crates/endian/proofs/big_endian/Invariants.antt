-- The loop holds the number that the first i bytes make: each turn puts one more byte after them.
use Prim.Native.Nat.{◌+◌, ◌^◌, ◌<◌}
use mathlib.Core.Path.{◌≡◌}
use Rattle.endian.specs.Numbers.{big}
use Rattle.endian.proofs.big_endian.Given as goal

abbrev pub invariant-loop-i : goal.invariant-loop-i
invariant-loop-i l = (l.n ≡ big l.i l.s (l.start + l.field)) × (l.n < 256 ^ l.i)
