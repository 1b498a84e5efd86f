-- Before a turn the last i bytes are stored, and y is x without them (`put_more`, `shift_more`). Assumes nothing.
use Prim.Native.Nat.{◌+◌, ◌-◌, ◌/◌, ◌^◌}
use mathlib.Core.Path.{◌≡◌}
use mathlib.Core.List.{◌++◌}
use lib.ListN.{take, drop}
use Rattle.endian.specs.Numbers.{bytes}
use Rattle.sha.proofs.tail.put_number.Given as goal

abbrev pub invariant-loop-i : goal.invariant-loop-i
invariant-loop-i l = (l.y ≡ l.x / 256 ^ l.i) × (l.out ≡ take (l.at + (l.width - l.i)) l.initial.out ++ bytes l.i l.x ++ drop (l.at + l.width) l.initial.out)
