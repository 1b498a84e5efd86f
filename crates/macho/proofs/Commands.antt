-- Where a command starts, step by step. Assumes nothing.
use Prim.Native.Nat.{ℕ, ◌+◌}
use mathlib.Core.List.{List}
use mathlib.Core.Path.{◌≡◌}
use native.Mathlib.Numerals.{add-one}
use native.Mathlib.Omega.{arith}
use Rattle.layout.specs.MachO.{mach_head, command_at, cmdsize}

-- the first behind the header
pub starts_behind : (f : List ℕ) (at : ℕ) → at ≡ mach_head → at ≡ command_at f 0
unfolding command_at
starts_behind f at e = e

-- each other where the one before ends
pub starts_next : (f : List ℕ) (i at size : ℕ) → at ≡ command_at f i → size ≡ cmdsize f i → at + size ≡ command_at f (i + 1)
unfolding command_at cmdsize
starts_next f i at size e s = rw (add-one i) (omega arith)
