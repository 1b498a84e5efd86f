-- The search has passed every command below index, and stands where the next starts. Each size is below 2 to the 32, so that index of
-- them behind the header make no sum that wraps, whatever the bytes are.
use Prim.Native.Nat.{ℕ, ◌+◌, ◌*◌, ◌≤◌}
use mathlib.Core.Path.{◌≡◌}
use Rattle.refusals.specs.Refusals.{Cond, lowest}
use Rattle.layout.specs.MachO.{mach_head, command_at}
use Rattle.macho.specs.Commands.{AnswersAs}
use Rattle.macho.proofs.first_command.Given as goal

abbrev pub invariant-loop-index : goal.invariant-loop-index
invariant-loop-index g l =
    (l.at ≡ command_at l.file l.index)
    × (l.at ≤ mach_head + 4294967296 * l.index)
    × ((f : ℕ → Cond) → AnswersAs (goal.F-post g l.test) l.file f → lowest f l.index ≡ l.index)
