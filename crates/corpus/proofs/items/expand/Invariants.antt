-- Each segment moves `made` on, up to the item's length, and leaves less of the file.
use Rattle.std.proofs.Common.{length, ◌-◌, ◌<◌, ◌≤◌}
use Rattle.corpus.proofs.items.expand.Given as goal

abbrev pub invariant-loop-made : goal.invariant-loop-made
invariant-loop-made l = (l.made ≤ l.length) × (length l.rest < length l.file)

abbrev pub decreases-loop-made : goal.decreases-loop-made
decreases-loop-made l = l.length - l.made
