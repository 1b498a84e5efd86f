-- No slot below k has a fault.
use mathlib.Core.Path.{◌≡◌}
use Rattle.refusals.specs.Refusals.{lowest, faulty}
use Rattle.slots.specs.Slots.{fault}
use Rattle.slots.specs.Lent.{sides_of}
use Rattle.slots.proofs.tested.Given as goal

abbrev pub invariant-loop-k : goal.invariant-loop-k
invariant-loop-k l = lowest (faulty (fault l.sig l.d (sides_of l.sides))) l.k ≡ l.k
