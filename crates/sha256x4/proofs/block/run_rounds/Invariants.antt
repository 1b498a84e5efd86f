-- The rounds from the forty-ninth on follow whatever the first 48 began (`Follow`): each is one more (`done_more`). Assumes nothing.
use mathlib.Core.Path.{◌≡◌}
use Rattle.sha.specs.Sha2.{k256}
use Rattle.sha256x4.proofs.Steps.{Follow}
use Rattle.sha256x4.proofs.block.run_rounds.Given as goal

abbrev pub invariant-loop-t : goal.invariant-loop-t
invariant-loop-t l = (l.k ≡ k256) × Follow l.w l.initial.s l.s l.t
