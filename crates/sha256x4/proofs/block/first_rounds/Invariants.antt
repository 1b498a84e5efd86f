-- Before each turn `Ran` holds of each message: `ran_none`, `ran_more`, and after the last turn `ran_last`. Assumes nothing.
use mathlib.Core.Path.{◌≡◌}
use lib.ListN.{length}
use Rattle.sha.specs.Sha2.{k256}
use Rattle.sha256x4.specs.Lanes.{Four}
use Rattle.sha256x4.proofs.Steps.{Ran}
use Rattle.sha256x4.proofs.block.first_rounds.Given as goal

abbrev pub invariant-loop-t : goal.invariant-loop-t
invariant-loop-t l = (length l.w ≡ 64) × (l.k ≡ k256) × Four (Ran l.initial.s l.initial.w l.s l.w l.t)
