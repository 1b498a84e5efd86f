-- Before each turn `AtTurn` holds: `turn_first`, `turn_more`, and after the last rounds `turn_last`. Assumes nothing.
use Rattle.std.proofs.Common.{◌≡◌, length}
use Rattle.sha.specs.Sha2.{core512}
use Rattle.sha.proofs.Rounds.{AtTurn}
use Rattle.sha64.proofs.block.run_rounds.Given as goal

abbrev pub invariant-loop-turn : goal.invariant-loop-turn
invariant-loop-turn l = (length l.initial.x.w ≡ 16) × AtTurn core512 64 l.initial.x.s l.initial.x.w l.turn l.x.s l.x.w
