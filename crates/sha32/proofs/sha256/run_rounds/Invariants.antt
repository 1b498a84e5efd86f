-- Before each turn `AtTurn` holds: `turn_first`, `turn_more`, and after the last rounds `turn_last`. Assumes nothing.
use Rattle.std.proofs.Common.{◌≡◌, length}
use Rattle.sha.specs.Sha2.{core256}
use Rattle.sha.proofs.Rounds.{AtTurn}
use Rattle.sha32.proofs.sha256.run_rounds.Given as goal

abbrev pub invariant-loop-turn : goal.invariant-loop-turn
invariant-loop-turn l = (length l.initial.x.w ≡ 16) × AtTurn core256 48 l.initial.x.s l.initial.x.w l.turn l.x.s l.x.w
