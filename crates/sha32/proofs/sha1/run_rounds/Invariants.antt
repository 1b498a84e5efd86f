-- Before a turn the working words are those after t rounds, and w holds the schedule's words from t on (`turn_held`). Assumes nothing.
use Rattle.std.proofs.Common.{◌≡◌, ◌*◌, length}
use Rattle.sha.specs.Sha1.{rounds1, schedule1}
use Rattle.sha.proofs.Windows.{Held}
use Rattle.sha32.proofs.sha1.run_rounds.Given as goal

abbrev pub invariant-loop-turn : goal.invariant-loop-turn
invariant-loop-turn l =
    (length l.initial.x.w ≡ 16) × (l.x.s ≡ rounds1 (16 * l.turn) l.initial.x.s (schedule1 64 l.initial.x.w)) × Held 80 (schedule1 64 l.initial.x.w) (16 * l.turn) l.x.w
