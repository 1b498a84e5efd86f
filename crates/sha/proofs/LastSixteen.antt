-- The words kept are the schedule's last, by SHA-1's rule and by SHA-2's. Assumes nothing.
use Rattle.sha.specs.Sha1.{mixed1}
use Rattle.sha.specs.Sha2.{Core, mixed}
use Rattle.sha.specs.Schedule.{Rule}
use Rattle.sha.specs.Window.{LastSixteen}
use Rattle.sha.proofs.Windows.{Local, last_block, last_renewed}
use Rattle.sha.proofs.Rounds.{local2}
use Rattle.sha.proofs.Rounds1.{local1}

by_rule : (f : Rule) → Local f → LastSixteen f
by_rule f near = record { opened = last_block f near; kept = last_renewed f near }

pub last_sixteen1 : LastSixteen mixed1
last_sixteen1 = by_rule mixed1 local1

pub last_sixteen2 : (q : Core) → LastSixteen (mixed q)
last_sixteen2 q = by_rule (mixed q) (local2 q)
