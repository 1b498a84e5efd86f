-- Each way is the part of the table that its turn has (`turn_constants`). Assumes nothing.
use Rattle.std.proofs.Common.{refl, arith}
use Rattle.sha.specs.Sha2.{k256}
use Rattle.sha.proofs.Rounds.{turn_constants}
use Rattle.sha32.proofs.sha256.constants.Goals as goal

pub returns-in-0 : goal.returns-in-0
unfolding k256
returns-in-0 c = turn_constants k256 0 c.args.turn refl (omega arith) c.constants_from.ensures

pub returns-in-1 : goal.returns-in-1
unfolding k256
returns-in-1 c = turn_constants k256 16 c.args.turn refl (omega arith) c.constants_from-in-1.ensures

pub returns-in-2 : goal.returns-in-2
unfolding k256
returns-in-2 c = turn_constants k256 32 c.args.turn refl (omega arith) c.constants_from-in-2.ensures

pub returns-in_default : goal.returns-in_default
unfolding k256
returns-in_default c = turn_constants k256 48 c.args.turn refl (omega arith) c.constants_from-in_default.ensures
