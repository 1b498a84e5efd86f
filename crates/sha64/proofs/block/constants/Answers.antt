-- Each way is the part of the table that its turn has (`turn_constants`). Assumes nothing.
use Rattle.std.proofs.Common.{refl, arith}
use Rattle.sha.specs.Sha2.{k512}
use Rattle.sha.proofs.Rounds.{turn_constants}
use Rattle.sha64.proofs.block.constants.Goals as goal

pub returns-in-0 : goal.returns-in-0
unfolding k512
returns-in-0 c = turn_constants k512 0 c.args.turn refl (omega arith) c.constants_from.ensures

pub returns-in-1 : goal.returns-in-1
unfolding k512
returns-in-1 c = turn_constants k512 16 c.args.turn refl (omega arith) c.constants_from-in-1.ensures

pub returns-in-2 : goal.returns-in-2
unfolding k512
returns-in-2 c = turn_constants k512 32 c.args.turn refl (omega arith) c.constants_from-in-2.ensures

pub returns-in-3 : goal.returns-in-3
unfolding k512
returns-in-3 c = turn_constants k512 48 c.args.turn refl (omega arith) c.constants_from-in-3.ensures

pub returns-in_default : goal.returns-in_default
unfolding k512
returns-in_default c = turn_constants k512 64 c.args.turn refl (omega arith) c.constants_from-in_default.ensures
