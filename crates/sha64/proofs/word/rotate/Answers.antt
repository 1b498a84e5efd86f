-- The two shifts and their union are the rotation, for a distance from 1 to 63. Assumes nothing.
use Rattle.sha.specs.Words.{rotr}
use Rattle.std.proofs.Common.{rules}
use Rattle.sha64.proofs.word.rotate.Goals as goal

pub returns : goal.returns
unfolding rotr
returns c = search rules
