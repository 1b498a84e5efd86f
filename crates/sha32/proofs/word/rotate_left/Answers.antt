-- The two shifts and their union are the rotation, for a distance from 1 to 31. Assumes nothing.
use Rattle.sha.specs.Words.{rotl}
use Rattle.std.proofs.Common.{rules}
use Rattle.sha32.proofs.word.rotate_left.Goals as goal

pub returns : goal.returns
unfolding rotl
returns c = search rules
