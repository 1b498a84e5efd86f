-- The sum of the four bytes is the number that they make. Assumes nothing.
use Rattle.std.proofs.Common.{◌∙◌, add-zero, arith}
use Rattle.endian.specs.Numbers.{big}
use Rattle.sha32.proofs.load.word_at.Goals as goal

pub returns : goal.returns
unfolding big
returns c = c.from_be_bytes.ensures ∙ rw add-zero (omega arith)
