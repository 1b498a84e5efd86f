-- Three rotations, as the definition has them. Assumes nothing.
use Rattle.sha.specs.Words.{big_sigma}
use Rattle.sha64.proofs.word.big_sigma1.Goals as goal

pub returns : goal.returns
unfolding big_sigma
returns c = rw (c.rotate.ensures, c.rotate-2.ensures, c.rotate-3.ensures)
