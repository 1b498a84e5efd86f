-- The five words returned are the definition's. Assumes nothing.
use Rattle.sha.proofs.Rounds1.{round1_of}
use Rattle.sha32.proofs.sha1.round_step.Goals as goal

pub returns : goal.returns
returns c = let a = c.args in
    round1_of a.t a.s a.w c.temp.ensures c.rotate_left.ensures
