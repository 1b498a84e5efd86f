-- The eight words returned are the definition's (`round_of`). Assumes nothing.
use Rattle.sha.specs.Sha2.{core256}
use Rattle.sha.proofs.Rounds.{round_of}
use Rattle.sha32.proofs.sha256.round_step.Goals as goal

pub returns : goal.returns
returns c = let a = c.args in
    round_of core256 a.s a.k a.w c.temp1-x.ensures c.temp2-y.ensures c.add.ensures c.add-2.ensures
