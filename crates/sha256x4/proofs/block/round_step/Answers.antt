-- Each message's words are those of a round of SHA-256 (`round_of`). Assumes nothing.
use Rattle.sha.specs.Sha2.{core256}
use Rattle.sha.proofs.Rounds.{round_of}
use Rattle.sha256x4.specs.Lanes.{lane}
use Rattle.sha256x4.proofs.block.round_step.Goals as goal

pub returns : goal.returns
unfolding lane
returns c = let a = c.args in (
  round_of core256 (lane 8 0 a.s) a.k _ c.temp1-x0.ensures c.temp2-y0.ensures c.add.ensures c.add-5.ensures,
  round_of core256 (lane 8 1 a.s) a.k _ c.temp1-x1.ensures c.temp2-y1.ensures c.add-2.ensures c.add-6.ensures,
  round_of core256 (lane 8 2 a.s) a.k _ c.temp1-x2.ensures c.temp2-y2.ensures c.add-3.ensures c.add-7.ensures,
  round_of core256 (lane 8 3 a.s) a.k _ c.temp1-x3.ensures c.temp2-y3.ensures c.add-4.ensures c.add-8.ensures,
)
