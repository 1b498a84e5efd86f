-- Of each message: its words, its rounds, its closing sum (`compressed`). Assumes nothing.
use Rattle.sha256x4.proofs.Lanes.{lane_sums}
use Rattle.sha256x4.proofs.Steps.{compressed}
use Rattle.sha256x4.proofs.block.compress_blocks.Goals as goal

pub returns : goal.returns
returns c = let r = c.add_words.ensures in
    let s = c.run_rounds.ensures in
    let m = c.load_blocks.ensures in
    let l = lane_sums _ _ in (
      compressed _ _ _ _ _ 0 m.0 s.0 r l.0,
      compressed _ _ _ _ _ 1 m.1 s.1 r l.1,
      compressed _ _ _ _ _ 2 m.2 s.2 r l.2,
      compressed _ _ _ _ _ 3 m.3 s.3 r l.3,
    )
