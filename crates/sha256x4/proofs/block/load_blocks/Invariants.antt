-- After i turns the first i words of each message are there (`put_more`, `words_more`). Assumes nothing.
use mathlib.Core.Path.{◌≡◌}
use lib.ListN.{length}
use Rattle.sha.specs.Message.{words}
use Rattle.sha256x4.specs.Lanes.{lane}
use Rattle.sha256x4.proofs.block.load_blocks.Given as goal

abbrev pub invariant-loop-i : goal.invariant-loop-i
invariant-loop-i l = (length l.w ≡ 64)
    × ((lane l.i 0 l.w ≡ words 4 l.i l.a l.at) × (lane l.i 1 l.w ≡ words 4 l.i l.b l.at) × (lane l.i 2 l.w ≡ words 4 l.i l.c l.at) × (lane l.i 3 l.w ≡ words 4 l.i l.d l.at))
