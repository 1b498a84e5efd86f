-- Each message is closed from its own hash value. Assumes nothing.
use native.Mathlib.Omega.{arith}
use Rattle.sha256x4.proofs.digests.Goals as goal

pub close-requires : goal.close-requires
close-requires c = (omega arith, c.absorb-v.ensures.0)

pub close-requires-2 : goal.close-requires-2
close-requires-2 c = (omega arith, c.absorb-v.ensures.1)

pub close-requires-3 : goal.close-requires-3
close-requires-3 c = (omega arith, c.absorb-v.ensures.2)

pub close-requires-4 : goal.close-requires-4
close-requires-4 c = (omega arith, c.absorb-v.ensures.3)
