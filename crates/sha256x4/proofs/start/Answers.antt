-- The constants are the definition's. Assumes nothing.
use mathlib.Core.Path.{refl}
use Rattle.sha.specs.Sha2.{h256}
use Rattle.sha256x4.specs.Lanes.{lane}
use Rattle.sha256x4.proofs.start.Goals as goal

-- src/lib.rt:27:1
pub returns : goal.returns
unfolding lane h256
returns c = (refl, refl, refl, refl)
