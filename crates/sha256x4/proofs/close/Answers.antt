-- The words of message j are its hash value after the whole blocks (`gathered`). Assumes nothing.
use mathlib.Core.Path.{◌∙◌}
use Rattle.sha256x4.proofs.Lanes.{gathered}
use Rattle.sha256x4.proofs.close.Goals as goal

pub close-requires : goal.close-requires
close-requires c = gathered c.args.j c.args.v ∙ c.requires.1
