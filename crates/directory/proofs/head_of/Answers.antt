-- The version is the field, by its definition.
use Rattle.directory.specs.Head.{head_of}
use native.Mathlib.Omega.{arith}
use Rattle.directory.proofs.head_of.Goals as goal

pub returns : goal.returns
unfolding head_of
returns c = (cc, omega arith)
