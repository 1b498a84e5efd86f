-- After i turns each hash value is the one after i blocks of its message (`chain_more`). Assumes nothing.
use mathlib.Core.Path.{◌≡◌}
use Rattle.sha.specs.Hash.{chain}
use Rattle.sha.specs.Sha2.{sha256, h256}
use Rattle.sha256x4.specs.Lanes.{lane}
use Rattle.sha256x4.proofs.absorb.Given as goal

abbrev pub invariant-loop-i : goal.invariant-loop-i
invariant-loop-i l = (lane 8 0 l.v ≡ chain sha256 h256 l.a l.i) × (lane 8 1 l.v ≡ chain sha256 h256 l.b l.i) × (lane 8 2 l.v ≡ chain sha256 h256 l.c l.i) × (lane 8 3 l.v ≡ chain sha256 h256 l.d l.i)
