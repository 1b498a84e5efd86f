-- After i turns the hash value is the one after i blocks (`chain_more`). Assumes nothing.
use Rattle.std.proofs.Common.{◌≡◌}
use Rattle.sha.specs.Hash.{chain}
use Rattle.sha.proofs.hash.absorb.Given as goal

abbrev pub invariant-loop-i : goal.invariant-loop-i
invariant-loop-i g l = let f = g.F.HashFunction in f.words_of l.v ≡ chain f.hash (f.words_of l.initial.v) l.part l.i
