-- An entry past the end reads as 0, by `past`; any other is what `byte` reads.
use Prim.Native.Nat.{◌+◌, ◌*◌}
use native.Mathlib.Omega.{arith}
use Rattle.endian.proofs.Laws.{past}
use Rattle.layout.specs.TrustCache.{hash_type_at, category_at}
use borrow.Author.Rules.{rules}
use Rattle.layout.proofs.cache.CacheEntry.read.Goals as goal

pub returns-then-c-i : goal.returns-then-c-i
unfolding hash_type_at category_at
returns-then-c-i c = let a = c.args in
    record {
      hash_type_is = past a.c.now (44 + 24 * a.i) (omega arith);
      category_is = past a.c.now (46 + 24 * a.i) (omega arith);
      hash_type_below = omega arith;
      category_below = omega arith;
    }

pub returns : goal.returns
unfolding hash_type_at category_at
returns c = search rules
