-- An entry past the end reads as 0, by `big_past`; any other is what `be32` reads.
use Prim.Native.Nat.{◌+◌, ◌*◌}
use mathlib.Core.Path.{sym}
use native.Mathlib.Omega.{arith}
use Rattle.endian.proofs.Numbers.{big_past}
use Rattle.layout.specs.SuperBlob.{type_at, offset_at}
use borrow.Author.Rules.{rules}
use Rattle.layout.proofs.superblob.BlobIndex.read.Goals as goal

pub returns-then-sig-i : goal.returns-then-sig-i
unfolding type_at offset_at
returns-then-sig-i c = let a = c.args in
    record {
      slot_type_is = sym (big_past 4 a.sig.now (12 + 8 * a.i) (omega arith));
      offset_is = sym (big_past 4 a.sig.now (16 + 8 * a.i) (omega arith));
      slot_type_below = omega arith;
      offset_below = omega arith;
    }

pub returns : goal.returns
unfolding type_at offset_at
returns c = search rules
