-- After i turns the first z * i bytes are those of the first i words. Assumes nothing.
use Rattle.std.proofs.Common.{◌≡◌, ◌*◌, length, take}
use Rattle.sha.specs.Message.{all_bytes}
use Rattle.sha.proofs.hash.write_words.Given as goal

abbrev pub invariant-loop-i : goal.invariant-loop-i
invariant-loop-i g l = (length l.out ≡ l.z * length l.h) × (take (l.z * l.i) l.out ≡ all_bytes l.z l.i l.h)
