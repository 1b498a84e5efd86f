-- The four bytes make the same number.
use native.Mathlib.Nat.{add-zero}
use native.Mathlib.Omega.{arith}
use Rattle.endian.specs.Numbers.{big}
use Rattle.trustcache.proofs.entries.number_at.Goals as goal

pub returns : goal.returns
unfolding big
returns c = rw add-zero (omega (arith, c.from_be_bytes.ensures))
