use Prim.Native.Nat.{ℕ}
use native.Mathlib.Omega.{arith}
use mathlib.Core.Path.{◌≡◌, refl}
use mathlib.Core.List.{List}
use Rattle.sha.specs.Hash.{chain}
use Rattle.sha.specs.Sha2.{sha256, h256}
use Rattle.sha.proofs.Blocks.{chain_more}
use Rattle.sha256x4.proofs.absorb.Goals as goal

reached : (v m : List ℕ) (i n : ℕ) → i ≡ n → v ≡ chain sha256 h256 m i → v ≡ chain sha256 h256 m n
reached v m i n e h = rw e at h

pub loop-i-init : goal.loop-i-init
unfolding chain
loop-i-init c = c.start-v.ensures

pub compress_blocks-next-requires : goal.compress_blocks-next-requires
compress_blocks-next-requires c = (omega arith, omega arith, omega arith, omega arith)

pub loop-i-preserved : goal.loop-i-preserved
loop-i-preserved c = let l = c.loop-i in
    let r = c.compress_blocks-next.ensures in (
      chain_more sha256 h256 _ l.i _ refl l.invariant.0 r.0,
      chain_more sha256 h256 _ l.i _ refl l.invariant.1 r.1,
      chain_more sha256 h256 _ l.i _ refl l.invariant.2 r.2,
      chain_more sha256 h256 _ l.i _ refl l.invariant.3 r.3,
    )

pub returns : goal.returns
returns c = let l = c.loop-i in (
  reached _ _ l.i _ (omega arith) l.invariant.0,
  reached _ _ l.i _ (omega (arith, c.requires.0)) l.invariant.1,
  reached _ _ l.i _ (omega (arith, c.requires.1)) l.invariant.2,
  reached _ _ l.i _ (omega (arith, c.requires.2)) l.invariant.3,
)
