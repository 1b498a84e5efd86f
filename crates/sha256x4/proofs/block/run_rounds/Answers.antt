use Prim.Native.Nat.{ℕ}
use mathlib.Core.Path.{◌≡◌, refl, ap}
use mathlib.Core.List.{List}
use native.Mathlib.Omega.{arith}
use lib.ListN.{get_or}
use Rattle.sha.specs.Sha2.{k256}
use Rattle.sha256x4.proofs.Steps.{done_more}
use Rattle.sha256x4.proofs.block.run_rounds.Goals as goal

pub loop-t-init : goal.loop-t-init
unfolding k256
loop-t-init c = (refl, λ h m b. (b.0.0, b.1.0, b.2.0, b.3.0))

pub words_at-requires : goal.words_at-requires
words_at-requires c = omega arith

pub loop-t-preserved : goal.loop-t-preserved
loop-t-preserved c = let l = c.loop-t in
    let r = c.round_step-n.ensures in
    let x = c.words_at.ensures in
    let k = ap (λ (y : List ℕ). get_or y l.t 0) l.invariant.0 in (
      l.invariant.0,
      λ h m b.
          let d = l.invariant.1 h m b in (
            done_more h m l.s _ _ l.t 0 _ _ k r.0 (omega arith) (omega arith) x.0 b.0.1 d.0,
            done_more h m l.s _ _ l.t 1 _ _ k r.1 (omega arith) (omega arith) x.1 b.1.1 d.1,
            done_more h m l.s _ _ l.t 2 _ _ k r.2 (omega arith) (omega arith) x.2 b.2.1 d.2,
            done_more h m l.s _ _ l.t 3 _ _ k r.3 (omega arith) (omega arith) x.3 b.3.1 d.3,
          ),
    )

pub returns : goal.returns
returns c = let l = c.loop-t in
    let e : l.t ≡ 64 = omega arith in
    let f = c.first_rounds-x in
    rw e at (l.invariant.1 _ _ f.ensures)
