use Prim.Native.Nat.{◌*◌}
use mathlib.Core.Path.{◌≡◌, refl, ◌∙◌}
use native.Mathlib.Omega.{arith}
use Rattle.sha.specs.Message.{words}
use Rattle.sha256x4.specs.Lanes.{lane}
use Rattle.sha256x4.proofs.Lanes.{length_put, put_more}
use Rattle.sha256x4.proofs.Steps.{words_more}
use Rattle.sha256x4.proofs.block.load_blocks.Goals as goal

pub loop-i-init : goal.loop-i-init
unfolding lane words
loop-i-init c = (refl, (refl, refl, refl, refl))

pub loop-i-preserved : goal.loop-i-preserved
loop-i-preserved c = let l = c.loop-i in
    let p = put_more 16 l.i _ _ _ _ l.w (omega arith) l.invariant.0 in (
      length_put l.w (4 * l.i) _ _ _ _ ∙ l.invariant.0,
      (
        words_more _ _ l.i _ _ _ c.word_at-x.ensures p.0 l.invariant.1.0,
        words_more _ _ l.i _ _ _ c.word_at-y.ensures p.1 l.invariant.1.1,
        words_more _ _ l.i _ _ _ c.word_at-z.ensures p.2 l.invariant.1.2,
        words_more _ _ l.i _ _ _ c.word_at-v.ensures p.3 l.invariant.1.3,
      ),
    )

pub returns : goal.returns
returns c = let l = c.loop-i in
    let e : l.i ≡ 16 = omega arith in
    rw e at l.invariant.1
