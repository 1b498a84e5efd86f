use Rattle.std.proofs.Common.{◌≡◌, ℕ, ◌*◌, ◌/◌, length, refl, ap, ◌∙◌, arith}
use Rattle.sha.specs.Hash.{chain}
use Rattle.sha.proofs.Blocks.{chain_more}
use Rattle.sha.proofs.hash.absorb.Goals as goal

pub loop-i-init : goal.loop-i-init
unfolding chain
loop-i-init g c = refl

pub loop-i-preserved : goal.loop-i-preserved
loop-i-preserved g c = let l = c.loop-i in
    let f = g.F.HashFunction in
    let b = c.BLOCK-block.ensures ∙ g.met.F.HashFunction.sizes.sixteen in
    chain_more f.hash (f.words_of c.args.h) c.args.part.now l.i _ (ap (λ (x : ℕ). x * l.i) b) l.invariant c.compress-v.ensures

pub returns : goal.returns
returns g c = let l = c.loop-i in
    let n = length c.args.part.now in
    let b = c.BLOCK-block.ensures ∙ g.met.F.HashFunction.sizes.sixteen in
    let i : l.i ≡ n / c.BLOCK-block.result = omega arith in
    let e : l.i ≡ n / (16 * g.F.HashFunction.hash.size) = i ∙ ap (λ (x : ℕ). n / x) b in
    rw e at l.invariant
