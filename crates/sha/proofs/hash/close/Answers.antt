-- The whole blocks of the part, then its last bytes with the padding, are the blocks of the padded part (`whole`). Assumes nothing.
use Rattle.std.proofs.Common.{◌≡◌, ℕ, ◌*◌, ◌/◌, length, ap, ◌∙◌}
use Rattle.sha.specs.Message.{padded}
use Rattle.sha.specs.Hash.{chained, digest}
use Rattle.sha.proofs.Padding.{whole}
use Rattle.sha.proofs.Sizes.{positive}
use Rattle.sha.proofs.hash.close.Goals as goal

pub returns : goal.returns
unfolding digest
returns g c = let f = g.F.HashFunction in
    let s = g.met.F.HashFunction.sizes in
    let m = c.args.part.now in
    let a = ap (λ (x : ℕ). x * (length m / x)) (c.BLOCK-block.ensures ∙ s.sixteen) in
    let e : f.words_of c.finish.result ≡ chained f.hash f.hash.start (padded f.hash.size m) =
    whole f.hash (positive _ _ _ s) f.hash.start m _ _ _ a c.requires c.finish.ensures in
    rw e at c.write.ensures
