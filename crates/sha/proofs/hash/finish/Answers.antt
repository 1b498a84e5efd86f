-- The last bytes and the padding are one block or two. Assumes nothing.
use Rattle.std.proofs.Common.{refl, ◌∙◌}
use Rattle.sha.specs.Sizes.{Sizes}
use Rattle.sha.proofs.Sizes.{finished_one, finished_two}
use Rattle.sha.proofs.hash.finish.Goals as goal

pub returns-then-end-block : goal.returns-then-end-block
returns-then-end-block g c = let f = g.F.HashFunction in
    let k = g.met.F.HashFunction.sizes in
    let s : Sizes f.hash.size c.BLOCK-block.result c.LENGTH-width.result =
    record { four_or_eight = k.four_or_eight; sixteen = c.BLOCK-block.ensures ∙ k.sixteen; two = c.LENGTH-width.ensures ∙ k.two } in
    finished_one f.hash _ _ s (f.words_of c.args.h) c.args.rest.now _ c.args.n _ c.requires refl c.close_tail.ensures _ c.if-end-block.true c.compress-v.ensures

pub returns : goal.returns
returns g c = let f = g.F.HashFunction in
    let k = g.met.F.HashFunction.sizes in
    let s : Sizes f.hash.size c.BLOCK-block.result c.LENGTH-width.result =
    record { four_or_eight = k.four_or_eight; sixteen = c.BLOCK-block.ensures ∙ k.sixteen; two = c.LENGTH-width.ensures ∙ k.two } in
    finished_two f.hash _ _ s (f.words_of c.args.h) c.args.rest.now _ c.args.n _ c.requires refl c.close_tail.ensures _ _ c.if-end-block.false c.compress-v.ensures c.compress.ensures
