-- Each word is a sum of two (`sums_of`). Assumes nothing.
use Rattle.sha.proofs.Elements.{sums_of}
use Rattle.sha64.proofs.block.add_words.Goals as goal

pub returns : goal.returns
returns c = let a = c.args in
    sums_of 64 a.h a.s _ (c.add.ensures, (c.add-2.ensures, (c.add-3.ensures, (c.add-4.ensures, (c.add-5.ensures, (c.add-6.ensures, (c.add-7.ensures, (c.add-8.ensures, tt))))))))
