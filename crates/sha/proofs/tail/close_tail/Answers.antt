-- The two stores behind the bit 1 are the bytes of 8 * n, at the end of the first e bytes (`closed_words`). Assumes nothing.
use mathlib.Core.Path.{◌∙◌}
use native.Mathlib.Omega.{arith}
use lib.ListN.{length-set}
use Rattle.sha.proofs.Padding.{closed_words}
use Rattle.sha.proofs.tail.close_tail.Goals as goal

pub shape_of-out : goal.shape_of-out
shape_of-out c = let p = c.put_number in
    let o = c.open_tail in
    length-set p.new.out _ _ ∙ p.auto.out ∙ o.auto.out

pub returns : goal.returns
returns c = let p = c.put_number in
    let o = c.open_tail in
    let a = c.args in
    closed_words a.z a.rest.now a.out.now o.new.out p.new.out a.n a.e _ _
    (omega arith) (omega arith) (omega arith) (omega arith) c.requires.0 o.ensures p.ensures (omega arith) (omega arith)
