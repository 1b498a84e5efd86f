use Rattle.std.proofs.Common.{◌≡◌, ℕ, ◌+◌, ◌<◌, List, length, get_or, take, set, refl, sym, ◌∙◌, arith, add-one, take_all}
use Rattle.std.proofs.lemmas.List.{length-replicate, length-set, take_more_set}
use Rattle.sha.specs.Words.{plus, sums}
use Rattle.sha32.proofs.word.add_words.Goals as goal

one_more : (h s r : List ℕ) (i v : ℕ) → i < length r → take i r ≡ sums 32 i h s → v ≡ plus 32 (get_or h i 0) (get_or s i 0)
    → take (i + 1) (set r i v) ≡ sums 32 (i + 1) h s
unfolding sums
one_more h s r i v b e ev = take_more_set r i v b ∙ rw (e, ev, add-one i) refl

pub loop-i-init : goal.loop-i-init
unfolding sums
loop-i-init g c = (length-replicate _ _, refl)

pub loop-i-preserved : goal.loop-i-preserved
loop-i-preserved g c = let l = c.loop-i in
    let n = l.invariant.0 in
    (length-set _ _ _ ∙ n, one_more c.args.h.now c.args.s.now l.r l.i _ (omega arith) l.invariant.1 c.add.ensures)

pub returns : goal.returns
returns g c = let l = c.loop-i in
    let n = l.invariant.0 in
    let e : l.i ≡ g.row.N = omega arith in
    sym (take_all g.row.N l.r (omega arith)) ∙ rw e at l.invariant.1
