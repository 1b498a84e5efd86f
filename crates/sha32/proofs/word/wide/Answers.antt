use Rattle.std.proofs.Common.{◌≡◌, refl, sym, ◌∙◌, arith, take_all}
use Rattle.std.proofs.lemmas.List.{length-replicate, length-set}
use Rattle.sha.proofs.Blocks.{take_copy}
use Rattle.sha32.proofs.word.wide.Goals as goal

pub loop-at-init : goal.loop-at-init
loop-at-init g c = (length-replicate _ _, refl)

pub loop-at-preserved : goal.loop-at-preserved
loop-at-preserved g c = let l = c.loop-at in
    let n = l.invariant.0 in
    (length-set _ _ _ ∙ n, take_copy c.args.h.now l.w l.at (omega arith) (omega arith) l.invariant.1)

pub returns : goal.returns
returns g c = let l = c.loop-at in
    let n = l.invariant.0 in
    let e : l.at ≡ g.row.N = omega arith in
    sym (take_all g.row.N l.w (omega arith)) ∙ (rw e at l.invariant.1) ∙ take_all g.row.N c.args.h.now (omega arith)
