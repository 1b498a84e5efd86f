-- Eight steps, one after the other (`eight_steps`). Assumes nothing.
use Rattle.std.proofs.Common.{sym, zero-add}
use Rattle.sha.specs.Sha2.{core256, mixed}
use Rattle.sha.specs.Window.{round_of_core}
use Rattle.sha.proofs.Windows.{eight_steps}
use Rattle.sha32.proofs.sha256.steps.Goals as goal

pub returns : goal.returns
returns g c = let a = c.args in
    eight_steps (mixed core256) (round_of_core core256 a.k) 0 g.row.FROM (λ p. p) (λ p. sym (zero-add p)) c.requires a.x.s a.x.w
    c.step-x1.ensures
    c.step-x2.ensures
    c.step-x3.ensures
    c.step-x4.ensures
    c.step-x5.ensures
    c.step-x6.ensures
    c.step-x7.ensures
    c.step.ensures
