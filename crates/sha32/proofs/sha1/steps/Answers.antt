-- Eight steps, one after the other (`eight_steps`). Assumes nothing.
use Rattle.std.proofs.Common.{◌+◌, refl}
use Rattle.sha.specs.Sha1.{mixed1, round1}
use Rattle.sha.proofs.Windows.{eight_steps}
use Rattle.sha32.proofs.sha1.steps.Goals as goal

pub returns : goal.returns
returns g c = let a = c.args in
    eight_steps mixed1 round1 a.t g.row.FROM (λ p. a.t + p) (λ p. refl) c.requires.1 a.x.s a.x.w
    c.step-x1.ensures
    c.step-x2.ensures
    c.step-x3.ensures
    c.step-x4.ensures
    c.step-x5.ensures
    c.step-x6.ensures
    c.step-x7.ensures
    c.step.ensures
