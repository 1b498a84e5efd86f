-- Sixteen rounds, one after the other (`sixteen_rounds`). Assumes nothing.
use Rattle.sha.specs.Sha1.{round1}
use Rattle.sha.proofs.Windows.{sixteen_rounds}
use Rattle.sha32.proofs.sha1.last_rounds.Goals as goal

pub returns : goal.returns
returns c = let a = c.args in
    sixteen_rounds (round1) 64 a.s a.w
    c.round_step-s1.ensures
    c.round_step-s2.ensures
    c.round_step-s3.ensures
    c.round_step-s4.ensures
    c.round_step-s5.ensures
    c.round_step-s6.ensures
    c.round_step-s7.ensures
    c.round_step-s8.ensures
    c.round_step-s9.ensures
    c.round_step-s10.ensures
    c.round_step-s11.ensures
    c.round_step-s12.ensures
    c.round_step-s13.ensures
    c.round_step-s14.ensures
    c.round_step-s15.ensures
    c.round_step.ensures
