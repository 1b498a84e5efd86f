-- Sixteen rounds, one after the other (`sixteen_rounds`). Assumes nothing.
use Rattle.sha.specs.Sha2.{core512}
use Rattle.sha.specs.Window.{round_of_core}
use Rattle.sha.proofs.Windows.{sixteen_rounds}
use Rattle.sha64.proofs.block.last_rounds.Goals as goal

pub returns : goal.returns
returns c = let a = c.args in
    sixteen_rounds (round_of_core core512 a.k) 0 a.s a.w
    c.round_at-s1.ensures
    c.round_at-s2.ensures
    c.round_at-s3.ensures
    c.round_at-s4.ensures
    c.round_at-s5.ensures
    c.round_at-s6.ensures
    c.round_at-s7.ensures
    c.round_at-s8.ensures
    c.round_at-s9.ensures
    c.round_at-s10.ensures
    c.round_at-s11.ensures
    c.round_at-s12.ensures
    c.round_at-s13.ensures
    c.round_at-s14.ensures
    c.round_at-s15.ensures
    c.round_at.ensures
