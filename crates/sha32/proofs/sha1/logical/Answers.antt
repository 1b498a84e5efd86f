-- Each arm is its range of rounds. Assumes nothing.
use Rattle.std.proofs.Common.{◌∙◌, arith}
use Rattle.sha.specs.Sha1.{f1}
use Rattle.sha.proofs.Rounds1.{by_round_1, by_round_2, by_round_3, by_round_4}
use Rattle.sha32.proofs.sha1.logical.Goals as goal

pub returns-in-0-to-19 : goal.returns-in-0-to-19
unfolding f1
returns-in-0-to-19 c = c.choose.ensures ∙ by_round_1 _ _ _ _ _ (omega arith)

pub returns-in-20-to-39 : goal.returns-in-20-to-39
unfolding f1
returns-in-20-to-39 c = c.parity.ensures ∙ by_round_2 _ _ _ _ _ (omega arith) (omega arith)

pub returns-in-40-to-59 : goal.returns-in-40-to-59
unfolding f1
returns-in-40-to-59 c = c.majority.ensures ∙ by_round_3 _ _ _ _ _ (omega arith) (omega arith)

pub returns-in_default : goal.returns-in_default
unfolding f1
returns-in_default c = c.parity-in_default.ensures ∙ by_round_4 _ _ _ _ _ (omega arith)
