use Rattle.std.proofs.Common.{◌≡◌, arith, rules}
use Rattle.sha.specs.Sha2.{core256}
use Rattle.sha.proofs.Rounds.{turn_first, turn_more, turn_last}
use Rattle.sha32.proofs.sha256.run_rounds.Goals as goal

pub loop-turn-init : goal.loop-turn-init
loop-turn-init c = (search rules, turn_first core256 48 _ _ (search rules))

pub loop-turn-preserved : goal.loop-turn-preserved
loop-turn-preserved c = let l = c.loop-turn in
    let a = c.args in (
      l.invariant.0,
      turn_more core256 48 a.h a.m l.turn l.invariant.1 c.constants-k.ensures _ _ _ _ l.invariant.0 (omega arith)
          c.steps-y.ensures c.steps-x.ensures,
    )

pub returns : goal.returns
returns c = let l = c.loop-turn in
    let a = c.args in
    let e : l.turn ≡ 3 = omega arith in
    turn_last core256 48 a.h a.m 3 (rw e at l.invariant.1) c.constants.ensures (omega arith) c.last_rounds.ensures
