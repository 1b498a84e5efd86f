use Rattle.std.proofs.Common.{◌≡◌, refl, ◌+◌, ◌*◌, ◌%◌, ◌∙◌, arith, rules}
use Rattle.sha.specs.Sha1.{mixed1, round1, rounds1, schedule1}
use Rattle.sha.proofs.Rounds1.{local1, rounds1_follow}
use Rattle.sha.proofs.Windows.{held_first, ran_held, turn_held}
use Rattle.sha32.proofs.sha1.run_rounds.Goals as goal

pub loop-turn-init : goal.loop-turn-init
unfolding rounds1
loop-turn-init c = (search rules, refl, held_first mixed1 local1 64 _ (search rules))

pub loop-turn-preserved : goal.loop-turn-preserved
loop-turn-preserved c = let l = c.loop-turn in
    let a = c.args in
    let low = c.steps-y.ensures in
    let high = c.steps-x.ensures in
    let t : 16 * l.turn % 16 ≡ 0 = omega arith in
    let n : 16 * (l.turn + 1) ≡ 16 * l.turn + 16 = omega arith in
    let more =
    turn_held mixed1 local1 64 a.m l.invariant.0 round1 (λ t. rounds1 t a.h (schedule1 64 a.m))
    (rounds1_follow a.h (schedule1 64 a.m)) (16 * l.turn) t l.x.w l.invariant.2 l.invariant.1
    low.0 _ _ (omega arith) low.1 high.0 high.1 in
    (l.invariant.0, rw n more.0, rw n more.1)

pub returns : goal.returns
returns c = let l = c.loop-turn in
    let a = c.args in
    let e : l.turn ≡ 4 = omega arith in
    c.last_rounds.ensures
    ∙ ran_held round1 (λ t. rounds1 t a.h (schedule1 64 a.m)) 80 (schedule1 64 a.m) (rounds1_follow a.h (schedule1 64 a.m))
    64 0 64 16 l.x.w refl (omega arith) (omega arith) (omega arith) (rw e at l.invariant.2) (rw e at l.invariant.1)
