-- Each refusal is its own row, with no row before it; another category passes both.
use Prim.Native.Nat.{◌+◌, ◌<◌}
use native.Mathlib.Omega.{arith}
use Rattle.refusals.specs.Refusals.{accepted}
use Rattle.refusals.proofs.Exact.{decides, passes}
use Rattle.trustcache.specs.Launch.{flag, launch_rows, self_fails, parent_fails}
use Rattle.trustcache.proofs.Constraints.{unset, set}
use Rattle.trustcache.proofs.launch.launch_tested.Goals as goal
use Rattle.trustcache.proofs.launch.launch_tested.Goals.{Joined-else-not-facts, else-not-facts-via-then-not-facts+else-not-facts-2, else-not-facts-via-else-not-facts}

on_volume : (c : Joined-else-not-facts) → 0 < flag c.args.facts.on_authorized_volume + flag c.args.facts.on_system_volume
on_volume c = elim c.else-not-facts.branch [
  | else-not-facts-via-then-not-facts+else-not-facts-2 w ↦ omega (arith, set _ w.if-not-facts-2.false)
  | else-not-facts-via-else-not-facts w ↦ omega (arith, set _ w.if-not-facts.false)
]

pub returns-then-category-ne-CONSTRAINED : goal.returns-then-category-ne-CONSTRAINED
unfolding launch_rows self_fails parent_fails
returns-then-category-ne-CONSTRAINED c = passes _ accepted (omega arith)

pub returns-then-not-facts-2 : goal.returns-then-not-facts-2
unfolding launch_rows self_fails parent_fails
returns-then-not-facts-2 c =
    let a = unset _ c.if-not-facts.true in
    let b = unset _ c.if-not-facts-2.true in
    decides _ accepted _ _ (omega arith)

pub returns-then-facts-ne-LAUNCH_TYPE : goal.returns-then-facts-ne-LAUNCH_TYPE
unfolding launch_rows self_fails parent_fails
returns-then-facts-ne-LAUNCH_TYPE c = decides _ accepted _ _ (omega arith)

pub returns-then-not-facts-3 : goal.returns-then-not-facts-3
unfolding launch_rows self_fails parent_fails
returns-then-not-facts-3 c =
    let v = on_volume (goal.at.returns-then-not-facts-3 c).Joined-else-not-facts in
    let p = unset _ c.if-not-facts-3.true in
    decides _ accepted _ _ (omega arith)

pub returns : goal.returns
unfolding launch_rows self_fails parent_fails
returns c =
    let v = on_volume (goal.at.returns c).Joined-else-not-facts in
    let p = set _ c.if-not-facts-3.false in
    passes _ accepted (omega arith)
