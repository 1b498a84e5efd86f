-- Each command starts where the one before ends. Where the test answers as f holds, the first at which it holds is the lowest.
use mathlib.Core.Bool.{true, false}
use mathlib.Core.Path.{refl}
use native.Mathlib.Omega.{arith}
use Rattle.refusals.proofs.Positions.{lowest_none, lowest_more, lowest_stop}
use Rattle.macho.proofs.Commands.{starts_behind, starts_next}
use Rattle.macho.proofs.first_command.Goals as goal

pub loop-index-init : goal.loop-index-init
loop-index-init g c = (starts_behind _ _ refl, omega arith, λ f h. lowest_none f)

pub returns-then-test : goal.returns-then-test
returns-then-test g c =
    λ f h. (omega arith, lowest_stop f _ _ (omega arith) (c.loop-index.invariant.2 f h) (h _ true refl c.if-test.ensures), c.loop-index.invariant.0, refl)

pub loop-index-preserved : goal.loop-index-preserved
loop-index-preserved g c = (
  starts_next _ _ _ _ c.loop-index.invariant.0 c.size-at.ensures.0,
  omega arith,
  λ f h. lowest_more f _ (c.loop-index.invariant.2 f h) (h _ false refl c.if-test.ensures),
)
