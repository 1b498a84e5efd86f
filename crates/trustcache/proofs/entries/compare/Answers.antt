use mathlib.Core.Path.{sym, ◌∙◌}
use native.Mathlib.Omega.{arith}
use Rattle.trustcache.proofs.Order.{compare_none, compare_stops, compare_goes, compare_equal}
use Rattle.trustcache.proofs.entries.compare.Goals as goal

pub loop-i-init : goal.loop-i-init
loop-i-init c = compare_none _ _

pub returns-then-is_ne : goal.returns-then-is_ne
returns-then-is_ne c = compare_stops _ _ _ _ _ c.loop-i.invariant c.byte.ensures.0 c.byte-in-loop-i.ensures.0 (omega arith) _ c.cmp-order.ensures (sym c.is_ne.ensures ∙ c.if-is_ne.true)

pub loop-i-preserved : goal.loop-i-preserved
loop-i-preserved c = compare_goes _ _ _ _ _ c.loop-i.invariant c.byte.ensures.0 c.byte-in-loop-i.ensures.0 _ c.cmp-order.ensures (sym c.is_ne.ensures ∙ c.if-is_ne.false)

pub returns : goal.returns
returns c = compare_equal _ _ _ (omega arith) c.loop-i.invariant
