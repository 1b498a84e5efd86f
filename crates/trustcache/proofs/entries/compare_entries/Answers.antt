use mathlib.Core.Path.{sym, ◌∙◌}
use native.Mathlib.Omega.{arith}
use Rattle.trustcache.proofs.Order.{compare_none, compare_equal}
use Rattle.trustcache.proofs.Numbers.{numbers_stop, numbers_go}
use Rattle.trustcache.proofs.entries.compare_entries.Goals as goal

pub loop-k-init : goal.loop-k-init
loop-k-init c = compare_none _ _

pub returns-then-is_ne : goal.returns-then-is_ne
returns-then-is_ne c = numbers_stop c.args.c.now (λ m. omega (arith, c.type_inv.c m)) _ _ _ _ _ c.loop-k.invariant (omega arith) c.number_at.ensures c.number_at-in-loop-k.ensures _ c.cmp-order.ensures (sym c.is_ne.ensures ∙ c.if-is_ne.true)

pub loop-k-preserved : goal.loop-k-preserved
loop-k-preserved c = numbers_go c.args.c.now (λ m. omega (arith, c.type_inv.c m)) _ _ _ _ _ c.loop-k.invariant (omega arith) c.number_at.ensures c.number_at-in-loop-k.ensures _ c.cmp-order.ensures (sym c.is_ne.ensures ∙ c.if-is_ne.false)

pub returns : goal.returns
returns c = compare_equal _ _ _ (omega arith) c.loop-k.invariant
