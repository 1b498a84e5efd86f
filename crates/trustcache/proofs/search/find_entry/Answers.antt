use mathlib.Core.Path.{refl, ap}
use native.Mathlib.Omega.{arith}
use Rattle.trustcache.specs.Order.{order_number}
use Rattle.trustcache.proofs.Lookup.{search_all, search_below, search_above, search_found, search_none}
use Rattle.trustcache.proofs.search.find_entry.Goals as goal

pub loop-low-init : goal.loop-low-init
loop-low-init c = search_all _ _ _ c.read-high.ensures.entries_is

pub loop-low-preserved-in-Less : goal.loop-low-preserved-in-Less
loop-low-preserved-in-Less c = search_below _ _ _ _ c.loop-low.invariant (omega arith) _ _ c.hash_of.ensures c.compare.ensures (ap order_number c.in-Less.is)

pub returns-in-Equal-clause-found : goal.returns-in-Equal-clause-found
returns-in-Equal-clause-found c = search_found _ _ _ _ c.loop-low.invariant (omega arith) _ _ c.hash_of.ensures c.compare.ensures (ap order_number c.in-Equal.is)

pub loop-low-preserved : goal.loop-low-preserved
loop-low-preserved c = search_above _ _ _ _ c.loop-low.invariant (omega arith) _ _ c.hash_of.ensures c.compare.ensures (ap order_number c.in-Greater.is)

pub returns-clause-found : goal.returns-clause-found
returns-clause-found c = search_none _ _ _ _ _ c.loop-low.invariant (omega arith) refl
