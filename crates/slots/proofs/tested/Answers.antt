-- The lowest slot with a fault decides, and its fault is 21, 22 or 23.
use native.Mathlib.Omega.{arith}
use Rattle.std.proofs.lemmas.Result.{err_from_is_err_and}
use Rattle.slots.proofs.Laws.{first_slot, slot_passes, slots_refuse, slots_pass}
use Rattle.slots.proofs.tested.Goals as goal

pub loop-k-init : goal.loop-k-init
loop-k-init c = first_slot _ _ _

pub loop-k-preserved : goal.loop-k-preserved
loop-k-preserved c = slot_passes _ _ _ _ c.loop-k.invariant c.in_ok-slot_tested.ensures

pub returns-in_err-slot_tested : goal.returns-in_err-slot_tested
returns-in_err-slot_tested c =
    let p = err_from_is_err_and c.from_residual.result c.from_residual.ensures.1 in
    rw (p.1, p.2) (slots_refuse _ _ _ _ _ (omega arith) c.loop-k.invariant c.in_err-slot_tested.ensures)

pub returns : goal.returns
returns c = slots_pass _ _ _ _ (omega arith) c.loop-k.invariant
