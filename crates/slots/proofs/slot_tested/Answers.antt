-- The fault of slot k is that of its thing.
use mathlib.Core.Path.{◌∙◌, ap}
use Prim.Native.Nat.{ℕ}
use Rattle.slots.specs.Lent.{slot_answer}
use Rattle.slots.proofs.Laws.{fault_by}
use Rattle.slots.proofs.slot_tested.Goals as goal

pub returns : goal.returns
returns c =
    c.thing_tested.ensures
    ∙ ap (λ (n : ℕ). slot_answer n c.args.k)
    (fault_by _ _ _ _ _ _ _ _ c.requires c.read-kind.ensures.hash_type_is c.special_slot-slot.ensures c.thing_of.ensures.flag c.thing_of.ensures.bytes)
