-- The mark is what the comparison of the page's own slot with the digest says (`cut_mark`).
use Rattle.marks.specs.Lent.{slots_of}
use Rattle.marks.proofs.Marking.{cut_mark}
use Rattle.marks.proofs.Pages.mark_of.Goals as goal

pub returns-then-slot_holds : goal.returns-then-slot_holds
returns-then-slot_holds c =
    cut_mark (slots_of c.args.self.now) c.args.n _ _ c.slot_bytes-slot.ensures c.slot_width.ensures.0 _ _ _ c.slot_holds.ensures (rw c.if-slot_holds.true)

pub returns-else-slot_holds : goal.returns-else-slot_holds
returns-else-slot_holds c =
    cut_mark (slots_of c.args.self.now) c.args.n _ _ c.slot_bytes-slot.ensures c.slot_width.ensures.0 _ _ _ c.slot_holds.ensures (rw c.if-slot_holds.false)
