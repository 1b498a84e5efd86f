-- What is lent with a flag is what the flags leave.
use mathlib.Core.Path.{ap, ◌∙◌}
use Rattle.slots.specs.Slots.{Sides}
use Rattle.admission.specs.Check.{check_of}
use Rattle.admission.proofs.Unread.{check_unread}
use Rattle.trewizlow.proofs.trewizlow_check.Goals as goal

pub returns : goal.returns
returns c =
    let a = c.args in
    c.check.ensures
    ∙ ap (λ (x : Sides). check_of (record { signature = a.signature.now; image = a.image.now; cache = a.cache.now; sides = x; facts = a.launch }) a.marks.now) c.lent.ensures
    ∙ check_unread a.info_there a.info.now a.resources_there a.resources.now a.signature.now a.image.now a.cache.now a.launch a.marks.now
