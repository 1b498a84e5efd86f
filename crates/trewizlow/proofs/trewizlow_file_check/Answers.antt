-- What is lent with a flag is what the flags leave.
use mathlib.Core.Path.{ap, ◌∙◌}
use Rattle.slots.specs.Slots.{Sides}
use Rattle.admission.specs.File.{file_of}
use Rattle.admission.proofs.Unread.{file_unread}
use Rattle.trewizlow.proofs.trewizlow_file_check.Goals as goal

pub returns : goal.returns
returns c =
    let a = c.args in
    c.check_file.ensures
    ∙ ap (λ (x : Sides). file_of (record { file = a.file.now; cache = a.cache.now; sides = x; facts = a.launch }) a.marks.now) c.lent-sides.ensures
    ∙ file_unread a.info_there a.info.now a.resources_there a.resources.now a.file.now a.cache.now a.launch a.marks.now
