-- The pages lie in the image, and the marks of all pages are those of the image.
use Rattle.admission.proofs.Read.{here_of, marked_of, all_here, all_marked}
use Rattle.admission.proofs.write_marks.Goals as goal

pub mark-requires : goal.mark-requires
mark-requires c = here_of _ _ _ _ c.pages_of.ensures _ (all_here _ _ _ c.requires)

pub returns : goal.returns
returns c = all_marked _ _ _ c.requires _ (marked_of _ _ _ _ c.pages_of.ensures _ _ c.mark.ensures)
