-- By definition, from the fields that are read.
use Rattle.directory.specs.Pages.{pages}
use Rattle.directory.proofs.page_count.Goals as goal

pub returns : goal.returns
unfolding pages
returns c = cc
