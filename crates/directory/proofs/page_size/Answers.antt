-- By definition, from the fields that are read.
use Rattle.directory.specs.Pages.{P}
use Rattle.directory.proofs.page_size.Goals as goal

pub returns : goal.returns
unfolding P
returns c = cc
