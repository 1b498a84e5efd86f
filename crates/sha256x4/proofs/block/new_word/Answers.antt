-- The word's equation is the definition's, with the places that are read. Assumes nothing.
use Rattle.sha256x4.proofs.block.new_word.Goals as goal

pub returns : goal.returns
returns c = c.next_word.ensures
