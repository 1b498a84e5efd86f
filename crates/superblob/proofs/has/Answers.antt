-- The index has the type where the search finds a position.
use mathlib.Core.Path.{◌∙◌}
use Rattle.superblob.proofs.Spans.{has_found}
use Rattle.superblob.proofs.has.Goals as goal

pub returns : goal.returns
returns c = c.is_some.ensures ∙ has_found _ _ _ c.find_position.ensures
