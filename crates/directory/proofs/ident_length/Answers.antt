-- The search ends at the first zero byte.
use mathlib.Core.Path.{◌∙◌, refl}
use borrow.Author.Tests.{tests}
use borrow.Author.Rules.{rules}
use Rattle.refusals.specs.Refusals.{holds}
use Rattle.refusals.proofs.Searches.{finds, lowest_or}
use Rattle.directory.specs.Rows.{zero_at, ident_length}
use Rattle.directory.proofs.ident_length.Goals as goal

pub returns : goal.returns
unfolding ident_length zero_at holds
returns c =
    let f = zero_at c.args.d.now in
    let found = finds f _ _ _ _ c.find.result c.find.ensures.ran (λ x b q k. rw (← c.read-start.ensures.ident_offset_is) (search (rules, tests))) refl c.ident_room-room.ensures in
    c.unwrap_or.ensures ∙ rw c.ident_room-room.ensures (lowest_or f _ c.find.result found)
