-- A search of the index for the type stops at the lowest position.
use mathlib.Core.Path.{refl}
use borrow.Author.Rules.{rules}
use borrow.Author.Tests.{tests}
use Rattle.refusals.specs.Refusals.{holds}
use Rattle.refusals.proofs.Searches.{finds}
use Rattle.superblob.specs.Rows.{of_type, position}
use Rattle.superblob.proofs.find_position.Goals as goal

pub returns : goal.returns
unfolding position of_type holds
returns c =
    finds (of_type c.args.sig.now c.args.slot_type) _ _ _ _ c.find.result c.find.ensures.ran (λ x b q k. search (rules, tests)) refl
    c.read-n.ensures.count_is
