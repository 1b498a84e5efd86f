-- A search of the earlier positions for a blob that shares a byte finds one.
use mathlib.Core.Path.{refl}
use borrow.Author.Rules.{rules}
use borrow.Author.Tests.{tests}
use Rattle.refusals.proofs.Searches.{any_lowest}
use Rattle.superblob.specs.Rows.{shared, overlaps}
use Rattle.superblob.proofs.overlaps_earlier.Goals as goal

pub returns : goal.returns
unfolding overlaps
returns c = any_lowest (shared c.args.sig.now c.args.i) _ _ _ _ c.any.ensures.ran (λ x b q k. search (rules, tests)) refl
