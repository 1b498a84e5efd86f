-- A search of the earlier positions for the type finds one.
use mathlib.Core.Path.{refl}
use borrow.Author.Rules.{rules}
use borrow.Author.Tests.{tests}
use Rattle.refusals.specs.Refusals.{holds}
use Rattle.refusals.proofs.Searches.{any_lowest}
use Rattle.superblob.specs.Rows.{same_type, repeated}
use Rattle.superblob.proofs.repeats_type.Goals as goal

pub returns : goal.returns
unfolding repeated same_type holds
returns c = any_lowest (same_type c.args.sig.now c.args.i) _ _ _ _ c.any.ensures.ran (λ x b q k. search (rules, tests)) refl
