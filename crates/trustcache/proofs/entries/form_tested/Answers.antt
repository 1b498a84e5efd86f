-- Each refusal is its own row, with no row before it.
use native.Mathlib.Omega.{arith}
use mathlib.Core.Path.{refl}
use borrow.Author.Tests.{tests}
use borrow.Author.Rules.{rules}
use Rattle.refusals.specs.Refusals.{accepted}
use Rattle.refusals.proofs.Exact.{decides, passes}
use Rattle.refusals.proofs.Searches.{Lowest, finds}
use Rattle.trustcache.specs.Rows.{not_above, form_rows}
use Rattle.layout.specs.TrustCache.{entry_count}
use Rattle.trustcache.proofs.entries.form_tested.Goals as goal
use Rattle.trustcache.proofs.entries.form_tested.Goals.{After-find, then-c-lt-HEAD-via-then-c-lt-HEAD, then-c-lt-HEAD-via-else-c-lt-HEAD+then-head-ne-VERSION, then-c-lt-HEAD-via-else-c-lt-HEAD+else-head-ne-VERSION+then-head-gt-MOST_ENTRIES, then-c-lt-HEAD-via-else-c-lt-HEAD+else-head-ne-VERSION+else-head-gt-MOST_ENTRIES+then-c-head}

stopped : (c : After-find) → Lowest (not_above c.args.c.now) (entry_count c.args.c.now) c.find.result
stopped c = finds (not_above c.args.c.now) _ _ _ _ c.find.result c.find.ensures.ran (λ x b q k. search (rules, tests)) refl c.read-head.ensures.entries_is

pub returns-then-c-lt-HEAD : goal.returns-then-c-lt-HEAD
unfolding form_rows
returns-then-c-lt-HEAD c = elim c.then-c-lt-HEAD.branch [
  | then-c-lt-HEAD-via-then-c-lt-HEAD w ↦ decides _ accepted _ _ (omega arith)
  | then-c-lt-HEAD-via-else-c-lt-HEAD+then-head-ne-VERSION w ↦ decides _ accepted _ _ (omega arith)
  | then-c-lt-HEAD-via-else-c-lt-HEAD+else-head-ne-VERSION+then-head-gt-MOST_ENTRIES w ↦ decides _ accepted _ _ (omega arith)
  | then-c-lt-HEAD-via-else-c-lt-HEAD+else-head-ne-VERSION+else-head-gt-MOST_ENTRIES+then-c-head w ↦ decides _ accepted _ _ (omega arith)
]

pub returns-in-Some : goal.returns-in-Some
unfolding form_rows
returns-in-Some c = let at = rw c.in-Some.is at (stopped (goal.at.returns-in-Some c).After-find) in
    decides _ accepted _ _ (omega arith)

pub returns-in-None : goal.returns-in-None
unfolding form_rows
returns-in-None c = let at = rw c.in-None.is at (stopped (goal.at.returns-in-None c).After-find) in
    passes _ accepted (omega arith)
