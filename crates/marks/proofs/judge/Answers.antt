-- The lowest such mark decides the one row; where there is none it does not hold.
use native.Mathlib.Omega.{arith}
use lib.ListN.{length}
use borrow.Author.Tests.{tests}
use borrow.Author.Rules.{rules}
use Rattle.std.proofs.lemmas.Iterator.{YieldsList-from_slice}
use Rattle.refusals.specs.Refusals.{holds, ◌≡?◌, refuse}
use Rattle.refusals.proofs.Exact.{decides, passes}
use Rattle.refusals.proofs.Searches.{Lowest, positioned}
use Rattle.marks.specs.Marks.{differs, judged, bad_rows}
use Rattle.marks.proofs.judge.Goals as goal
use Rattle.marks.proofs.judge.Goals.{After-position}

stopped : (c : After-position) → Lowest (differs c.args.marks.now) (length c.args.marks.now) c.position.result
unfolding differs holds
stopped c = positioned (λ x. x ≡? 1) _ _ c.position.result c.position.ensures.ran (YieldsList-from_slice c.args.marks.now cc) (λ x q k. search (rules, tests)) (λ x q k. search (rules, tests))

pub returns-in-Some : goal.returns-in-Some
unfolding judged bad_rows
returns-in-Some c = let at = rw c.in-Some.is at (stopped (goal.at.returns-in-Some c).After-position) in
    decides _ (refuse 0 _) _ _ (omega arith)

pub returns-in-None : goal.returns-in-None
unfolding judged bad_rows
returns-in-None c = let at = rw c.in-None.is at (stopped (goal.at.returns-in-None c).After-position) in
    passes _ (refuse 0 _) (omega arith)
