-- The last page met starts below the limit, and ends where the pages met end.
use native.Mathlib.Omega.{arith}
use Rattle.geometry.proofs.Pages.{wanted_none, Ranged, ranged}
use Rattle.geometry.proofs.wanted_bytes.Goals.{After-end_met-end}
use Rattle.geometry.proofs.wanted_bytes.Goals as goal

facts : (c : After-end_met-end) → Ranged c.args.p c.args.limit c.args.start c.args.size c.first_met-first.result c.end_met-end.result
facts c = ranged _ c.args.limit _ _ _ _ c.first_met-first.ensures c.end_met-end.ensures c.if-size-eq0.false c.requires

pub returns-then-size-eq0 : goal.returns-then-size-eq0
returns-then-size-eq0 c = wanted_none _ _ _ _ (omega arith)

pub overflow_sub-end : goal.overflow_sub-end
overflow_sub-end c = let f = facts c in omega arith

pub page_end-requires : goal.page_end-requires
page_end-requires c = let f = facts c in omega arith

pub overflow_mul-result : goal.overflow_mul-result
overflow_mul-result c = let f = facts (goal.at.overflow_mul-result c).After-end_met-end in omega arith

pub overflow_sub-result : goal.overflow_sub-result
overflow_sub-result c = let f = facts (goal.at.overflow_sub-result c).After-end_met-end in omega arith

pub returns : goal.returns
returns c = let f = facts (goal.at.returns c).After-end_met-end in omega arith
