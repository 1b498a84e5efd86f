-- The pages met are cut out of the marks, marked from the contents, and put back.
use native.Mathlib.Omega.{arith}
use lib.ListN.{length}
use Rattle.admission.proofs.Read.{Inside, here_of, marked_of, from_page, met_inside, met_here, met_marked}
use Rattle.admission.proofs.range.Call.rewrite_marks.Goals as goal
use Rattle.admission.proofs.range.Call.rewrite_marks.Goals.{After-end_met-end}

inside : (c : After-end_met-end) → Inside c.first_met-first.result c.end_met-end.result (length c.args.marks.now)
inside c = met_inside _ _ _ _ _ c.requires _ _ _ c.pages_of-all.ensures.p_is c.first_met-first.ensures c.end_met-end.ensures

pub slice_bounds-mark-count : goal.slice_bounds-mark-count
slice_bounds-mark-count c = let m = inside (goal.at.slice_bounds-mark-count c).After-end_met-end in omega arith

pub slice_bounds-mark-start : goal.slice_bounds-mark-start
slice_bounds-mark-start c = let m = inside (goal.at.slice_bounds-mark-start c).After-end_met-end in omega arith

pub slice_bounds-mark-end : goal.slice_bounds-mark-end
slice_bounds-mark-end c = let m = inside (goal.at.slice_bounds-mark-end c).After-end_met-end in omega arith

pub mark-requires : goal.mark-requires
mark-requires c =
    here_of _ _ _ _ (from_page _ _ _ _ c.pages_of-all.ensures) _
    (met_here _ _ _ _ _ c.requires _ _ _ c.pages_of-all.ensures.p_is c.first_met-first.ensures c.end_met-end.ensures)

pub returns : goal.returns
returns c =
    met_marked _ _ _ _ _ c.requires _ _ _ c.pages_of-all.ensures.p_is c.first_met-first.ensures c.end_met-end.ensures _
    (marked_of _ _ _ _ (from_page _ _ _ _ c.pages_of-all.ensures) _ _ c.mark.ensures)
