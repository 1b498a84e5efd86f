use Prim.Native.Nat.{ℕ}
use mathlib.Core.Path.{ap, ◌∙◌}
use mathlib.Core.List.{List}
use native.Mathlib.Omega.{arith}
use lib.ListN.{length, set}
use Rattle.geometry.proofs.Pages.{count_most}
use Rattle.marks.specs.Marks.{marks_from}
use Rattle.marks.proofs.Tabs.{tab_kept, tab_more, tab_all}
use Rattle.marks.proofs.Marking.{page_of_here}
use Rattle.marks.proofs.Pages.mark.Goals as goal

pub loop-i-init : goal.loop-i-init
loop-i-init c = tab_kept _ _ _ _ _ c.mark_fours-i.ensures.0

pub overflow_add-self : goal.overflow_add-self
overflow_add-self c = omega (arith, c.requires.here, count_most c.args.self.now.p c.args.self.now.limit)

pub mark_page-requires : goal.mark_page-requires
mark_page-requires c = page_of_here _ _ _ _ (length c.args.marks.now) _ _ c.requires (omega arith) (omega arith)

pub loop-i-preserved : goal.loop-i-preserved
loop-i-preserved c = ap (λ (m : List ℕ). set m c.loop-i.i c.mark_page.result) c.loop-i.invariant ∙ tab_more _ c.loop-i.i _ _ _ (omega arith) c.mark_page.ensures

pub returns : goal.returns
unfolding marks_from
returns c = c.loop-i.invariant ∙ tab_all _ c.loop-i.i _ _ (length c.args.marks.now) (omega arith) (omega arith)
