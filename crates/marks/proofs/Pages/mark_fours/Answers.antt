use Prim.Native.Nat.{◌+◌, ◌*◌, ◌/◌}
use mathlib.Core.Path.{◌≡◌, ◌∙◌}
use native.Mathlib.Omega.{arith}
use lib.ListN.{length}
use Rattle.geometry.proofs.Pages.{count_most}
use Rattle.marks.specs.Lent.{mark_at}
use Rattle.marks.proofs.Tabs.{tab_none, tab_put}
use Rattle.marks.proofs.Marking.{page_of_here}
use Rattle.marks.proofs.Pages.mark_fours.Goals as goal

pub loop-i-init : goal.loop-i-init
loop-i-init c = tab_none _ _ _

pub overflow_add-self : goal.overflow_add-self
overflow_add-self c = omega (arith, c.requires.here, count_most c.args.self.now.p c.args.self.now.limit)

pub mark_four-requires : goal.mark_four-requires
mark_four-requires c = (omega arith, page_of_here _ _ _ _ (length c.args.marks.now) _ (c.args.self.now.from + 4 * c.loop-i.i + 3) c.requires (omega arith) (omega arith))

pub returns-in_default : goal.returns-in_default
returns-in_default c = (c.loop-i.invariant, omega arith)

pub loop-i-preserved : goal.loop-i-preserved
loop-i-preserved c = tab_put _ (4 * c.loop-i.i) _ 4 _ (mark_at c.args.self.now) _ _ _ c.loop-i.invariant (c.copy_from_slice.ensures.after ∙ c.in-Some.ensures) (omega arith) (omega arith)

pub returns : goal.returns
returns c =
    let e : length c.args.marks.now / 4 ≡ c.loop-i.i = omega arith in
    rw e (c.loop-i.invariant, omega arith)
