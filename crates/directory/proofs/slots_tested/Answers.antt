-- Each refusal is the first row that holds: the rows before it are the tests passed on the way.
use mathlib.Core.Bool.{true}
use mathlib.Core.Path.{refl}
use native.Mathlib.Omega.{arith}
use Rattle.refusals.specs.Refusals.{Cond, ◌or◌, holds, Says, accepted}
use Rattle.refusals.proofs.Conditions.{says, said, held, fell}
use Rattle.refusals.proofs.Exact.{decides, passes}
use Rattle.directory.specs.Rows.{slot_rows, special_outside, code_outside}
use Rattle.directory.proofs.slots_tested.Goals as goal

one_holds : (k l : Cond) → Says true k → Says true (k or l)
unfolding holds
one_holds k l h = said true (k or l) (rw (← says true k h))

pub returns-then-code-page_count : goal.returns-then-code-page_count
unfolding slot_rows
returns-then-code-page_count c = decides _ accepted _ _ (omega arith)

pub returns-then-code-gt-MOST_PAGES : goal.returns-then-code-gt-MOST_PAGES
unfolding slot_rows
returns-then-code-gt-MOST_PAGES c = decides _ accepted _ _ (omega arith)

pub returns-then-special : goal.returns-then-special
unfolding slot_rows
returns-then-special c = decides _ accepted _ _ (omega arith)

pub returns-then-special_outside : goal.returns-then-special_outside
unfolding slot_rows
returns-then-special_outside c = let d = c.args.d.now in
    let s = held _ _ c.special_outside.ensures c.if-special_outside.true in
    decides _ accepted _ _ (omega arith, (one_holds (special_outside d) (code_outside d) s, refl))

pub returns-then-code_outside : goal.returns-then-code_outside
unfolding slot_rows
returns-then-code_outside c = let t = held _ _ c.code_outside.ensures c.if-code_outside.true in
    decides _ accepted _ _ (omega arith, ((λ n. t), refl))

pub returns-then-ident-head_of : goal.returns-then-ident-head_of
unfolding slot_rows
returns-then-ident-head_of c = let s = fell _ _ c.special_outside.ensures c.if-special_outside.false in
    let t = fell _ _ c.code_outside.ensures c.if-code_outside.false in
    decides _ accepted _ _ (omega arith, ((s, t), (omega arith, refl)))

pub returns-then-ident_length-ident_room : goal.returns-then-ident_length-ident_room
unfolding slot_rows
returns-then-ident_length-ident_room c = let s = fell _ _ c.special_outside.ensures c.if-special_outside.false in
    let t = fell _ _ c.code_outside.ensures c.if-code_outside.false in
    decides _ accepted _ _ (omega arith, ((s, t), (omega arith, refl)))

pub returns : goal.returns
unfolding slot_rows
returns c = let s = fell _ _ c.special_outside.ensures c.if-special_outside.false in
    let t = fell _ _ c.code_outside.ensures c.if-code_outside.false in
    passes _ accepted (omega arith, ((s, t), (omega arith, tt)))
