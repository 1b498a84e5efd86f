-- Of one length the comparison holds exactly where the bytes are equal (`held`). Assumes nothing.
use mathlib.Core.Path.{◌∙◌}
use native.Mathlib.Omega.{arith}
use lib.Seq.{length-take-le}
use borrow.Author.Tests.{ne_eqb}
use Rattle.std.proofs.lemmas.Bool.Decides.{Decides-eqb}
use Rattle.layout.specs.CodeDirectory.{width_of}
use Rattle.digest.proofs.Equality.{other_length, held}
use Rattle.digest.proofs.slot_holds.Goals as goal

pub returns-then-slot-width : goal.returns-then-slot-width
returns-then-slot-width c = held Decides-eqb _ _ _ _ _ _ (omega (arith, c.slot_width-width.ensures.0)) (omega arith) c.eq.ensures

pub returns-else-slot-width : goal.returns-else-slot-width
returns-else-slot-width c = let a = c.args in
    ne_eqb _ _ (omega arith)
    ∙ other_length _ _ (λ e. omega (arith, e, length-take-le (width_of a.kind) a.d (omega arith)))
