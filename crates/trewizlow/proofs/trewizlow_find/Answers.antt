-- The callees' equations; the part's length is the difference of its ends (`span_length`). Assumes nothing.
use mathlib.Core.Path.{sym, subst, ◌∙◌}
use Rattle.superblob.specs.Rows.{Found}
use Rattle.trewizlow.proofs.Laws.{located, span_length}
use Rattle.trewizlow.specs.Interface.{blob_part}
use Rattle.trewizlow.proofs.trewizlow_find.Goals as goal

pub returns : goal.returns
unfolding blob_part
returns c = let a = c.from-answer.ensures ∙ c.tested.ensures in
    let f = subst (Found c.args.signature.now c.args.slot_type) (sym c.unwrap_or-span.ensures) (located _ _ _ c.find_span.ensures) in
    λ i. record { number = (a i).number; place = (a i).place; start = f.start_is i; length = span_length _ _ _ f i }
