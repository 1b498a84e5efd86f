-- Each file is judged by what `within` answered, the ones before it having bytes. Assumes nothing.
use mathlib.Core.Path.{ap, ◌∙◌}
use Rattle.std.specs.Prelude.{Ok}
use Rattle.std.proofs.lemmas.Result.{err_from_is_err_and}
use Rattle.admit_run.specs.Small.{small_line}
use Rattle.admit_run.proofs.Laws.{judged_wrong, judged_has}
use Rattle.admit_run.proofs.line_of.Goals as goal

pub returns-in_err-signature_bytes : goal.returns-in_err-signature_bytes
unfolding small_line
returns-in_err-signature_bytes c =
    let p = err_from_is_err_and c.from_residual.result c.from_residual.ensures.1 in
    rw (p.1, p.2) (judged_wrong _ _ _ c.in_err-signature_bytes.ensures.outcome)

pub returns-in_err-image_bytes : goal.returns-in_err-image_bytes
unfolding small_line
returns-in_err-image_bytes c =
    let p = err_from_is_err_and c.from_residual-in_err-image_bytes.result c.from_residual-in_err-image_bytes.ensures.1 in
    rw (p.1, p.2) (judged_wrong _ _ _ c.in_err-image_bytes.ensures.outcome ∙ judged_has _ _ _ c.in_ok-signature_bytes.ensures.outcome)

pub returns-in_err-cache_bytes : goal.returns-in_err-cache_bytes
unfolding small_line
returns-in_err-cache_bytes c =
    let p = err_from_is_err_and c.from_residual-in_err-cache_bytes.result c.from_residual-in_err-cache_bytes.ensures.1 in
    rw (p.1, p.2) (judged_wrong _ _ _ c.in_err-cache_bytes.ensures.outcome ∙ judged_has _ _ _ c.in_ok-image_bytes.ensures.outcome ∙ judged_has _ _ _ c.in_ok-signature_bytes.ensures.outcome)

pub returns : goal.returns
unfolding small_line
returns c = ap Ok c.admit.ensures ∙ judged_has _ _ _ c.in_ok-cache_bytes.ensures.outcome ∙ judged_has _ _ _ c.in_ok-image_bytes.ensures.outcome ∙ judged_has _ _ _ c.in_ok-signature_bytes.ensures.outcome
