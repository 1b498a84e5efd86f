-- Tests 36 and 37, and where they pass 38 to 40.
use Rattle.std.proofs.lemmas.Result.{err_from_is_err_and}
use Rattle.macho.proofs.Parts.{commands_refused, span_found}
use Rattle.macho.proofs.Table.{few_commands}
use Rattle.macho.proofs.signature_span.Goals as goal

pub returns-in_err-commands_tested : goal.returns-in_err-commands_tested
returns-in_err-commands_tested c =
    let p = err_from_is_err_and c.from_residual.result c.from_residual.ensures.1 in
    rw (p.1, p.2) (commands_refused _ _ c.in_err-commands_tested.ensures)

pub span_tested-requires : goal.span_tested-requires
span_tested-requires c = few_commands _ c.in_ok-commands_tested.ensures

pub returns : goal.returns
returns c = span_found _ c.in_ok-commands_tested.ensures _ c.span_tested.ensures
