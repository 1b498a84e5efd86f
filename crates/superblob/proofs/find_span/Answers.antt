-- By what is known at each return: the result of tests 1 to 9, and the position of the type.
use borrow.Author.Rules.{rules}
use Rattle.superblob.proofs.Spans.{span_refused, span_missing, span_found}
use Rattle.superblob.proofs.find_span.Goals as goal

pub returns-in_err-ok : goal.returns-in_err-ok
returns-in_err-ok c = rw c.from_residual.ensures (span_refused _ _ _ c.tested.ensures c.in_err-ok.ensures.variant)

pub returns-in_err-i : goal.returns-in_err-i
returns-in_err-i c = rw c.from_residual-in_err-i.ensures (span_missing _ _ c.in_err-i.ensures)

pub returns : goal.returns
returns c = span_found _ _ _ c.tested.ensures c.in_ok-ok.ensures.variant _ _ _ c.in_ok-i.ensures (search rules) (search rules)
