-- Each refusal is the first row that holds: the rows before it are the tests passed on the way. The search for a command that 39
-- refuses was told the first LC_CODE_SIGNATURE, and the data is that of this command.
use borrow.Author.Rules.{rules}
use borrow.Author.Tests.{tests}
use native.Mathlib.Omega.{arith}
use Rattle.refusals.specs.Refusals.{accepted}
use Rattle.refusals.proofs.Exact.{decides, passes}
use Rattle.macho.specs.Rows.{is_signature, wrong_signature, signature_command, span_rows}
use Rattle.macho.proofs.Table.{wrong_first, wrong_none, data_first}
use Rattle.macho.proofs.span_tested.Goals as goal

pub returns-in_default : goal.returns-in_default
unfolding span_rows signature_command
returns-in_default c =
    let s = c.in_default.ensures (is_signature c.args.file.now) (λ d b e p. search (rules, tests)) in
    decides _ accepted _ _ (omega arith)

pub returns-in-Some-first_command : goal.returns-in-Some-first_command
unfolding span_rows signature_command
returns-in-Some-first_command c =
    let f = c.args.file.now in
    let s = c.in-Some.ensures (is_signature f) (λ d b e p. search (rules, tests)) in
    let w = c.in-Some-first_command.ensures (wrong_signature f c.in-Some.signature.index) (λ d b e p. search (rules, tests)) in
    let p = wrong_first f _ s.1 _ w.1 in
    decides _ accepted _ _ (omega arith)

pub returns-then-file-end : goal.returns-then-file-end
unfolding span_rows signature_command
returns-then-file-end c =
    let f = c.args.file.now in
    let s = c.in-Some.ensures (is_signature f) (λ d b e p. search (rules, tests)) in
    let w = c.in_default-first_command.ensures (wrong_signature f c.in-Some.signature.index) (λ d b e p. search (rules, tests)) in
    let p = wrong_none f _ s.1 w in
    let e = data_first f _ s.1 _ _ _ s.2 c.read-data.ensures.dataoff_is c.read-data.ensures.datasize_is in
    decides _ accepted _ _ (omega arith)

pub returns : goal.returns
unfolding span_rows signature_command
returns c =
    let f = c.args.file.now in
    let s = c.in-Some.ensures (is_signature f) (λ d b e p. search (rules, tests)) in
    let w = c.in_default-first_command.ensures (wrong_signature f c.in-Some.signature.index) (λ d b e p. search (rules, tests)) in
    let p = wrong_none f _ s.1 w in
    let e = data_first f _ s.1 _ _ _ s.2 c.read-data.ensures.dataoff_is c.read-data.ensures.datasize_is in
    (passes _ accepted (omega arith), record { command_is = s.1; start_is = e.0; end_is = e.1; ordered = omega arith; within = omega arith })
