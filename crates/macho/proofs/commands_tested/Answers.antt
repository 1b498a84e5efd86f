-- Each refusal is the first row that holds: the rows before it are the tests passed on the way. The place of 37 follows the way in
-- which it holds.
use borrow.Author.Rules.{rules}
use borrow.Author.Tests.{tests}
use native.Mathlib.Omega.{arith}
use Rattle.refusals.specs.Refusals.{accepted}
use Rattle.refusals.proofs.Exact.{decides, passes}
use Rattle.macho.specs.Rows.{malformed, malformed_command, command_rows}
use Rattle.macho.proofs.Table.{count_refused, command_refused}
use Rattle.macho.proofs.commands_tested.Goals as goal

pub returns-then-file-lt-HEAD : goal.returns-then-file-lt-HEAD
unfolding command_rows
returns-then-file-lt-HEAD c = decides _ accepted _ _ (omega arith)

pub returns-then-header-ne-MAGIC : goal.returns-then-header-ne-MAGIC
unfolding command_rows
returns-then-header-ne-MAGIC c = decides _ accepted _ _ (omega arith)

pub returns-then-header-gt-MOST_COMMANDS : goal.returns-then-header-gt-MOST_COMMANDS
returns-then-header-gt-MOST_COMMANDS c = count_refused _ (omega arith) (omega arith) _ (omega arith) (omega arith)

pub returns-in-Some : goal.returns-in-Some
unfolding malformed_command
returns-in-Some c =
    let w = c.in-Some.ensures (malformed c.args.file.now) (λ d b e p. search (rules, tests)) in
    command_refused _ (omega arith) (omega arith) _ (omega arith) w.1 w.0

pub returns : goal.returns
unfolding command_rows malformed_command
returns c =
    let w = c.in_default.ensures (malformed c.args.file.now) (λ d b e p. search (rules, tests)) in
    passes _ accepted (omega arith)
