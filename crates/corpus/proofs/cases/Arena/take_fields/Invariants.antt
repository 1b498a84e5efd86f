-- Each field leaves less of the file, and the arena as long as it was.
use Rattle.std.proofs.Common.{length, ◌≤◌, ◌≡◌}
use Rattle.corpus.proofs.cases.Arena.take_fields.Given as goal

abbrev pub invariant-loop : goal.invariant-loop
invariant-loop l = (length l.rest ≤ length l.file) × (length l.self.bytes.now ≡ length l.fn.self.bytes.now)
