-- Each kind is a line of the table.
use native.Mathlib.Omega.{arith}
use Rattle.refusals.proofs.Ranges.{hits}
use Rattle.layout.specs.CodeDirectory.{sha1_type, sha256_type, truncated_type, sha384_type, slot_widths, width_of}
use Rattle.layout.proofs.kinds.HashKind.width.Goals as goal

pub returns-in-Sha1-clause-value : goal.returns-in-Sha1-clause-value
unfolding width_of slot_widths
returns-in-Sha1-clause-value c = rw c.in-Sha1.is (hits 0 slot_widths 0 sha1_type (omega arith))

pub returns-in-Sha256-clause-value : goal.returns-in-Sha256-clause-value
unfolding width_of slot_widths
returns-in-Sha256-clause-value c = rw c.in-Sha256.is (hits 1 slot_widths 0 sha256_type (omega arith))

pub returns-in-Sha256Truncated-clause-value : goal.returns-in-Sha256Truncated-clause-value
unfolding width_of slot_widths
returns-in-Sha256Truncated-clause-value c = rw c.in-Sha256Truncated.is (hits 2 slot_widths 0 truncated_type (omega arith))

pub returns-in-Sha384-clause-value : goal.returns-in-Sha384-clause-value
unfolding width_of slot_widths
returns-in-Sha384-clause-value c = rw c.in-Sha384.is (hits 3 slot_widths 0 sha384_type (omega arith))
