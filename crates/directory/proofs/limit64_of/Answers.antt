-- By the version.
use native.Mathlib.Omega.{arith}
use Rattle.directory.proofs.Since.{since_older, since_has}
use Rattle.directory.proofs.limit64_of.Goals as goal

pub returns-then-head-lt-LIMIT64_VERSION : goal.returns-then-head-lt-LIMIT64_VERSION
returns-then-head-lt-LIMIT64_VERSION c = since_older _ _ _ (omega arith)

pub returns : goal.returns
returns c = since_has _ _ _ _ (omega arith) (cc)
