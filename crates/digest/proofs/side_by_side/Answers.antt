-- For the two kinds that are cuts of SHA-256 (`middle_sha256`). Assumes nothing.
use native.Mathlib.Omega.{arith}
use Rattle.digest.proofs.ByKind.{cut_kind, middle_sha256}
use Rattle.digest.proofs.side_by_side.Goals as goal

pub returns-in-Sha256 : goal.returns-in-Sha256
returns-in-Sha256 c = λ e.
    let k = cut_kind _ _ c.in-Sha256.is c.in-Some.ensures.known in
    let w = middle_sha256 c.args.kind k.0 k.1 in
    record { cut = w.0; narrow = w.1; second = omega arith; third = omega arith; fourth = omega arith }
