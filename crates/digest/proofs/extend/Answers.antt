-- The zeros behind the bytes are the rest of 48. Assumes nothing.
use Rattle.std.proofs.Common.{◌++◌, List, ℕ, length, ap₂}
use Rattle.std.proofs.lemmas.List.{drop-replicate}
use Rattle.digest.proofs.extend.Goals as goal

pub returns : goal.returns
returns c = ap₂ (λ (a b : List ℕ). a ++ b) c.copy_from_slice.ensures.after (drop-replicate (length c.args.d.now) 48 0)
