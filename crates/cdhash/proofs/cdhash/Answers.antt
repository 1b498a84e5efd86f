-- The digest of the blob by the kind that is read, cut.
use mathlib.Core.Path.{ap, ◌∙◌}
use native.Mathlib.Omega.{arith}
use lib.ListN.{take}
use Rattle.layout.specs.TrustCache.{cdhash_length}
use Rattle.cdhash.proofs.Cut.{cut_digest}
use Rattle.cdhash.proofs.cdhash.Goals as goal

pub returns : goal.returns
returns c = c.cut.ensures ∙ ap (take cdhash_length) c.digest.ensures
    ∙ cut_digest _ _ _ (omega (arith, c.read-kind.ensures.hash_type_is)) c.requires
