-- The same two ways as in reading: zeros, or the digest of the directory cut to 20. Assumes nothing.
use mathlib.Core.Path.{ap, refl, ◌∙◌}
use lib.ListN.{replicate}
use Rattle.refusals.specs.declared.Answer.{Answer}
use Rattle.refusals.specs.Refusals.{accepted}
use Rattle.refusals.proofs.Results.{refused}
use Rattle.directory.proofs.Formed.{kind_known}
use Rattle.cdhash.specs.Hash.{cdhash}
use Rattle.trewizlow.specs.Interface.{hash_with}
use Rattle.trewizlow.proofs.Laws.{hash_read, hash_refused}
use Rattle.trewizlow.proofs.trewizlow_cdhash.Goals as goal

pub cdhash-requires : goal.cdhash-requires
cdhash-requires c = kind_known _ _ _ _ c.in-Ok.ensures refl c.blob_of.ensures

pub returns-in-Ok : goal.returns-in-Ok
returns-in-Ok c = ap (hash_with accepted) (c.cdhash.ensures ∙ ap cdhash c.blob_of.ensures) ∙ hash_read _ _ c.in-Ok.ensures refl

pub returns-in-Err : goal.returns-in-Err
returns-in-Err c = ap (λ (a : Answer). hash_with a (replicate 20 0)) c.from-answer.ensures ∙ hash_refused _ _ c.in-Err.ensures (refused _)
