-- By what slot k covers.
use mathlib.Core.Logic.{inl, inr}
use mathlib.Core.Path.{◌∙◌}
use native.Mathlib.Omega.{arith}
use Rattle.slots.proofs.Laws.{there_info, thing_info, there_resources, thing_resources, nothing_there, there_blob, thing_blob, there_by, bytes_by}
use Rattle.slots.proofs.thing_of.Goals as goal

pub returns-in-1-clause-flag : goal.returns-in-1-clause-flag
returns-in-1-clause-flag c = there_info _ _ _ (omega arith)

pub returns-in-1-clause-bytes : goal.returns-in-1-clause-bytes
returns-in-1-clause-bytes c = λ t. thing_info _ _ _ (omega arith)

pub returns-in-3-clause-flag : goal.returns-in-3-clause-flag
returns-in-3-clause-flag c = there_resources _ _ _ (omega arith)

pub returns-in-3-clause-bytes : goal.returns-in-3-clause-bytes
returns-in-3-clause-bytes c = λ t. thing_resources _ _ _ (omega arith)

pub returns-in-4-clause-flag : goal.returns-in-4-clause-flag
returns-in-4-clause-flag c = nothing_there _ _ _ c.in-4.is

pub returns-in_default-clause-flag : goal.returns-in_default-clause-flag
returns-in_default-clause-flag c =
    let other = c.in_default.in_default-own.rest.1 in
    rw c.then_some.ensures (there_by _ _ ∙ c.has.ensures ∙ there_blob _ _ _ (omega arith) (omega arith) (λ e. other (inl e)) (λ e. other (inr e)))

pub returns-in_default-clause-bytes : goal.returns-in_default-clause-bytes
returns-in_default-clause-bytes c =
    λ t. rw c.then_some.ensures (bytes_by _ _ (rw (← c.then_some.ensures) t) ∙ c.blob_of.ensures ∙ thing_blob _ _ _ (omega arith) (omega arith))
