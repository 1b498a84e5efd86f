-- The callee's equations. Assumes nothing.
use Prim.Native.Nat.{◌-◌}
use mathlib.Core.Path.{◌∙◌}
use Rattle.trewizlow.specs.Interface.{file_signature}
use Rattle.trewizlow.proofs.trewizlow_file_read.Goals as goal

pub returns-in-Ok : goal.returns-in-Ok
unfolding file_signature
returns-in-Ok c = let a = c.in-Ok.ensures.0 in
    let f = c.in-Ok.ensures.1 in
    λ i. record { number = (a i).number; place = (a i).place; start = f.start_is i; length = f.end_is i - f.start_is i }

pub returns-in-Err : goal.returns-in-Err
unfolding file_signature
returns-in-Err c = let a = c.from-answer.ensures ∙ c.in-Err.ensures.0 in
    let f = c.in-Err.ensures.1 in
    λ i. record { number = (a i).number; place = (a i).place; start = f.start_is i; length = f.end_is i - f.start_is i }
