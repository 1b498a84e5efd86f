-- The five ways of slot and thing are the five lines of `fault_of`.
use mathlib.Core.Path.{refl}
use native.Mathlib.Omega.{arith}
use Rattle.slots.specs.Slots.{fault_of}
use Rattle.slots.proofs.Laws.{by_kind}
use Rattle.slots.proofs.thing_tested.Goals as goal

pub returns-in-Some-true : goal.returns-in-Some-true
unfolding fault_of
returns-in-Some-true c = rw (c.in-Some-true.is-0, ← c.in-Some-true.ensures) refl

pub returns-in-Some-false : goal.returns-in-Some-false
unfolding fault_of
returns-in-Some-false c = rw (c.in-Some-false.is-0, ← c.in-Some-false.ensures, by_kind c.args.kind _ _ _ _ (omega arith) c.if-agrees.ensures) refl

pub returns-in-Some-false-2 : goal.returns-in-Some-false-2
unfolding fault_of
returns-in-Some-false-2 c = rw (c.in-Some-false.is-0, ← c.in-Some-false.ensures, by_kind c.args.kind _ _ _ _ (omega arith) c.if-agrees.ensures) refl

pub returns-in-None-true : goal.returns-in-None-true
unfolding fault_of
returns-in-None-true c = rw (c.in-None-true.is-0, ← c.in-None-true.ensures) refl

pub returns-in-None-false : goal.returns-in-None-false
unfolding fault_of
returns-in-None-false c = rw (c.in-None-false.is-0, ← c.in-None-false.ensures) refl
