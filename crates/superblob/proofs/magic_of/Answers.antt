-- Each arm is a range of the table, and the default is what no range holds.
use native.Mathlib.Omega.{arith}
use Rattle.refusals.proofs.Ranges.{hits, misses}
use Rattle.superblob.specs.Rows.{magic_of, slot_magics}
use Rattle.superblob.proofs.magic_of.Goals as goal

pub returns-in-2 : goal.returns-in-2
unfolding magic_of slot_magics
returns-in-2 c = hits 2 slot_magics 0 _ (omega arith)

pub returns-in-5 : goal.returns-in-5
unfolding magic_of slot_magics
returns-in-5 c = hits 3 slot_magics 0 _ (omega arith)

pub returns-in-7 : goal.returns-in-7
unfolding magic_of slot_magics
returns-in-7 c = hits 4 slot_magics 0 _ (omega arith)

pub returns-in-65536 : goal.returns-in-65536
unfolding magic_of slot_magics
returns-in-65536 c = hits 6 slot_magics 0 _ (omega arith)

pub returns-in-8-to-11 : goal.returns-in-8-to-11
unfolding magic_of slot_magics
returns-in-8-to-11 c = hits 5 slot_magics 0 _ (omega arith)

pub returns-in_default : goal.returns-in_default
unfolding magic_of slot_magics
returns-in_default c = misses slot_magics 0 _ (omega arith)

pub returns-in_default-2 : goal.returns-in_default-2
unfolding magic_of slot_magics
returns-in_default-2 c = misses slot_magics 0 _ (omega arith)

pub returns-in_default-3 : goal.returns-in_default-3
unfolding magic_of slot_magics
returns-in_default-3 c = misses slot_magics 0 _ (omega arith)

pub returns-in-0 : goal.returns-in-0
unfolding magic_of slot_magics
returns-in-0 c = hits 0 slot_magics 0 _ (omega arith)

pub returns-in-0-2 : goal.returns-in-0-2
unfolding magic_of slot_magics
returns-in-0-2 c = hits 1 slot_magics 0 _ (omega arith)
