-- Each arm is a range of the table, and the default is what no range holds.
use native.Mathlib.Omega.{arith}
use Rattle.refusals.proofs.Ranges.{hits, misses}
use Rattle.directory.specs.Head.{head_size, head_sizes}
use Rattle.directory.proofs.head_size.Goals as goal

pub returns-in-132608 : goal.returns-in-132608
unfolding head_size head_sizes
returns-in-132608 c = (hits 6 head_sizes 0 _ (omega arith), omega arith)

pub returns-in-131073-to-131327 : goal.returns-in-131073-to-131327
unfolding head_size head_sizes
returns-in-131073-to-131327 c = (hits 0 head_sizes 0 _ (omega arith), omega arith)

pub returns-in-131328-to-131583 : goal.returns-in-131328-to-131583
unfolding head_size head_sizes
returns-in-131328-to-131583 c = (hits 1 head_sizes 0 _ (omega arith), omega arith)

pub returns-in-131584-to-131839 : goal.returns-in-131584-to-131839
unfolding head_size head_sizes
returns-in-131584-to-131839 c = (hits 2 head_sizes 0 _ (omega arith), omega arith)

pub returns-in-131840-to-132095 : goal.returns-in-131840-to-132095
unfolding head_size head_sizes
returns-in-131840-to-132095 c = (hits 3 head_sizes 0 _ (omega arith), omega arith)

pub returns-in-132096-to-132351 : goal.returns-in-132096-to-132351
unfolding head_size head_sizes
returns-in-132096-to-132351 c = (hits 4 head_sizes 0 _ (omega arith), omega arith)

pub returns-in-132352-to-132607 : goal.returns-in-132352-to-132607
unfolding head_size head_sizes
returns-in-132352-to-132607 c = (hits 5 head_sizes 0 _ (omega arith), omega arith)

pub returns-in_default : goal.returns-in_default
unfolding head_size head_sizes
returns-in_default c = (misses head_sizes 0 _ (omega arith), omega arith)

pub returns-in_default-2 : goal.returns-in_default-2
unfolding head_size head_sizes
returns-in_default-2 c = (misses head_sizes 0 _ (omega arith), omega arith)
