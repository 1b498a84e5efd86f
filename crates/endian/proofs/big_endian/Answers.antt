use native.Mathlib.Omega.{arith}
use borrow.Author.Rules.{rules}
use Rattle.endian.proofs.Laws.{big_none, big_more, grows, fits}
use Rattle.endian.proofs.big_endian.Goals as goal

pub loop-i-init : goal.loop-i-init
loop-i-init c = (big_none _ _, omega arith)

pub overflow_mul-n : goal.overflow_mul-n
overflow_mul-n c = omega (arith, fits c.loop-i.i c.loop-i.n 0 (omega arith) (search rules) (omega arith))

pub overflow_add-n : goal.overflow_add-n
overflow_add-n c = record { fits = fits c.loop-i.i _ _ (omega arith) (search rules) (search rules) }

pub loop-i-preserved : goal.loop-i-preserved
loop-i-preserved c = (big_more _ _ _ _ _ (search rules) (search rules), grows _ _ _ (search rules) (search rules))
