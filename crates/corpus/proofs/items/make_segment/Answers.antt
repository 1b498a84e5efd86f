-- The literal has as many bytes as the buffer. By numbers, so that a log names the two lengths where they differ.
use native.Mathlib.Omega.{arith}
use Rattle.corpus.proofs.items.make_segment.Goals as goal

pub copy_from_slice-requires : goal.copy_from_slice-requires
copy_from_slice-requires c = omega (arith, c.in_ok-literal-in-0.ensures.cases.3)
