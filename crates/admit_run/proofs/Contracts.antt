-- What the checker reads from the contracts of `line_of`, `put_line` and `answer`, whose callers only read and write: the line is `small_line`
-- of what became of the three files, and its bytes are its `Text`. `answer` asks nothing. Assumes nothing.
use Prim.Native.Nat.{◌≤◌}
use mathlib.Core.Path.{◌≡◌}
use contract.Lifetimes.{Lfts}
use denote.Triple.Clauses.{AtExit}
use borrow.Fn.World.{ArgsD, ResD}
use borrow.Fn.Kinds.{ended_of}
use lib.ListN.{length, take}
use Rattle.std.specs.Option.{option_copied}
use Rattle.admit_run.specs.Small.{judged_file, small_line, Said}
use Rattle.admit_run.specs.Text.{Text}
use Rattle.admit_run.proofs.answer.Reads as answer-reads
use Rattle.admit_run.proofs.answer.Kinds as answer-kinds
use Rattle.admit_run.proofs.line_of.Reads as line-reads
use Rattle.admit_run.proofs.line_of.Kinds as line-kinds
use Rattle.admit_run.proofs.text.put_line.Reads as text-reads
use Rattle.admit_run.proofs.text.put_line.Kinds as text-kinds

-- arguments in order: the signature's bytes where it is there, the same of the image and of the cache, the marks
module _ (κs : Lfts 4) (a : ArgsD Rattle.admit_run.specs.contracts.line_of.signature κs) where
  pub line_says : (r : ResD Rattle.admit_run.specs.contracts.line_of.signature κs) (e : AtExit (ended_of 4 line-kinds.ps line-kinds.r) κs)
      → line-reads.Learnt κs a r e
      → r ≡ small_line (judged_file 16384 (option_copied a.0)) (judged_file 32768 (option_copied a.1.0)) (judged_file 16384 (option_copied a.1.1.0))
  line_says r e h = h

-- arguments in order: the line, the buffer
module _ (κs : Lfts 1) (a : ArgsD Rattle.admit_run.specs.contracts.text.put_line.signature κs) where
  pub text_says : (r : ResD Rattle.admit_run.specs.contracts.text.put_line.signature κs) (e : AtExit (ended_of 1 text-kinds.ps text-kinds.r) κs)
      → text-reads.Learnt κs a r e → (r ≤ length e.1.0.now) × Text a.0 (take r e.1.0.now)
  text_says r e h = h

-- arguments in order: the runtime, the names of the three files
module _ (κs : Lfts 4) (a : ArgsD Rattle.admit_run.specs.contracts.answer.signature κs) where
  pub answer_asks : answer-reads.Asked κs a
  answer_asks = tt

  pub answer_says : (r : ResD Rattle.admit_run.specs.contracts.answer.signature κs) (e : AtExit (ended_of 4 answer-kinds.ps answer-kinds.r) κs)
      → answer-reads.Learnt κs a r e → Said r
  answer_says r e h = h
