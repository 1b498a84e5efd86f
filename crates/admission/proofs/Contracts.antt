-- What the checker reads from the contracts of `check`, `check_file` and `recheck`: what they ask follows from nothing, and what a caller learns
-- is what the theorems of the demands take, `Checked`, `FileChecked` and `Rechecked`, by identity. Assumes nothing.
use contract.Lifetimes.{Lfts}
use denote.Triple.Clauses.{AtExit}
use borrow.Fn.World.{ArgsD, ResD}
use borrow.Fn.Kinds.{ended_of}
use Rattle.admission.specs.Lent.{lent_of, file_lent}
use Rattle.admission.specs.Check.{Checked}
use Rattle.admission.specs.File.{FileChecked}
use Rattle.admission.specs.Recheck.{recheck_of, Rechecked}
use Rattle.admission.proofs.check.Reads as check-reads
use Rattle.admission.proofs.check.Kinds as check-kinds
use Rattle.admission.proofs.check_file.Reads as file-reads
use Rattle.admission.proofs.check_file.Kinds as file-kinds
use Rattle.admission.proofs.check_tested.Reads as tested_reads
use Rattle.admission.proofs.range.recheck.Reads as recheck-reads
use Rattle.admission.proofs.range.recheck.Kinds as recheck-kinds

-- THE WHOLE CHECK. Arguments in order: image, marks, what is lent beside them
module _ (κs : Lfts 3) (a : ArgsD Rattle.admission.specs.contracts.check.signature κs) where
  pub check_asks : check-reads.Asked κs a
  check_asks = tt

  pub check_says : (r : ResD Rattle.admission.specs.contracts.check.signature κs) (e : AtExit (ended_of 3 check-kinds.ps check-kinds.r) κs)
      → check-reads.Learnt κs a r e → Checked (lent_of a.1.1.0 a.0.now) a.1.0.now r e.1.0.now
  check_says r e h = h

-- THE WHOLE CHECK OF A FILE. Arguments in order: file, marks, cache, side files, launch
module _ (κs : Lfts 4) (a : ArgsD Rattle.admission.specs.contracts.check_file.signature κs) where
  pub check_file_asks : file-reads.Asked κs a
  check_file_asks = tt

  pub check_file_says : (r : ResD Rattle.admission.specs.contracts.check_file.signature κs) (e : AtExit (ended_of 4 file-kinds.ps file-kinds.r) κs)
      → file-reads.Learnt κs a r e
      → FileChecked (file_lent a.0.now a.1.1.0.now a.1.1.1.0 a.1.1.1.1.0) a.1.0.now r e.1.0.now
  check_file_says r e h = h

-- THE RECHECK. Arguments in order: signature, start, size, contents, marks
module _ (κs : Lfts 3) (a : ArgsD Rattle.admission.specs.contracts.range.recheck.signature κs) where
  pub recheck_asks : recheck-reads.Asked κs a
  recheck_asks = tt

  pub recheck_says : (r : ResD Rattle.admission.specs.contracts.range.recheck.signature κs) (e : AtExit (ended_of 3 recheck-kinds.ps recheck-kinds.r) κs)
      → recheck-reads.Learnt κs a r e
      → Rechecked a.0.now (recheck_of a.1.0 a.1.1.0 a.1.1.1.0.now) a.1.1.1.1.0.now r e.1.1.1.1.0.now
  recheck_says r e h = h

-- TESTS 1 TO 30 by themselves ask nothing either
pub tested_asks : (κs : Lfts 1) (a : ArgsD Rattle.admission.specs.contracts.check_tested.signature κs) → tested_reads.Asked κs a
tested_asks κs a = tt
