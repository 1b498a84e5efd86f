-- What the checker reads from the contracts of the exports, which are what C calls. What each asks follows from nothing. What a host learns of
-- `trewizlow_check`, `trewizlow_file_check` and `trewizlow_recheck` is, by identity, what the theorems of the demands take, and of the readers what
-- Bytes.antt of trewizlow shows. Assumes nothing.
use contract.Lifetimes.{Lfts}
use denote.Triple.Clauses.{AtExit}
use borrow.Fn.World.{ArgsD, ResD}
use borrow.Fn.Kinds.{ended_of}
use Rattle.admission.specs.Input.{lent}
use Rattle.admission.specs.Check.{Checked}
use Rattle.admission.specs.File.{lent_file, FileChecked}
use Rattle.admission.specs.Recheck.{recheck_of, Rechecked}
use Rattle.trewizlow.specs.Shown.{FileShown, BlobShown, DirectoryShown, HashShown}
use Rattle.trewizlow.proofs.Bytes.{file_shown, blob_shown, directory_shown, hash_shown}
use Rattle.trewizlow_c.proofs.trewizlow_check.Reads as check-reads
use Rattle.trewizlow_c.proofs.trewizlow_check.Kinds as check-kinds
use Rattle.trewizlow_c.proofs.trewizlow_file_check.Reads as file-check-reads
use Rattle.trewizlow_c.proofs.trewizlow_file_check.Kinds as file-check-kinds
use Rattle.trewizlow_c.proofs.trewizlow_file_read.Reads as file-read-reads
use Rattle.trewizlow_c.proofs.trewizlow_file_read.Kinds as file-read-kinds
use Rattle.trewizlow_c.proofs.trewizlow_recheck.Reads as recheck-reads
use Rattle.trewizlow_c.proofs.trewizlow_recheck.Kinds as recheck-kinds
use Rattle.trewizlow_c.proofs.trewizlow_find.Reads as find-reads
use Rattle.trewizlow_c.proofs.trewizlow_find.Kinds as find-kinds
use Rattle.trewizlow_c.proofs.trewizlow_read.Reads as read-reads
use Rattle.trewizlow_c.proofs.trewizlow_read.Kinds as read-kinds
use Rattle.trewizlow_c.proofs.trewizlow_cdhash.Reads as cdhash-reads
use Rattle.trewizlow_c.proofs.trewizlow_cdhash.Kinds as cdhash-kinds

-- THE WHOLE CHECK. Arguments in order: signature, image, marks, cache, info_there, info, resources_there, resources, launch
module _ (κs : Lfts 6) (a : ArgsD Rattle.trewizlow_c.specs.contracts.trewizlow_check.signature κs) where
  pub check_asks : check-reads.Asked κs a
  check_asks = tt

  pub check_says : (r : ResD Rattle.trewizlow_c.specs.contracts.trewizlow_check.signature κs) (e : AtExit (ended_of 6 check-kinds.ps check-kinds.r) κs)
      → check-reads.Learnt κs a r e
      → Checked
      (lent a.0.now a.1.0.now a.1.1.1.0.now a.1.1.1.1.0 a.1.1.1.1.1.0.now a.1.1.1.1.1.1.0 a.1.1.1.1.1.1.1.0.now a.1.1.1.1.1.1.1.1.0)
      a.1.1.0.now r e.1.1.0.now
  check_says r e h = h

-- THE WHOLE CHECK OF A FILE. Arguments in order: file, marks, cache, info_there, info, resources_there, resources, launch
module _ (κs : Lfts 5) (a : ArgsD Rattle.trewizlow_c.specs.contracts.trewizlow_file_check.signature κs) where
  pub file_check_asks : file-check-reads.Asked κs a
  file_check_asks = tt

  pub file_check_says : (r : ResD Rattle.trewizlow_c.specs.contracts.trewizlow_file_check.signature κs)
      (e : AtExit (ended_of 5 file-check-kinds.ps file-check-kinds.r) κs)
      → file-check-reads.Learnt κs a r e
      → FileChecked
      (lent_file a.0.now a.1.1.0.now a.1.1.1.0 a.1.1.1.1.0.now a.1.1.1.1.1.0 a.1.1.1.1.1.1.0.now a.1.1.1.1.1.1.1.0)
      a.1.0.now r e.1.0.now
  file_check_says r e h = h

-- A FILE'S SIGNATURE. Arguments in order: file
module _ (κs : Lfts 1) (a : ArgsD Rattle.trewizlow_c.specs.contracts.trewizlow_file_read.signature κs) where
  pub file_read_asks : file-read-reads.Asked κs a
  file_read_asks = tt

  pub file_read_says : (r : ResD Rattle.trewizlow_c.specs.contracts.trewizlow_file_read.signature κs)
      (e : AtExit (ended_of 1 file-read-kinds.ps file-read-kinds.r) κs)
      → file-read-reads.Learnt κs a r e → FileShown a.0.now r
  file_read_says r e h = rw h (file_shown a.0.now)

-- THE RECHECK. Arguments in order: signature, start, size, contents, marks
module _ (κs : Lfts 3) (a : ArgsD Rattle.trewizlow_c.specs.contracts.trewizlow_recheck.signature κs) where
  pub recheck_asks : recheck-reads.Asked κs a
  recheck_asks = tt

  pub recheck_says : (r : ResD Rattle.trewizlow_c.specs.contracts.trewizlow_recheck.signature κs)
      (e : AtExit (ended_of 3 recheck-kinds.ps recheck-kinds.r) κs)
      → recheck-reads.Learnt κs a r e
      → Rechecked a.0.now (recheck_of a.1.0 a.1.1.0 a.1.1.1.0.now) a.1.1.1.1.0.now r e.1.1.1.1.0.now
  recheck_says r e h = h

-- A LOOKUP. Arguments in order: signature, slot_type
module _ (κs : Lfts 1) (a : ArgsD Rattle.trewizlow_c.specs.contracts.trewizlow_find.signature κs) where
  pub find_asks : find-reads.Asked κs a
  find_asks = tt

  pub find_says : (r : ResD Rattle.trewizlow_c.specs.contracts.trewizlow_find.signature κs) (e : AtExit (ended_of 1 find-kinds.ps find-kinds.r) κs)
      → find-reads.Learnt κs a r e → BlobShown a.0.now a.1.0 r
  find_says r e h = rw h (blob_shown a.0.now a.1.0)

-- THE DIRECTORY
module _ (κs : Lfts 1) (a : ArgsD Rattle.trewizlow_c.specs.contracts.trewizlow_read.signature κs) where
  pub read_asks : read-reads.Asked κs a
  read_asks = tt

  pub read_says : (r : ResD Rattle.trewizlow_c.specs.contracts.trewizlow_read.signature κs) (e : AtExit (ended_of 1 read-kinds.ps read-kinds.r) κs)
      → read-reads.Learnt κs a r e → DirectoryShown a.0.now r
  read_says r e h = rw h (directory_shown a.0.now)

-- THE DIRECTORY'S HASH
module _ (κs : Lfts 1) (a : ArgsD Rattle.trewizlow_c.specs.contracts.trewizlow_cdhash.signature κs) where
  pub cdhash_asks : cdhash-reads.Asked κs a
  cdhash_asks = tt

  pub cdhash_says : (r : ResD Rattle.trewizlow_c.specs.contracts.trewizlow_cdhash.signature κs) (e : AtExit (ended_of 1 cdhash-kinds.ps cdhash-kinds.r) κs)
      → cdhash-reads.Learnt κs a r e → HashShown a.0.now r
  cdhash_says r e h = rw h (hash_shown a.0.now)
