-- What the checker reads from the contract of `find`, which no function here calls: it asks nothing, and hands back what `Lookups` speaks of.
-- Assumes nothing.
use mathlib.Core.Path.{◌≡◌}
use contract.Lifetimes.{Lfts}
use denote.Triple.Clauses.{AtExit}
use borrow.Fn.World.{ArgsD, ResD}
use borrow.Fn.Kinds.{ended_of}
use Rattle.superblob.specs.Rows.{blob}
use Rattle.superblob.proofs.find.Reads as find-reads
use Rattle.superblob.proofs.find.Kinds as find-kinds

-- arguments in order: signature, slot type
module _ (κs : Lfts 1) (a : ArgsD Rattle.superblob.specs.contracts.find.signature κs) where
  pub find_asks : find-reads.Asked κs a
  find_asks = tt

  pub find_says : (r : ResD Rattle.superblob.specs.contracts.find.signature κs) (e : AtExit (ended_of 1 find-kinds.ps find-kinds.r) κs)
      → find-reads.Learnt κs a r e → r.now ≡ blob a.0.now a.1.0
  find_says r e h = h
