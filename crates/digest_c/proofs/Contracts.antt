-- What the checker reads from the contract of `trewizlow_digest`: what it asks follows from nothing, and what a caller learns is the digest by the
-- kind; by kind 2 that is section 6.2 of FIPS 180-4, written out. Assumes nothing.
use Prim.Native.Nat.{ℕ, ◌-◌}
use mathlib.Core.Path.{◌≡◌}
use mathlib.Core.List.{List, ◌++◌}
use contract.Lifetimes.{Lfts}
use denote.Triple.Clauses.{AtExit}
use borrow.Fn.World.{ArgsD, ResD}
use borrow.Fn.Kinds.{ended_of}
use lib.ListN.{take, replicate}
use Rattle.refusals.specs.Ranges.{lookup}
use Rattle.layout.specs.CodeDirectory.{sha256_type, slot_widths, width_of}
use Rattle.sha.specs.Message.{padded, all_bytes}
use Rattle.sha.specs.Hash.{chained, digest}
use Rattle.sha.specs.Sha2.{h256, sha256}
use Rattle.digest.specs.Kinds.{hash_of, digest_of}
use Rattle.digest_c.proofs.trewizlow_digest.Reads as digest-reads
use Rattle.digest_c.proofs.trewizlow_digest.Kinds as digest-kinds

-- the 32 bytes of the hash value, 8 words of 4 bytes, after every block of the padded message, and 16 zeros
plainly_256 : (kind : ℕ) (m out : List ℕ) → kind ≡ sha256_type → out ≡ digest_of kind m ++ replicate (48 - width_of kind) 0
    → out ≡ take 32 (all_bytes 4 8 (chained sha256 h256 (padded 4 m))) ++ replicate 16 0
unfolding digest digest_of hash_of width_of slot_widths lookup
plainly_256 kind m out e h = rw e at h

-- arguments in order: kind, message, out
module _ (κs : Lfts 2) (a : ArgsD Rattle.digest_c.specs.contracts.trewizlow_digest.signature κs) where
  pub digest_asks : digest-reads.Asked κs a
  digest_asks = tt

  module _ (r : ResD Rattle.digest_c.specs.contracts.trewizlow_digest.signature κs) (e : AtExit (ended_of 2 digest-kinds.ps digest-kinds.r) κs)
      (h : digest-reads.Learnt κs a r e) where
    pub digest_says : e.1.1.0.now ≡ digest_of a.0 a.1.0.now ++ replicate (48 - width_of a.0) 0
    digest_says = h

    pub says_256 : a.0 ≡ sha256_type → e.1.1.0.now ≡ take 32 (all_bytes 4 8 (chained sha256 h256 (padded 4 a.1.0.now))) ++ replicate 16 0
    says_256 k = plainly_256 a.0 a.1.0.now e.1.1.0.now k h
