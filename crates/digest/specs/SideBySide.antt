-- When four messages can be hashed side by side. Digests are the same either way: this is about time alone.
use Rattle.std.specs.Prelude.{ℕ, ◌≤◌, List, ◌≡◌, length}
use Rattle.layout.specs.CodeDirectory.{width_of}
use Rattle.sha.specs.Hash.{cut_to}
use Rattle.sha.specs.Sha2.{sha256}
use Rattle.digest.specs.Kinds.{hash_of}

-- the kind is a cut of SHA-256, and the messages have one length
pub record SideBySide (kind : ℕ) (a b c d : List ℕ) : Type 0 where
  pub cut : hash_of kind ≡ cut_to (width_of kind) sha256
  pub narrow : width_of kind ≤ 32
  pub second : length b ≡ length a
  pub third : length c ≡ length a
  pub fourth : length d ≡ length a
