-- Hash kinds, by the number that a code directory gives (hashType): 1 SHA-1, 2 SHA-256, 3 SHA-256 cut to 20 bytes, 4 SHA-384.
use Rattle.std.specs.Prelude.{ℕ, cond, List, [], ◌≡◌, eqb, take}
use Rattle.layout.specs.CodeDirectory.{sha1_type, sha256_type, truncated_type, sha384_type, width_of}
use Rattle.sha.specs.Hash.{Hash, cut_to, digest}
use Rattle.sha.specs.Sha1.{sha1}
use Rattle.sha.specs.Sha2.{sha256, sha384}

-- no function: its digests have no bytes
abbrev pub none : Hash
none = record { size = 4; block = λ h ms. h; start = []; count = 0; width = 0 }

unfoldable pub hash_of : ℕ → Hash
hash_of kind =
    cond (eqb kind sha1_type) sha1
    (cond (eqb kind sha256_type) sha256 (cond (eqb kind truncated_type) (cut_to 20 sha256) (cond (eqb kind sha384_type) sha384 none)))

-- the digest of a message by a kind
unfoldable pub digest_of : ℕ → List ℕ → List ℕ
digest_of kind m = digest (hash_of kind) m

-- that is, by each kind
pub record KindsPlainly : Type 0 where
  pub by_sha1 : (m : List ℕ) → digest_of sha1_type m ≡ digest sha1 m
  pub by_sha256 : (m : List ℕ) → digest_of sha256_type m ≡ digest sha256 m
  pub by_truncated : (m : List ℕ) → digest_of truncated_type m ≡ take 20 (digest sha256 m)
  pub by_sha384 : (m : List ℕ) → digest_of sha384_type m ≡ digest sha384 m
  -- a kind that is not known, whose slots have no bytes, has a digest of no bytes
  pub unknown : (kind : ℕ) → width_of kind ≡ 0 → (m : List ℕ) → digest_of kind m ≡ []
