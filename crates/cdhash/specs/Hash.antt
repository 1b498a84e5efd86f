-- The directory's own hash. `d` is the directory's blob.
use Rattle.std.specs.Prelude.{ℕ, List, take}
use Rattle.digest.specs.Kinds.{digest_of}
use Rattle.layout.specs.CodeDirectory.{hash_type}
use Rattle.layout.specs.TrustCache.{cdhash_length}

-- it covers the whole blob, head included, by the directory's own kind, and is cut to 20 bytes
unfoldable pub cdhash : List ℕ → List ℕ
cdhash d = take cdhash_length (digest_of (hash_type d) d)
