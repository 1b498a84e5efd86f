-- A digest by a known kind has the 20 bytes to which it is cut.
use Prim.Native.Nat.{ℕ, ◌≤◌}
use mathlib.Core.List.{List, ◌++◌}
use mathlib.Core.Path.{◌≡◌, ap, ◌∙◌}
use native.Mathlib.Omega.{arith}
use lib.ListN.{length, take}
use lib.Seq.{take-append-le, length-take-le}
use Rattle.layout.specs.CodeDirectory.{KnownKind, hash_type}
use Rattle.layout.specs.TrustCache.{cdhash_length}
use Rattle.layout.proofs.Widths.{known_width}
use Rattle.digest.specs.Kinds.{digest_of}
use Rattle.digest.proofs.Digests.{digest_length}
use Rattle.cdhash.specs.Hash.{cdhash}

long_enough : (kind : ℕ) (m : List ℕ) → KnownKind kind → cdhash_length ≤ length (digest_of kind m)
long_enough kind m k = omega (arith, digest_length kind m, known_width kind k)

pub length_cdhash : (d : List ℕ) → KnownKind (hash_type d) → length (cdhash d) ≡ cdhash_length
unfolding cdhash
length_cdhash d k = length-take-le cdhash_length (digest_of (hash_type d) d) (long_enough (hash_type d) d k)

-- what stands behind a digest is cut off too
pub cut_digest : (kind : ℕ) (d zeros : List ℕ) → kind ≡ hash_type d → KnownKind (hash_type d) → take cdhash_length (digest_of kind d ++ zeros) ≡ cdhash d
unfolding cdhash
cut_digest kind d zeros e k =
    ap (λ (n : ℕ). take cdhash_length (digest_of n d ++ zeros)) e
    ∙ take-append-le cdhash_length (digest_of (hash_type d) d) zeros (long_enough (hash_type d) d k)
