-- A digest has as many bytes as a slot of its kind. Assumes nothing.
use Prim.Native.Nat.{ℕ, ◌-◌, ◌*◌, ◌≤◌}
use mathlib.Core.List.{List, ◌++◌}
use mathlib.Core.Path.{◌≡◌, ◌∙◌}
use native.Mathlib.Omega.{arith}
use lib.ListN.{length, take, replicate}
use lib.Seq.{take_at}
use Rattle.layout.specs.CodeDirectory.{width_of}
use Rattle.sha.proofs.Digests as digests
use Rattle.digest.specs.Kinds.{hash_of, digest_of}
use Rattle.digest.proofs.ByKind.{by_number, width_is}

pub digest_length : (k : ℕ) (m : List ℕ) → length (digest_of k m) ≡ width_of k
unfolding digest_of
digest_length k m = digests.digest_length (hash_of k) m (fits k) ∙ width_is k
  where
    fits : (k : ℕ) → (hash_of k).width ≤ (hash_of k).size * (hash_of k).count
    fits k =
        by_number (λ f. f.width ≤ f.size * f.count) k
        (λ e. omega arith) (λ e. omega arith) (λ e. omega arith) (λ e. omega arith) (λ a b c d. omega arith)

-- so it is the first bytes of what has it and zeros behind it
pub digest_first : (k : ℕ) (m d : List ℕ) → d ≡ digest_of k m ++ replicate (48 - width_of k) 0 → take (width_of k) d ≡ digest_of k m
digest_first k m d e = rw e (take_at (digest_of k m) (replicate (48 - width_of k) 0) (width_of k) (digest_length k m))

-- and what has it alone is all of that, with zeros behind it
pub extended : (k : ℕ) (m d r : List ℕ) → d ≡ digest_of k m → r ≡ d ++ replicate (48 - length d) 0 → r ≡ digest_of k m ++ replicate (48 - width_of k) 0
extended k m d r ed er = er ∙ rw (ed, digest_length k m)
