-- An entry that starts past the end has nothing of its hash; of any other it is what there is of the hash's bytes.
use Prim.Native.Nat.{ℕ, ◌+◌, ◌*◌, ◌≤◌}
use mathlib.Core.List.{List}
use mathlib.Core.Path.{◌≡◌, ◌∙◌}
use native.Mathlib.Nat.{le_refl}
use native.Mathlib.Omega.{arith}
use lib.ListN.{length, take, drop, drop_of_length-le}
use Rattle.layout.specs.TrustCache.{cache_head, entry_size, cdhash_length, hash_at}
use Rattle.layout.proofs.cache.hash_of.Goals as goal

none : (c : List ℕ) (i : ℕ) → length c ≤ cache_head + entry_size * i → take cdhash_length (drop (length c) c) ≡ hash_at c i
unfolding hash_at
none c i h = rw (drop_of_length-le c (le_refl (length c)), drop_of_length-le c h)

pub returns-then-size-i : goal.returns-then-size-i
returns-then-size-i c = c.part.ensures ∙ none _ _ (omega arith)

pub returns : goal.returns
unfolding hash_at
returns c = c.part-2.ensures
