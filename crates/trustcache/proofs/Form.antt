-- Tests 24 and 25 pass exactly where the cache is well formed: each entry is above the one before it, so all entries before it are below it.
use Prim.Native.Nat.{ℕ, zero, suc, ◌+◌, ◌-◌, ◌*◌, ◌<◌, ◌≤◌}
use mathlib.Core.Bool.{false}
use mathlib.Core.List.{List}
use mathlib.Core.Logic.{⊎_elim}
use native.Mathlib.Nat.{eq-or-lt_of_le, le_of_suc-le-suc}
use native.Mathlib.Omega.{arith}
use mathlib.Core.Path.{◌≡◌, subst}
use lib.ListN.{length, drop, length-drop}
use lib.Seq.{length-take-le}
use Rattle.layout.specs.TrustCache.{cache_head, entry_size, cdhash_length, entry_count, hash_at}
use Rattle.refusals.specs.Refusals.{lowest, Passes}
use Rattle.refusals.proofs.Conditions.{said}
use Rattle.refusals.proofs.Positions.{lowest_below, none_fails}
use Rattle.trustcache.specs.Order.{above, order, Below}
use Rattle.trustcache.specs.Rows.{not_above, form_rows}
use Rattle.trustcache.specs.Rules.{CacheFormed}
use Rattle.trustcache.proofs.Order.{below_trans, order_plainly}

adjacent : (c : List ℕ) (n : ℕ) → n ≤ lowest (not_above c) n → (i : ℕ) → suc i < n → Below (hash_at c i) (hash_at c (suc i))
unfolding not_above
adjacent c n h i l =
    let e : suc i - 1 ≡ i = omega arith in
    let s : order (hash_at c (suc i)) (hash_at c (suc i - 1)) ≡ above = said false (not_above c (suc i)) (lowest_below (not_above c) n h (suc i) l) (omega arith) in
    subst (λ (k : ℕ). Below (hash_at c k) (hash_at c (suc i))) e ((order_plainly.is_above (hash_at c (suc i)) (hash_at c (suc i - 1))).0 s)

climbs : (f : ℕ → List ℕ) (n : ℕ) → ((i : ℕ) → suc i < n → Below (f i) (f (suc i))) → (i j : ℕ) → i < j → j < n → Below (f i) (f j)
climbs f n step i zero h l = absurd (omega arith)
climbs f n step i (suc j) h l =
    let s = step j l in
    ⊎_elim (λ q. rw q s) (λ m. below_trans (f i) (f j) (f (suc j)) (climbs f n step i j m (omega arith)) s)
    (eq-or-lt_of_le (le_of_suc-le-suc h))

pub cache_formed : (c : List ℕ) → Passes (form_rows c) → CacheFormed c
unfolding form_rows
cache_formed c p =
    record {
      has_head = omega arith;
      version_two = omega arith;
      few_entries = omega arith;
      whole = omega arith;
      increasing = climbs (hash_at c) (entry_count c) (adjacent c (entry_count c) p.1.0);
    }

in_order : (c : List ℕ) → CacheFormed c → lowest (not_above c) (entry_count c) ≡ entry_count c
unfolding not_above
in_order c f =
    none_fails (not_above c) (entry_count c)
    (λ k l u. (order_plainly.is_above (hash_at c k) (hash_at c (k - 1))).1 (f.increasing (k - 1) k (omega arith) l))

pub formed_passes : (c : List ℕ) → CacheFormed c → Passes (form_rows c)
unfolding form_rows
formed_passes c f = let q = in_order c f in omega arith

-- an entry of a cache that holds all its entries has a whole hash
pub hash_length : (c : List ℕ) (i : ℕ) → cache_head + entry_size * entry_count c ≤ length c → i < entry_count c → length (hash_at c i) ≡ cdhash_length
unfolding hash_at
hash_length c i f l =
    let start = cache_head + entry_size * i in
    length-take-le cdhash_length (drop start c) (omega (arith, length-drop start c))
