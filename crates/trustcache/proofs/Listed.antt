-- Tests 24 to 30 pass exactly where an entry lists the hash and allows the launch. Entries increase, so the entry that lists a hash is the one
-- that the search finds; the rest is the tests' conditions, turned round.
use Prim.Native.Nat.{ℕ, ◌<◌, ◌≤◌}
use mathlib.Core.List.{List, ◌++◌}
use mathlib.Core.Path.{◌≡◌, sym}
use native.Mathlib.Omega.{arith}
use lib.ListN.{length}
use Rattle.layout.specs.TrustCache.{cdhash_length, entry_count, hash_at, category_at}
use Rattle.refusals.specs.Refusals.{Passes}
use Rattle.refusals.proofs.Joined.{append_passes, passes_append}
use Rattle.refusals.proofs.Positions.{lowest_most}
use Rattle.trustcache.specs.declared.launch.Launch.{Launch}
use Rattle.trustcache.specs.Rows.{form_rows, has_hash, entry_of, lookup_rows}
use Rattle.trustcache.specs.Launch.{launch_rows}
use Rattle.trustcache.specs.Table.{cache_rows}
use Rattle.trustcache.specs.Rules.{Listed, ListedExactly}
use Rattle.trustcache.proofs.Order.{equal_bytes, bytes_equal}
use Rattle.trustcache.proofs.Form.{cache_formed, formed_passes, hash_length}
use Rattle.trustcache.proofs.Constraints.{allowed, allowed_passes}
use Rattle.trustcache.proofs.Lookup.{entry_has, entry_at}

entry_most : (c h : List ℕ) → entry_of c h ≤ entry_count c
unfolding entry_of
entry_most c h = lowest_most (has_hash c h) (entry_count c)

module _ (c : List ℕ) (kind : ℕ) (h : List ℕ) (facts : Launch) where
  -- where the tests pass, the entry that the search finds lists the hash
  listed : length h ≡ cdhash_length → Passes (cache_rows c kind h facts) → Listed c kind h facts (entry_of c h)
  unfolding cache_rows lookup_rows
  listed n p =
      let w = append_passes (form_rows c) (lookup_rows c kind h ++ launch_rows (category_at c (entry_of c h)) facts) p in
      let q = append_passes (lookup_rows c kind h) (launch_rows (category_at c (entry_of c h)) facts) w.1 in
      let l : entry_of c h < entry_count c = omega (arith, entry_most c h, q.0) in
      let f = cache_formed c w.0 in
      record {
        form = f;
        below = l;
        hash = equal_bytes (hash_at c (entry_of c h)) h (hash_length c (entry_of c h) (omega (arith, f.whole)) l) n (entry_has c h l);
        type = omega (arith, q.0);
        constraints = allowed (category_at c (entry_of c h)) facts (omega (arith, q.0)) q.1;
      }

  -- the search finds the entry that lists the hash
  entry_found : (entry : ℕ) → Listed c kind h facts entry → entry_of c h ≡ entry
  entry_found entry w = sym (entry_at c h entry w.form w.below (bytes_equal (hash_at c entry) h w.hash))

  found_passes : Listed c kind h facts (entry_of c h) → Passes (cache_rows c kind h facts)
  unfolding cache_rows lookup_rows
  found_passes w =
      let a = allowed_passes (category_at c (entry_of c h)) facts w.constraints in
      passes_append (form_rows c) (lookup_rows c kind h ++ launch_rows (category_at c (entry_of c h)) facts) (formed_passes c w.form)
      (passes_append (lookup_rows c kind h) (launch_rows (category_at c (entry_of c h)) facts) (omega (arith, w.below, w.type, a.0)) a.1)

pub listed_exactly : ListedExactly
listed_exactly c kind h facts n = ((listed c kind h facts n, found_passes c kind h facts), entry_found c kind h facts)
