-- The rules of the trust cache and of the launch constraints as plain conditions, with no order among them.
use Rattle.std.specs.Prelude.{ℕ, ◌+◌, ◌*◌, ◌<◌, ◌≤◌, true, ◌||◌, List, ◌⊎◌, ◌↔◌, ◌≡◌, length}
use Rattle.layout.specs.TrustCache.{version_taken, cache_head, entry_size, cdhash_length, cache_version, entry_count, hash_at, hash_type_at, category_at}
use Rattle.refusals.specs.Refusals.{Passes}
use Rattle.trustcache.specs.declared.launch.Launch.{Launch}
use Rattle.trustcache.specs.Order.{Below}
use Rattle.trustcache.specs.Rows.{most_entries, entry_of}
use Rattle.trustcache.specs.Launch.{unconstrained_category, constrained_category, launch_type_asked, validation_asked}
use Rattle.trustcache.specs.Table.{cache_rows}

-- the cache is well formed
pub record CacheFormed (c : List ℕ) : Type 0 where
  pub has_head : cache_head ≤ length c
  pub version_two : cache_version c ≡ version_taken
  pub few_entries : entry_count c ≤ most_entries
  pub whole : length c ≡ cache_head + entry_size * entry_count c
  -- strictly increasing by their bytes, for every two entries
  pub increasing : (i j : ℕ) → i < j → j < entry_count c → Below (hash_at c i) (hash_at c j)

-- the launch meets the self and the parent constraint
pub record Constrained (facts : Launch) : Type 0 where
  pub volume : (facts.on_authorized_volume || facts.on_system_volume) ≡ true
  pub launch_type : facts.launch_type ≡ launch_type_asked
  pub validation : facts.validation_category ≡ validation_asked
  pub parent : facts.parent_is_init ≡ true

-- the category allows the launch
abbrev pub Allowed : ℕ → Launch → Type 0
Allowed category facts = (category ≡ unconstrained_category) ⊎ ((category ≡ constrained_category) × Constrained facts)

-- an entry of a well-formed cache lists the hash h, byte for byte, under its kind, and its category allows the launch
pub record Listed (c : List ℕ) (kind : ℕ) (h : List ℕ) (facts : Launch) (entry : ℕ) : Type 0 where
  pub form : CacheFormed c
  pub below : entry < entry_count c
  pub hash : hash_at c entry ≡ h
  pub type : hash_type_at c entry ≡ kind
  pub constraints : Allowed (category_at c entry) facts

-- tests 24 to 30 of a hash of 20 bytes pass exactly where the entry that the search finds is so listed, and no other entry is
abbrev pub ListedExactly : Type 0
ListedExactly = (c : List ℕ) (kind : ℕ) (h : List ℕ) (facts : Launch) → length h ≡ cdhash_length
    → (Passes (cache_rows c kind h facts) ↔ Listed c kind h facts (entry_of c h)) × ((entry : ℕ) → Listed c kind h facts entry → entry_of c h ≡ entry)
