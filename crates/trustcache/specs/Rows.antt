-- Tests 24 to 28: the form of a trust cache, and the entry that lists a directory (document 01, "Trust cache and launch constraints").
-- `c` is the lent cache; `kind` is the directory's hash kind, and `h` its hash, cut to 20 bytes.
use Rattle.std.specs.Prelude.{ℕ, ◌+◌, ◌-◌, ◌*◌, List, [], ◌∷◌, length}
use Rattle.layout.specs.TrustCache.{version_taken, cache_head, entry_size, cache_version, entry_count, hash_at, hash_type_at, category_at}
use Rattle.trustcache.specs.Order.{equal, above, order}
use Rattle.trustcache.specs.Launch.{constrained_category}
use Rattle.refusals.specs.Refusals.{Cond, ◌<?◌, ◌≡?◌, ◌≢?◌, ◌and◌, ◌or◌, lowest, Row, row, over}

-- LIMITS

-- the most entries that a cache may have
abbrev pub most_entries : ℕ
most_entries = 65536

-- the highest constraint category
abbrev pub highest_category : ℕ
highest_category = constrained_category

-- TESTS 24 AND 25

-- entry i is not above the one before
unfoldable pub not_above : List ℕ → ℕ → Cond
not_above c i = 0 <? i and order (hash_at c i) (hash_at c (i - 1)) ≢? above

-- the cache's form, and the order of its entries
unfoldable pub form_rows : List ℕ → List Row
form_rows c =
    row 24 (length c <? cache_head or cache_version c ≢? version_taken or most_entries <? entry_count c or length c ≢? cache_head + entry_size * entry_count c) 0
    ∷ over 25 (entry_count c) (not_above c)
    ∷ []

-- TESTS 26 TO 28

-- entry i has the hash
unfoldable pub has_hash : List ℕ → List ℕ → ℕ → Cond
has_hash c h i = order (hash_at c i) h ≡? equal

-- the entry that has the hash; the number of entries where none has
unfoldable pub entry_of : List ℕ → List ℕ → ℕ
entry_of c h = lowest (has_hash c h) (entry_count c)

-- the directory's entry, its hash type and its category
unfoldable pub lookup_rows : List ℕ → ℕ → List ℕ → List Row
lookup_rows c kind h =
    row 26 (entry_of c h ≡? entry_count c) 0
    ∷ row 27 (hash_type_at c (entry_of c h) ≢? kind) (entry_of c h)
    ∷ row 28 (highest_category <? category_at c (entry_of c h)) (category_at c (entry_of c h))
    ∷ []
