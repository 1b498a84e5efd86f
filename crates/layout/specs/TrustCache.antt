-- The trust cache: its fields by byte, little-endian. `c` is the lent cache; a byte past its end counts as 0.
use Rattle.std.specs.Prelude.{ℕ, ◌+◌, ◌*◌, ◌<◌, List, ◌≡◌, get_or, take, drop}
use Rattle.endian.specs.Numbers.{little}
use Rattle.layout.specs.declared.cache.CacheHead.{CacheHead}
use Rattle.layout.specs.declared.cache.CacheEntry.{CacheEntry}

-- CONSTANTS OF THE LAYOUT

-- the version that is taken
abbrev pub version_taken : ℕ
version_taken = 2

-- bytes of the head, behind which the entries start
abbrev pub cache_head : ℕ
cache_head = 24

-- bytes of an entry, and of the hash with which it opens (CS_CDHASH_LEN)
abbrev pub entry_size : ℕ
entry_size = 24

abbrev pub cdhash_length : ℕ
cdhash_length = 20

-- THE HEAD

unfoldable pub cache_version : List ℕ → ℕ
cache_version c = little 4 c 0

unfoldable pub entry_count : List ℕ → ℕ
entry_count c = little 4 c 20

-- THE ENTRIES: the hash of entry i, and the bytes behind it

unfoldable pub hash_at : List ℕ → ℕ → List ℕ
hash_at c i = take cdhash_length (drop (cache_head + entry_size * i) c)

unfoldable pub hash_type_at : List ℕ → ℕ → ℕ
hash_type_at c i = get_or c (cache_head + cdhash_length + entry_size * i) 0

unfoldable pub category_at : List ℕ → ℕ → ℕ
category_at c i = get_or c (cache_head + cdhash_length + 2 + entry_size * i) 0

-- WHAT THE CONSTRUCTORS READ

pub record CacheRead (c : List ℕ) (h : CacheHead) : Type 0 where
  pub version_is : h.version ≡ cache_version c
  pub entries_is : h.entries ≡ entry_count c
  pub version_below : h.version < 4294967296
  pub entries_below : h.entries < 4294967296

pub record EntryRead (c : List ℕ) (i : ℕ) (e : CacheEntry) : Type 0 where
  pub hash_type_is : e.hash_type ≡ hash_type_at c i
  pub category_is : e.category ≡ category_at c i
  pub hash_type_below : e.hash_type < 256
  pub category_below : e.category < 256
