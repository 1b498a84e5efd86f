-- Tests 21 to 23 in plain words: each special slot is filled with the digest, by the directory's kind, of the thing that is there, or empty with
-- nothing there.
use Rattle.std.specs.Prelude.{ℕ, ◌<◌, ◌≤◌, true, List, ◌⊎◌, ◌↔◌, ◌≡◌, get_or}
use Rattle.digest.specs.Kinds.{digest_of}
use Rattle.refusals.specs.Refusals.{Passes}
use Rattle.layout.specs.SuperBlob.{count, type_at}
use Rattle.layout.specs.CodeDirectory.{info_slot, resources_slot, hash_type}
use Rattle.superblob.specs.Rows.{blob_at}
use Rattle.superblob.specs.Formed.{Formed}
use Rattle.directory.specs.Rows.{most_special_slots, special_slot}
use Rattle.slots.specs.Slots.{Sides, special_rows}

-- slot k of the directory d is filled: a byte of it is not zero
abbrev pub Filled : List ℕ → ℕ → Type 0
Filled d k = (j : ℕ) × (get_or (special_slot d k) j 0 ≡ 0 → ⊥)

-- or empty: the directory has it not, or all its bytes are zero
abbrev pub Empty : List ℕ → ℕ → Type 0
Empty d k = (j : ℕ) → get_or (special_slot d k) j 0 ≡ 0

-- the thing that slot k covers is there, and b is its bytes: a blob is there where its type stands in the index. Types 4 and 6, of which nothing can
-- be there, stand in no index that is well formed
pub data Thing (s : List ℕ) (x : Sides) : ℕ → List ℕ → Type 0 where
  info_plist : x.info_there ≡ true → Thing s x info_slot x.info
  code_resources : x.resources_there ≡ true → Thing s x resources_slot x.resources
  of_blob : {k : ℕ} (i : ℕ) → (k ≡ info_slot → ⊥) → (k ≡ resources_slot → ⊥) → i < count s → type_at s i ≡ k → Thing s x k (blob_at s i)

-- slot k: filled with the digest of the thing that is there, or empty with nothing there
abbrev pub Matches : List ℕ → List ℕ → Sides → ℕ → Type 0
Matches s d x k =
    (Filled d k × ((b : List ℕ) × (Thing s x k b × (digest_of (hash_type d) b ≡ special_slot d k))))
    ⊎ (Empty d k × ((b : List ℕ) → Thing s x k b → ⊥))

-- tests 21 to 23 pass exactly where every slot from 1 to 11 is so, of a SuperBlob that is well formed
abbrev pub MatchesExactly : Type 0
MatchesExactly = (s d : List ℕ) (x : Sides) → Formed s
    → Passes (special_rows s d x) ↔ ((k : ℕ) → 1 ≤ k → k ≤ most_special_slots → Matches s d x k)
