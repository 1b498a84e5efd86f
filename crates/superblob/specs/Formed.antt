-- A SuperBlob that is well formed, in plain conditions with no order among them: what tests 1 to 9 ask of a signature.
use Rattle.std.specs.Prelude.{ℕ, ◌+◌, ◌<◌, ◌≤◌, List, ◌⊎◌, ◌↔◌, ◌≡◌, length}
use Rattle.refusals.specs.Refusals.{Passes}
use Rattle.layout.specs.SuperBlob.{super_magic, super_head, blob_head, magic, super_length, count, index_end, type_at, offset_at, blob_magic, blob_length}
use Rattle.superblob.specs.Rows.{most_signature, most_side, most_blobs, magic_of, rows}

-- the blob at position i of the index has a known type and that type's magic, and lies between the index and the SuperBlob's end
pub record Inside (s : List ℕ) (i : ℕ) : Type 0 where
  pub known : magic_of (type_at s i) ≡ 0 → ⊥
  pub right_magic : blob_magic s i ≡ magic_of (type_at s i)
  pub after_index : index_end s ≤ offset_at s i
  pub has_head : blob_head ≤ blob_length s i
  pub ends_inside : offset_at s i + blob_length s i ≤ super_length s

pub record Formed (s : List ℕ) : Type 0 where
  pub long : super_head ≤ length s
  pub short : length s ≤ most_signature
  pub right_magic : magic s ≡ super_magic
  pub some_blob : count s ≡ 0 → ⊥
  pub few_blobs : count s ≤ most_blobs
  pub holds_index : index_end s ≤ super_length s
  pub lent : super_length s ≤ length s
  pub inside : (i : ℕ) → i < count s → Inside s i
  -- no two positions have one type
  pub distinct : (i j : ℕ) → i < j → j < count s → type_at s i ≡ type_at s j → ⊥
  -- and of their blobs one ends before the other starts
  pub apart : (i j : ℕ) → i < j → j < count s → (offset_at s i + blob_length s i ≤ offset_at s j) ⊎ (offset_at s j + blob_length s j ≤ offset_at s i)

-- tests 1 to 9 pass exactly then, where no side file is too long
abbrev pub FormedExactly : Type 0
FormedExactly = (side : ℕ) (s : List ℕ) → Passes (rows side s) ↔ (Formed s × (side ≤ most_side))
