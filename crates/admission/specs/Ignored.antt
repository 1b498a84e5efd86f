-- What nothing depends on: image bytes at or past the code limit, padding behind the SuperBlob, gaps between blobs, the contents of alternate
-- directories and of the CMS blob behind their heads, and the bytes of side files that are not there. One statement: all differences at once,
-- and every answer. It is said of checks lent apart, since the walk of a file reads its load commands.
use Rattle.std.specs.Prelude.{ℕ, ◌+◌, ◌<◌, ◌≤◌, true, List, ◌⊎◌, ◌≡◌, length, get_or}
use Rattle.refusals.specs.Refusals.{Passes}
use Rattle.layout.specs.SuperBlob.{first_alternate, last_alternate, cms_type, super_head, blob_head, super_length, count, index_end, type_at, offset_at, blob_length}
use Rattle.directory.specs.Rows.{signature_rows}
use Rattle.admission.specs.Input.{Lent, longest, limit_of}
use Rattle.admission.specs.Check.{check_of}

-- types whose blobs are not read behind their heads: 0x1000 to 0x1004 (alternate directories) and 0x10000 (CMS)
abbrev pub Opaque : ℕ → Type 0
Opaque t = ((first_alternate ≤ t) × (t ≤ last_alternate)) ⊎ (t ≡ cms_type)

-- byte j lies in the head of the blob at position i, whatever length that blob states
abbrev pub InHead : List ℕ → ℕ → ℕ → Type 0
InHead s i j = (offset_at s i ≤ j) × (j < offset_at s i + blob_head)

-- byte j lies in the blob at position i
abbrev pub InBlob : List ℕ → ℕ → ℕ → Type 0
InBlob s i j = (offset_at s i ≤ j) × (j < offset_at s i + blob_length s i)

-- byte j of the signature is free
pub data Free (s : List ℕ) (j : ℕ) : Type 0 where
  -- it is past the SuperBlob's head, and at or past the stated length
  padding : super_head ≤ j → super_length s ≤ j → Free s j
  -- it is past the index, in no blob's head, and in no blob that is read behind its head
  unread : index_end s ≤ j → ((i : ℕ) → i < count s → (InHead s i j → ⊥) × (InBlob s i j → Opaque (type_at s i))) → Free s j

-- two signatures that differ in free bytes alone
pub record SameRead (s t : List ℕ) : Type 0 where
  pub long : length s ≡ length t
  pub bytes : (j : ℕ) → (Free s j → ⊥) → get_or s j 0 ≡ get_or t j 0

-- two whole checks that differ only there
pub record Alike (x y : Lent) : Type 0 where
  pub signatures : SameRead x.signature y.signature
  pub image_long : length x.image ≡ length y.image
  -- there is a code limit where tests 1 to 18 pass
  pub image_bytes : Passes (signature_rows (longest x.sides) x.signature) → (j : ℕ) → j < limit_of x.signature
      → get_or x.image j 0 ≡ get_or y.image j 0
  pub caches : x.cache ≡ y.cache
  pub info_flag : x.sides.info_there ≡ y.sides.info_there
  pub info_bytes : x.sides.info_there ≡ true → x.sides.info ≡ y.sides.info
  pub resources_flag : x.sides.resources_there ≡ y.sides.resources_there
  pub resources_bytes : x.sides.resources_there ≡ true → x.sides.resources ≡ y.sides.resources
  pub launches : x.facts ≡ y.facts

-- give the same answer and leave the same marks
abbrev pub Ignored : Type 0
Ignored = (x y : Lent) (marks : List ℕ) → Alike x y → check_of x marks ≡ check_of y marks
