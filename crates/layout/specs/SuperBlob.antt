-- The SuperBlob: its fields by byte, big-endian. `s` is the lent signature; a byte past its end counts as 0.
use Rattle.std.specs.Prelude.{ℕ, ◌+◌, ◌*◌, ◌<◌, List, ◌≡◌}
use Rattle.endian.specs.Numbers.{big}
use Rattle.layout.specs.declared.superblob.SuperBlob.{SuperBlob}
use Rattle.layout.specs.declared.superblob.BlobIndex.{BlobIndex}
use Rattle.layout.specs.declared.superblob.Blob.{Blob}

-- CONSTANTS OF THE LAYOUT

-- CSMAGIC_EMBEDDED_SIGNATURE
abbrev pub super_magic : ℕ
super_magic = 0xFADE0CC0

-- bytes of the SuperBlob's head, behind which the index starts
abbrev pub super_head : ℕ
super_head = 12

-- bytes of an index entry
abbrev pub index_entry : ℕ
index_entry = 8

-- bytes of a blob's head: magic and length
abbrev pub blob_head : ℕ
blob_head = 8

-- the magics of the blobs beside the directory, by Apple's names without CSMAGIC and EMBEDDED
abbrev pub requirements_magic : ℕ
requirements_magic = 0xFADE0C01

abbrev pub entitlements_magic : ℕ
entitlements_magic = 0xFADE7171

abbrev pub der_entitlements_magic : ℕ
der_entitlements_magic = 0xFADE7172

abbrev pub launch_constraint_magic : ℕ
launch_constraint_magic = 0xFADE8181

abbrev pub blob_wrapper_magic : ℕ
blob_wrapper_magic = 0xFADE0B01

-- slot types whose blobs are not read behind their heads: the alternate directories (CSSLOT_ALTERNATE_CODEDIRECTORIES and the four behind it), and
-- the CMS signature (CSSLOT_SIGNATURESLOT)
abbrev pub first_alternate : ℕ
first_alternate = 0x1000

abbrev pub last_alternate : ℕ
last_alternate = 0x1004

abbrev pub cms_type : ℕ
cms_type = 0x10000

-- THE HEAD

unfoldable pub magic : List ℕ → ℕ
magic s = big 4 s 0

unfoldable pub super_length : List ℕ → ℕ
super_length s = big 4 s 4

unfoldable pub count : List ℕ → ℕ
count s = big 4 s 8

-- THE INDEX

-- where it ends
unfoldable pub index_end : List ℕ → ℕ
index_end s = super_head + index_entry * count s

-- the type and the offset at position i
unfoldable pub type_at : List ℕ → ℕ → ℕ
type_at s i = big 4 s (super_head + index_entry * i)

unfoldable pub offset_at : List ℕ → ℕ → ℕ
offset_at s i = big 4 s (super_head + 4 + index_entry * i)

-- THE BLOBS

-- the magic and the length of the blob at position i of the index
unfoldable pub blob_magic : List ℕ → ℕ → ℕ
blob_magic s i = big 4 s (offset_at s i)

unfoldable pub blob_length : List ℕ → ℕ → ℕ
blob_length s i = big 4 s (offset_at s i + 4)

-- WHAT THE CONSTRUCTORS READ

pub record HeadRead (s : List ℕ) (h : SuperBlob) : Type 0 where
  pub magic_is : h.magic ≡ magic s
  pub length_is : h.length ≡ super_length s
  pub count_is : h.count ≡ count s
  pub magic_below : h.magic < 4294967296
  pub length_below : h.length < 4294967296
  pub count_below : h.count < 4294967296

pub record IndexRead (s : List ℕ) (i : ℕ) (e : BlobIndex) : Type 0 where
  pub slot_type_is : e.slot_type ≡ type_at s i
  pub offset_is : e.offset ≡ offset_at s i
  pub slot_type_below : e.slot_type < 4294967296
  pub offset_below : e.offset < 4294967296

pub record BlobRead (s : List ℕ) (at : ℕ) (b : Blob) : Type 0 where
  pub magic_is : b.magic ≡ big 4 s at
  pub length_is : b.length ≡ big 4 s (at + 4)
  pub magic_below : b.magic < 4294967296
  pub length_below : b.length < 4294967296
