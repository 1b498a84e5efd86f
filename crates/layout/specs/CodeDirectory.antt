-- The CodeDirectory: its fields by byte, big-endian. `d` is the directory's blob; a byte past its end counts as 0.
use Rattle.std.specs.Prelude.{ℕ, ◌<◌, List, [], ◌∷◌, ◌⊎◌, ◌≡◌, get_or}
use Rattle.endian.specs.Numbers.{big}
use Rattle.refusals.specs.Ranges.{Range, range, lookup}
use Rattle.layout.specs.declared.directory.CodeDirectory.{CodeDirectory}
use Rattle.layout.specs.declared.kinds.HashKind.{HashKind}
use Rattle.layout.specs.declared.kinds.HashKind.TheVariants as kind

-- CONSTANTS OF THE LAYOUT

-- CSMAGIC_CODEDIRECTORY
abbrev pub directory_magic : ℕ
directory_magic = 0xFADE0C02

-- the slot type of the directory that is checked (CSSLOT_CODEDIRECTORY)
abbrev pub directory_type : ℕ
directory_type = 0

-- the flags that a directory may hold (CS_ALLOWED_MACHO)
abbrev pub allowed_flags : ℕ
allowed_flags = 0x33F02

-- where the version ends: what a directory needs for its version to be read
abbrev pub version_end : ℕ
version_end = 12

-- the special slots of the two side files (CSSLOT_INFOSLOT, CSSLOT_RESOURCEDIR)
abbrev pub info_slot : ℕ
info_slot = 1

abbrev pub resources_slot : ℕ
resources_slot = 3

-- HASH KINDS, by the number that hashType holds

-- CS_HASHTYPE_SHA1, CS_HASHTYPE_SHA256, CS_HASHTYPE_SHA256_TRUNCATED, CS_HASHTYPE_SHA384
abbrev pub sha1_type : ℕ
sha1_type = 1

abbrev pub sha256_type : ℕ
sha256_type = 2

abbrev pub truncated_type : ℕ
truncated_type = 3

abbrev pub sha384_type : ℕ
sha384_type = 4

abbrev pub kind_number : HashKind → ℕ
kind_number kind.Sha1 = sha1_type
kind_number kind.Sha256 = sha256_type
kind_number kind.Sha256Truncated = truncated_type
kind_number kind.Sha384 = sha384_type

-- a kind is one of these
abbrev pub KnownKind : ℕ → Type 0
KnownKind kind = (kind ≡ sha1_type) ⊎ ((kind ≡ sha256_type) ⊎ ((kind ≡ truncated_type) ⊎ (kind ≡ sha384_type)))

-- bytes of a slot
unfoldable pub slot_widths : List Range
slot_widths =
    range sha1_type sha1_type 20
    ∷ range sha256_type sha256_type 32
    ∷ range truncated_type truncated_type 20
    ∷ range sha384_type sha384_type 48
    ∷ []

-- .. 0 for a kind that is not known
unfoldable pub width_of : ℕ → ℕ
width_of kind = lookup slot_widths 0 kind

-- THE FIELDS

unfoldable pub version : List ℕ → ℕ
version d = big 4 d 8

unfoldable pub flags : List ℕ → ℕ
flags d = big 4 d 12

unfoldable pub hash_offset : List ℕ → ℕ
hash_offset d = big 4 d 16

unfoldable pub ident_offset : List ℕ → ℕ
ident_offset d = big 4 d 20

unfoldable pub n_special_slots : List ℕ → ℕ
n_special_slots d = big 4 d 24

unfoldable pub n_code_slots : List ℕ → ℕ
n_code_slots d = big 4 d 28

-- codeLimit: one of the two fields of which the code limit is chosen
unfoldable pub code_limit32 : List ℕ → ℕ
code_limit32 d = big 4 d 32

unfoldable pub hash_size : List ℕ → ℕ
hash_size d = get_or d 36 0

unfoldable pub hash_type : List ℕ → ℕ
hash_type d = get_or d 37 0

unfoldable pub platform : List ℕ → ℕ
platform d = get_or d 38 0

unfoldable pub page_size : List ℕ → ℕ
page_size d = get_or d 39 0

unfoldable pub scatter_offset : List ℕ → ℕ
scatter_offset d = big 4 d 44

unfoldable pub code_limit64 : List ℕ → ℕ
code_limit64 d = big 8 d 56

-- bytes of each of its slots, by its kind
unfoldable pub slot_width : List ℕ → ℕ
slot_width d = width_of (hash_type d)

-- what the constructor reads
pub record DirectoryRead (d : List ℕ) (h : CodeDirectory) : Type 0 where
  pub version_is : h.version ≡ version d
  pub flags_is : h.flags ≡ flags d
  pub hash_offset_is : h.hash_offset ≡ hash_offset d
  pub ident_offset_is : h.ident_offset ≡ ident_offset d
  pub n_special_slots_is : h.special_slots ≡ n_special_slots d
  pub n_code_slots_is : h.code_slots ≡ n_code_slots d
  pub code_limit32_is : h.code_limit32 ≡ code_limit32 d
  pub hash_size_is : h.hash_size ≡ hash_size d
  pub hash_type_is : h.hash_type ≡ hash_type d
  pub platform_is : h.platform ≡ platform d
  pub page_size_is : h.page_shift ≡ page_size d
  pub scatter_offset_is : h.scatter_offset ≡ scatter_offset d
  pub code_limit64_is : h.code_limit64 ≡ code_limit64 d
  pub version_below : h.version < 4294967296
  pub flags_below : h.flags < 4294967296
  pub hash_offset_below : h.hash_offset < 4294967296
  pub ident_offset_below : h.ident_offset < 4294967296
  pub n_special_slots_below : h.special_slots < 4294967296
  pub n_code_slots_below : h.code_slots < 4294967296
  pub code_limit32_below : h.code_limit32 < 4294967296
  pub hash_size_below : h.hash_size < 256
  pub hash_type_below : h.hash_type < 256
  pub platform_below : h.platform < 256
  pub page_size_below : h.page_shift < 256
  pub scatter_offset_below : h.scatter_offset < 4294967296
