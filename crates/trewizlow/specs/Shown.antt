-- What the exported readers answer once more. Of a file, by its load commands. Of a signature, by the bytes of document 01: the index for where a
-- blob lies, each field's own byte, the size of a page by its shift, the code limit by its two fields, the identifier by its zero byte; the hash
-- is that of the directory. `f` is the lent file, `s` the lent signature.
use Rattle.std.specs.Prelude.{ℕ, ◌+◌, ◌*◌, ◌^◌, ◌<◌, ◌≤◌, List, [], ◌∷◌, ◌↔◌, ◌≡◌, get_or, take, drop, replicate}
use Rattle.endian.specs.Numbers.{big}
use Rattle.digest.specs.Kinds.{digest_of}
use Rattle.refusals.specs.Refusals.{refuse, accepted, first, Decides, OneOf}
use Rattle.layout.specs.MachO.{dataoff, datasize}
use Rattle.superblob.specs.Rows.{rows, blob}
use Rattle.directory.specs.Rows.{directory, signature_rows}
use Rattle.macho.specs.Rows.{walk_rows}
use Rattle.macho.specs.Walked.{Walked}
use Rattle.trewizlow.specs.declared.FileSignature.{FileSignature}
use Rattle.trewizlow.specs.declared.BlobPart.{BlobPart}
use Rattle.trewizlow.specs.declared.DirectoryFields.{DirectoryFields}
use Rattle.trewizlow.specs.declared.DirectoryHash.{DirectoryHash}

-- A FILE

-- what reading a file shows: the answer of tests 36 to 40, which is 0 exactly where the file's commands are in order and name one signature, and
-- a refusal exactly where its row is the first to hold; and what the command says of the signature, or 0 and 0
pub record FileShown (f : List ℕ) (r : FileSignature) : Type 0 where
  pub answer_is : refuse r.number r.place ≡ first (walk_rows f) accepted
  pub number_is : OneOf (36 ∷ 37 ∷ 38 ∷ 39 ∷ 40 ∷ []) r.number
  pub accepts : (r.number ≡ 0) ↔ Walked f
  pub refuses : (n p : ℕ) → (n ≡ 0 → ⊥) → (refuse r.number r.place ≡ refuse n p) ↔ Decides (walk_rows f) n p
  pub passed : (w : Walked f) → (r.start ≡ dataoff f w.which) × (r.length ≡ datasize f w.which)
  pub refused : (r.number ≡ 0 → ⊥) → (r.start ≡ 0) × (r.length ≡ 0)

-- A BLOB

-- the blob of type t lies at `at` for `size` bytes: at the offset of the one entry of the index that has the type, as long as it states
pub record Lies (s : List ℕ) (t at size : ℕ) : Type 0 where
  pub listed : (i : ℕ) → i < big 4 s 8 → big 4 s (12 + 8 * i) ≡ t → (at ≡ big 4 s (16 + 8 * i)) × (size ≡ big 4 s (at + 4))
  pub missing : ((i : ℕ) → i < big 4 s 8 → big 4 s (12 + 8 * i) ≡ t → ⊥) → (at ≡ 0) × (size ≡ 0)
  pub is_blob : take size (drop at s) ≡ blob s t

-- what a lookup shows: the answer of tests 1 to 9, and where the blob lies, or 0 and 0
pub record BlobShown (s : List ℕ) (t : ℕ) (r : BlobPart) : Type 0 where
  pub answer_is : refuse r.number r.place ≡ first (rows 0 s) accepted
  pub passed : r.number ≡ 0 → Lies s t r.start r.length
  pub refused : (r.number ≡ 0 → ⊥) → (r.start ≡ 0) × (r.length ≡ 0)

-- THE DIRECTORY

-- what is shown of a directory that is read, whose bytes are d
pub record FieldsShown (s d : List ℕ) (r : DirectoryFields) : Type 0 where
  pub lies_at : Lies s 0 r.start r.length
  pub version_is : r.version ≡ big 4 d 8
  pub flags_is : r.flags ≡ big 4 d 12
  pub hash_offset_is : r.hash_offset ≡ big 4 d 16
  pub ident_offset_is : r.ident_offset ≡ big 4 d 20
  pub n_special_slots_is : r.special_slots ≡ big 4 d 24
  pub n_code_slots_is : r.code_slots ≡ big 4 d 28
  -- the code limit: codeLimit64 from version 0x20300 on where it is not 0, and codeLimit else
  pub limit_large : 0x20300 ≤ big 4 d 8 → (big 8 d 56 ≡ 0 → ⊥) → r.code_limit ≡ big 8 d 56
  pub limit_small : (0x20300 ≤ big 4 d 8 → big 8 d 56 ≡ 0) → r.code_limit ≡ big 4 d 32
  pub hash_size_is : r.hash_size ≡ get_or d 36 0
  pub hash_type_is : r.hash_type ≡ get_or d 37 0
  pub platform_is : r.platform ≡ get_or d 38 0
  pub page_size_is : r.page_shift ≡ get_or d 39 0
  -- P
  pub whole_limit : get_or d 39 0 ≡ 0 → r.page_size ≡ r.code_limit
  pub power_of_two : (get_or d 39 0 ≡ 0 → ⊥) → r.page_size ≡ 2 ^ r.page_shift
  -- the identifier ends at its first zero byte, inside the directory
  pub ident_inside : r.ident_offset + r.ident_length < r.length
  pub ident_ends : get_or d (r.ident_offset + r.ident_length) 0 ≡ 0
  pub ident_before : (i : ℕ) → i < r.ident_length → get_or d (r.ident_offset + i) 0 ≡ 0 → ⊥

-- .. and of one that is refused
pub record NoneShown (r : DirectoryFields) : Type 0 where
  pub start_is : r.start ≡ 0
  pub length_is : r.length ≡ 0
  pub version_is : r.version ≡ 0
  pub flags_is : r.flags ≡ 0
  pub hash_offset_is : r.hash_offset ≡ 0
  pub ident_offset_is : r.ident_offset ≡ 0
  pub n_special_slots_is : r.special_slots ≡ 0
  pub n_code_slots_is : r.code_slots ≡ 0
  pub hash_size_is : r.hash_size ≡ 0
  pub hash_type_is : r.hash_type ≡ 0
  pub platform_is : r.platform ≡ 0
  pub page_size_is : r.page_shift ≡ 0
  pub code_limit_is : r.code_limit ≡ 0
  pub P-is : r.page_size ≡ 0
  pub ident_length_is : r.ident_length ≡ 0

-- what reading a signature shows: the answer of tests 1 to 18, and the one or the other
pub record DirectoryShown (s : List ℕ) (r : DirectoryFields) : Type 0 where
  pub answer_is : refuse r.number r.place ≡ first (signature_rows 0 s) accepted
  pub passed : r.number ≡ 0 → FieldsShown s (take r.length (drop r.start s)) r
  pub refused : (r.number ≡ 0 → ⊥) → NoneShown r

-- THE DIRECTORY'S HASH

-- what is shown of it: the answer of tests 1 to 18, and the first 20 bytes of the digest of the whole blob, by the kind in its byte 37, or zeros
pub record HashShown (s : List ℕ) (r : DirectoryHash) : Type 0 where
  pub answer_is : refuse r.number r.place ≡ first (signature_rows 0 s) accepted
  pub passed : r.number ≡ 0 → r.hash ≡ take 20 (digest_of (get_or (directory s) 37 0) (directory s))
  pub refused : (r.number ≡ 0 → ⊥) → r.hash ≡ replicate 20 0
