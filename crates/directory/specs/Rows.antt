-- Tests 10 to 18 of document 01, and the slots. Of document 02's tests 46 stands after 14 and 35 after 15: a range of tests goes by this
-- table, so that "tests 1 to 18" has both. `d` is the directory's blob, `s` the lent signature, and `side` the length of the longest side
-- file that is there, 0 where none is.
use Rattle.std.specs.Prelude.{ℕ, ◌+◌, ◌-◌, ◌*◌, List, [], ◌∷◌, ◌++◌, cond, length, get_or, take, drop}
use Rattle.std.specs.Int.Bits.{bit_or}
use Rattle.refusals.specs.Refusals.{◌<?◌, ◌≤?◌, ◌≡?◌, ◌≢?◌, ◌and◌, ◌or◌, Cond, holds, lowest, Row, row}
use Rattle.layout.specs.SuperBlob.{count}
use Rattle.layout.specs.CodeDirectory.{directory_type, sha1_type, sha256_type, truncated_type, sha384_type, allowed_flags, slot_width, version_end, version, flags, hash_offset, ident_offset, n_special_slots, n_code_slots, hash_size, hash_type, page_size, scatter_offset, code_limit64}
use Rattle.superblob.specs.Rows.{rows, position, blob_of}
use Rattle.directory.specs.Head.{first_version, last_version, scatter_version, limit64_version, head_of, since}
use Rattle.directory.specs.Pages.{most_code_limit, pages}

-- LIMITS

-- pages, and so code slots
abbrev pub most_pages : ℕ
most_pages = 1048576

abbrev pub most_special_slots : ℕ
most_special_slots = 11

-- THE DIRECTORY: the blob at the position of type 0
abbrev pub directory : List ℕ → List ℕ
directory s = blob_of s directory_type

-- THE HASH: its kind is another than the four, or its size is not the kind's own
unfoldable pub hash_outside : List ℕ → Cond
hash_outside d =
    (hash_type d ≢? sha1_type and hash_type d ≢? sha256_type and hash_type d ≢? truncated_type and hash_type d ≢? sha384_type)
    or hash_size d ≢? slot_width d

-- THE FLAGS: they hold a bit outside the allowed ones (specs/Flags.antt says it bit by bit)
abbrev pub flags_outside : List ℕ → Cond
flags_outside d = bit_or (flags d) allowed_flags ≢? allowed_flags

-- THE SLOTS

-- code slot i, from 0
unfoldable pub code_slot : List ℕ → ℕ → List ℕ
code_slot d i = take (slot_width d) (drop (hash_offset d + slot_width d * i) d)

-- special slot k, from 1 to nSpecialSlots; nothing where k is another number
unfoldable pub special_slot : List ℕ → ℕ → List ℕ
special_slot d k = cond (holds (1 ≤? k and k ≤? n_special_slots d)) (take (slot_width d) (drop (hash_offset d - slot_width d * k) d)) []

-- the code slots, one after the other
unfoldable pub code_slots : List ℕ → List ℕ
code_slots d = take (slot_width d * n_code_slots d) (drop (hash_offset d) d)

-- the special slots, where there are any, lie from hashOffset - slot_width * nSpecialSlots up to hashOffset: one of them reaches before the
-- head's end or past the directory
unfoldable pub special_outside : List ℕ → Cond
special_outside d =
    0 <? n_special_slots d and (hash_offset d <? head_of d + slot_width d * n_special_slots d or length d <? hash_offset d)

-- .. and the code slots from hashOffset up to hashOffset + slot_width * nCodeSlots
unfoldable pub code_outside : List ℕ → Cond
code_outside d =
    0 <? n_code_slots d and (hash_offset d <? head_of d or length d <? hash_offset d + slot_width d * n_code_slots d)

-- THE IDENTIFIER

-- byte i of it is zero
unfoldable pub zero_at : List ℕ → ℕ → Cond
zero_at d i = get_or d (ident_offset d + i) 0 ≡? 0

-- its bytes before the zero byte; all up to the directory's end where there is none
unfoldable pub ident_length : List ℕ → ℕ
ident_length d = lowest (zero_at d) (length d - ident_offset d)

-- THE TABLE

unfoldable pub field_rows : List ℕ → List Row
field_rows d =
    row 11 (version_end ≤? length d and (version d <? first_version or last_version <? version d)) 0
    ∷ row 12 (length d <? version_end or length d <? head_of d) 0
    ∷ row 13 (hash_outside d) 0
    ∷ row 14 (page_size d ≢? 0 and page_size d ≢? 12 and page_size d ≢? 14) 0
    ∷ row 46 (flags_outside d) 0
    ∷ row 15 (most_code_limit <? since limit64_version code_limit64 d) 0
    ∷ row 35 (since scatter_version scatter_offset d ≢? 0) 0
    ∷ []

unfoldable pub slot_rows : List ℕ → List Row
slot_rows d =
    row 16 (n_code_slots d ≢? pages d or most_pages <? n_code_slots d or most_special_slots <? n_special_slots d) 0
    ∷ row 17 (special_outside d or code_outside d) 0
    ∷ row 18 (ident_offset d <? head_of d or ident_length d ≡? length d - ident_offset d) 0
    ∷ []

-- tests 11 to 18, of the directory's blob
unfoldable pub blob_rows : List ℕ → List Row
blob_rows d = field_rows d ++ slot_rows d

-- tests 10 to 18, of the signature
unfoldable pub directory_rows : List ℕ → List Row
directory_rows s = row 10 (count s ≤? position s directory_type) 0 ∷ blob_rows (directory s)

-- tests 1 to 18
unfoldable pub signature_rows : ℕ → List ℕ → List Row
signature_rows side s = rows side s ++ directory_rows s
