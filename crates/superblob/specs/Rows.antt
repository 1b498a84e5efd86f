-- Tests 1 to 9 of document 01, and the lookup of a blob. `s` is the lent signature, and `side` the length of the longest side file
-- that is there, 0 where none is.
use Rattle.std.specs.Prelude.{ℕ, Option, MatchOption, ◌+◌, ◌-◌, ◌<◌, ◌≤◌, List, [], ◌∷◌, ◌++◌, ◌≡◌, length, take, drop}
use Rattle.std.specs.Option.{is_some}
use Rattle.refusals.specs.Ranges.{Range, range, lookup}
use Rattle.refusals.specs.Refusals.{◌<?◌, ◌≡?◌, ◌≢?◌, ◌and◌, ◌or◌, Cond, holds, pick, lowest, Row, row, over, first, accepted}
use Rattle.layout.specs.SuperBlob.{super_magic, super_head, blob_head, requirements_magic, entitlements_magic, der_entitlements_magic, launch_constraint_magic, blob_wrapper_magic, first_alternate, last_alternate, cms_type, magic, super_length, count, index_end, type_at, offset_at, blob_magic, blob_length}
use Rattle.layout.specs.CodeDirectory.{directory_magic, directory_type}
use Rattle.superblob.specs.declared.Span.{Span}

-- LIMITS

-- bytes of a signature
abbrev pub most_signature : ℕ
most_signature = 67108864

-- bytes of a side file
abbrev pub most_side : ℕ
most_side = 4194304

-- blobs of a SuperBlob
abbrev pub most_blobs : ℕ
most_blobs = 64

-- TYPES

-- the known slot types, from and to, with the magic of each
unfoldable pub slot_magics : List Range
slot_magics =
    range directory_type directory_type directory_magic
    ∷ range first_alternate last_alternate directory_magic
    ∷ range 2 2 requirements_magic
    ∷ range 5 5 entitlements_magic
    ∷ range 7 7 der_entitlements_magic
    ∷ range 8 11 launch_constraint_magic
    ∷ range cms_type cms_type blob_wrapper_magic
    ∷ []

-- the magic that a slot type asks for; 0 where the type is not known
unfoldable pub magic_of : ℕ → ℕ
magic_of t = lookup slot_magics 0 t

-- WHAT FAILS AT A POSITION

unfoldable pub unknown : List ℕ → ℕ → Cond
unknown s i = magic_of (type_at s i) ≡? 0

-- the type at i stands at j too
unfoldable pub same_type : List ℕ → ℕ → ℕ → Cond
same_type s i j = type_at s j ≡? type_at s i

-- ... at a position j before i
unfoldable pub repeated : List ℕ → ℕ → Cond
repeated s i = lowest (same_type s i) i <? i

unfoldable pub outside : List ℕ → ℕ → Cond
outside s i =
    offset_at s i <? index_end s or
    super_length s <? offset_at s i + blob_head or
    blob_length s i <? blob_head or
    super_length s <? offset_at s i + blob_length s i

unfoldable pub wrong_magic : List ℕ → ℕ → Cond
wrong_magic s i = blob_magic s i ≢? magic_of (type_at s i)

-- the blobs at i and j have a byte in common
unfoldable pub shared : List ℕ → ℕ → ℕ → Cond
shared s i j = offset_at s i <? offset_at s j + blob_length s j and offset_at s j <? offset_at s i + blob_length s i

-- ... for a position j before i
unfoldable pub overlaps : List ℕ → ℕ → Cond
overlaps s i = lowest (shared s i) i <? i

-- THE TABLE

unfoldable pub head_rows : ℕ → List ℕ → List Row
head_rows side s =
    row 1 (length s <? super_head or most_signature <? length s or most_side <? side) 0
    ∷ row 2 (magic s ≢? super_magic) 0
    ∷ row 3 (count s ≡? 0 or most_blobs <? count s) 0
    ∷ row 4 (super_length s <? index_end s or length s <? super_length s) 0
    ∷ []

unfoldable pub index_rows : List ℕ → List Row
index_rows s =
    over 5 (count s) (unknown s)
    ∷ over 6 (count s) (repeated s)
    ∷ over 7 (count s) (outside s)
    ∷ over 8 (count s) (wrong_magic s)
    ∷ over 9 (count s) (overlaps s)
    ∷ []

unfoldable pub rows : ℕ → List ℕ → List Row
rows side s = head_rows side s ++ index_rows s

-- THE LOOKUP

unfoldable pub of_type : List ℕ → ℕ → ℕ → Cond
of_type s t i = type_at s i ≡? t

-- the position of a type; the count where the index has none
unfoldable pub position : List ℕ → ℕ → ℕ
position s t = lowest (of_type s t) (count s)

-- the same as the code says it: none, or that position
abbrev pub PositionIn : List ℕ → ℕ → Option ℕ → Type 0
PositionIn s t r = MatchOption r (position s t ≡ count s) (λ i. (i < count s) × (i ≡ position s t))

-- the index has the type
unfoldable pub has : List ℕ → ℕ → Cond
has s t = position s t <? count s

-- the blob at position i, its head included, as a part of the signature
unfoldable pub blob_at : List ℕ → ℕ → List ℕ
blob_at s i = take (blob_length s i) (drop (offset_at s i) s)

-- where the blob at a type's position starts
abbrev pub start_of : List ℕ → ℕ → ℕ
start_of s t = offset_at s (position s t)

-- the blob at a type's position: the blob of that type, where tests 1 to 9 pass and the index has it
unfoldable pub blob_of : List ℕ → ℕ → List ℕ
blob_of s t = blob_at s (position s t)

-- tests 1 to 9 pass, and the index has the type
unfoldable pub present : List ℕ → ℕ → Cond
present s t = (first (rows 0 s) accepted).number ≡? 0 and has s t

-- where the blob of a type starts and ends; 0 and 0 where there is none
unfoldable pub blob_start : List ℕ → ℕ → ℕ
blob_start s t = pick (present s t) (start_of s t) 0

unfoldable pub blob_end : List ℕ → ℕ → ℕ
blob_end s t = pick (present s t) (start_of s t + blob_length s (position s t)) 0

-- what a lookup hands back: the blob of a type, a part of the signature; empty where there is none
unfoldable pub blob : List ℕ → ℕ → List ℕ
blob s t = take (blob_end s t - blob_start s t) (drop (blob_start s t) s)

-- where it lies, as the code says it
pub record Found (s : List ℕ) (t : ℕ) (r : Span) : Type 0 where
  pub start_is : r.start ≡ blob_start s t
  pub end_is : r.end ≡ blob_end s t
  pub ordered : r.start ≤ r.end
  pub within : r.end ≤ length s

-- where there is none
abbrev pub nowhere : Span
nowhere = record { start = 0; end = 0 }

-- what the lookup of the code says: where the blob lies exactly where there is one
pub record Located (s : List ℕ) (t : ℕ) (r : Option Span) : Type 0 where
  pub found : MatchOption r (Found s t nowhere) (Found s t)
  pub there : is_some r ≡ holds (present s t)
