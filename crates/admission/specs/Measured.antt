-- Document 01, "Measured on both sides": the starred examples, one table under one statement, computed from the definitions that the rows
-- cite.
use Rattle.std.specs.Prelude.{ℕ, List, [], ◌∷◌, ◌≡◌}
use Rattle.refusals.specs.Refusals.{accepted, first}
use Rattle.geometry.specs.Pages.{page_bytes, page_count, wanted, range_rows}
use Rattle.directory.specs.Head.{head_size}
use Rattle.directory.specs.Rows.{blob_rows}

-- a number that is computed, and the one that is stated
infix 90 ◌gives◌
pub data Example : Type 0 where
  ◌gives◌ : ℕ → ℕ → Example

-- all of a table hold
abbrev pub Hold : List Example → Type 0
Hold [] = Unit
Hold (x gives y ∷ es) = (x ≡ y) × Hold es

-- a directory of 12 bytes, of version 0x20601
abbrev pub newer : List ℕ
newer = 0xFA ∷ 0xDE ∷ 0x0C ∷ 0x02 ∷ 0 ∷ 0 ∷ 0 ∷ 12 ∷ 0x00 ∷ 0x02 ∷ 0x06 ∷ 0x01 ∷ []

-- what a range wants of a code limit of 8193 in pages of 4096 bytes
abbrev pub wanted_of : ℕ → ℕ → ℕ
wanted_of start size = wanted (page_bytes 12 8193) 8193 start size

-- the number that tests 32 and 33 give to that range where it is lent n bytes
abbrev pub range_number : ℕ → ℕ → ℕ → ℕ
range_number start size n = (first (range_rows (page_bytes 12 8193) 8193 start size n) accepted).number

abbrev pub measured : List Example
measured =
    head_size 0x200FF gives 44
    ∷ head_size 0x20100 gives 48
    ∷ head_size 0x20600 gives 108
    ∷ head_size 0x20601 gives 0
    ∷ page_count 4096 0 gives 0
    ∷ page_count 4096 1 gives 1
    ∷ page_count 4096 4096 gives 1
    ∷ page_count 4096 4097 gives 2
    ∷ page_count 4096 8192 gives 2
    ∷ page_count 4096 8193 gives 3
    ∷ page_count (page_bytes 0 0) 0 gives 0
    ∷ page_count (page_bytes 0 8193) 8193 gives 1
    ∷ (first (blob_rows newer) accepted).number gives 11
    ∷ wanted_of 4095 2 gives 8192
    ∷ range_number 4095 2 8192 gives 0
    ∷ wanted_of 8192 1 gives 1
    ∷ range_number 8192 1 1 gives 0
    ∷ range_number 8192 2 1 gives 32
    ∷ wanted_of 8193 0 gives 0
    ∷ range_number 8193 0 0 gives 0
    ∷ []

abbrev pub Measured : Type 0
Measured = Hold measured
