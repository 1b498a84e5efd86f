-- Marks of pages: 0 where the page agrees with its slot, 1 where it differs (document 01, "Pages" and tests 31 and 34).
use Rattle.std.specs.Prelude.{ℕ, zero, suc, ◌+◌, ◌-◌, ◌*◌, ◌≤◌, min, Bool, true, cond, List, [], ◌∷◌, ◌++◌, ◌↔◌, ◌≡◌, length, get_or, take, drop}
use Rattle.refusals.specs.declared.Answer.{Answer}
use Rattle.refusals.specs.Refusals.{Cond, ◌<?◌, ◌≡?◌, Row, over, refuse, first}
use Rattle.digest.specs.Kinds.{digest_of}
use Rattle.digest.specs.Same.{same}
use Rattle.layout.specs.CodeDirectory.{width_of}
use Rattle.geometry.specs.Pages.{Fit, page_count, page_start, page_end, part, page_of, met_first, met_end, wanted}

-- code slots: their hash kind, and their bytes from the first slot on
pub record Slots : Type 0 where
  pub kind : ℕ
  pub bytes : List ℕ

abbrev pub slots_of_kind : ℕ → List ℕ → Slots
slots_of_kind kind bytes = record { kind = kind; bytes = bytes }

-- bytes of each slot
abbrev pub width : Slots → ℕ
width slots = width_of slots.kind

-- the slot of page i
unfoldable pub slot_at : Slots → ℕ → List ℕ
slot_at slots i = take (width slots) (drop (width slots * i) slots.bytes)

-- the bytes of page i agree with its slot
unfoldable pub agrees : Slots → ℕ → List ℕ → Bool
agrees slots i bytes = same (digest_of slots.kind bytes) (slot_at slots i)

-- that is: the slot holds the digest of the page by the slots' kind
abbrev pub AgreesExactly : Type 0
AgreesExactly = (slots : Slots) (i : ℕ) (bytes : List ℕ) → (agrees slots i bytes ≡ true) ↔ (digest_of slots.kind bytes ≡ slot_at slots i)

unfoldable pub mark_of : Slots → ℕ → List ℕ → ℕ
mark_of slots i bytes = cond (agrees slots i bytes) 0 1

-- f at i, i + 1, .., n numbers in all
unfoldable pub tab : ℕ → ℕ → (ℕ → ℕ) → List ℕ
tab i zero f = []
tab i (suc n) f = f i ∷ tab (suc i) n f

-- the marks of an image
unfoldable pub marks_of : ℕ → ℕ → Slots → List ℕ → List ℕ
marks_of p limit slots image = tab 0 (page_count p limit) (λ i. mark_of slots i (page_of p limit i image))

-- the mark of page i, of bytes that begin where page `from` begins
abbrev pub mark_in : ℕ → ℕ → Slots → ℕ → List ℕ → ℕ → ℕ
mark_in p limit slots from bytes i =
    mark_of slots i (part bytes (page_start p i - page_start p from) (page_end p limit i - page_start p from))

-- the marks of n pages from page `from` on, of bytes that begin where that page begins
unfoldable pub marks_from : ℕ → ℕ → Slots → ℕ → ℕ → List ℕ → List ℕ
marks_from p limit slots from n bytes = tab from n (mark_in p limit slots from bytes)

-- the marks with those of the pages that a range meets written anew, of bytes that begin where the first page met begins
unfoldable pub remarked : ℕ → ℕ → Slots → ℕ → ℕ → List ℕ → List ℕ → List ℕ
remarked p limit slots start size bytes marks =
    take (met_first p start size) marks
    ++ marks_from p limit slots (met_first p start size) (met_end p start size - met_first p start size) bytes
    ++ drop (met_end p start size) marks

-- TESTS

-- mark i is neither 0 nor 1
unfoldable pub neither : List ℕ → ℕ → Cond
neither marks i = 1 <? get_or marks i 0

-- page i is marked as one that differs
unfoldable pub differs : List ℕ → ℕ → Cond
differs marks i = get_or marks i 0 ≡? 1

unfoldable pub mark_rows : List ℕ → List Row
mark_rows marks = over 34 (length marks) (neither marks) ∷ []

unfoldable pub bad_rows : List ℕ → List Row
bad_rows marks = over 31 (length marks) (differs marks) ∷ []

-- 31 with the lowest page marked 1, or else 0 with the place given
unfoldable pub judged : List ℕ → ℕ → Answer
judged marks place = first (bad_rows marks) (refuse 0 place)

-- WHAT THE ROUTINE THAT WRITES MARKS REQUIRES

-- page n is there, has a slot, and lies in the bytes, which begin where page `from` begins
pub record PageHere (p limit : ℕ) (slots : Slots) (from n : ℕ) (bytes : List ℕ) : Type 0 where
  pub after : from ≤ n
  pub here : n + 1 ≤ page_count p limit
  pub slot : width slots * n + width slots ≤ length slots.bytes
  pub held : page_end p limit n - page_start p from ≤ length bytes

-- n pages from page `from` on are there, have slots, and lie in the bytes
pub record PagesHere (p limit : ℕ) (slots : Slots) (from n : ℕ) (bytes : List ℕ) : Type 0 where
  pub here : from + n ≤ page_count p limit
  pub slotted : width slots * (from + n) ≤ length slots.bytes
  pub held : min (p * (from + n)) limit - page_start p from ≤ length bytes

-- a recheck's range that passes 32 and 33, with a slot and a mark for each page
pub record RangeHere (p limit : ℕ) (slots : Slots) (start size : ℕ) (bytes marks : List ℕ) : Type 0 where
  pub fits : Fit p limit
  pub slotted : width slots * page_count p limit ≤ length slots.bytes
  pub marked : length marks ≡ page_count p limit
  pub below : start + size ≤ limit
  pub exact : length bytes ≡ wanted p limit start size
