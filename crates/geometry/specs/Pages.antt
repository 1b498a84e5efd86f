-- Pages of code, and the pages that a range meets (document 01, "Pages" and tests 32 and 33). `p` is P, the bytes of a page, and `limit`
-- the code limit. Every definition is total: n / 0 is 0.
use Rattle.std.specs.Prelude.{ℕ, ◌+◌, ◌-◌, ◌*◌, ◌/◌, ◌^◌, ◌<◌, ◌≤◌, min, ◌≡◌, ◌⊎◌, List, [], ◌∷◌, ◌++◌, length, take, drop}
use Rattle.refusals.specs.Refusals.{◌<?◌, ◌≡?◌, ◌≢?◌, pick, Row, row}

-- P: 2 to the pageSize field, or the whole code limit where the field is 0; test 14 refuses every field but 0, 12 and 14
unfoldable pub page_bytes : ℕ → ℕ → ℕ
page_bytes shift limit = pick (shift ≡? 0) limit (pick (shift ≡? 12) 4096 (pick (shift ≡? 14) 16384 0))

-- P is 2 to the field, where that is 12 or 14
abbrev pub PagePower : Type 0
PagePower = (shift limit : ℕ) → (shift ≡ 12) ⊎ (shift ≡ 14) → page_bytes shift limit ≡ 2 ^ shift

-- the number of pages: the limit divided by P, rounded up; 0 for the limit 0
unfoldable pub page_count : ℕ → ℕ → ℕ
page_count p limit = (limit + (p - 1)) / p

-- page i runs from P·i to the smaller of P·(i+1) and the limit
abbrev pub page_start : ℕ → ℕ → ℕ
page_start p i = p * i

abbrev pub page_end : ℕ → ℕ → ℕ → ℕ
page_end p limit i = min (p * (i + 1)) limit

-- the elements of a list from place a to before place e
abbrev pub part : List ℕ → ℕ → ℕ → List ℕ
part l a e = take (e - a) (drop a l)

-- the bytes of page i
abbrev pub page_of : ℕ → ℕ → ℕ → List ℕ → List ℕ
page_of p limit i image = part image (page_start p i) (page_end p limit i)

-- RANGES. A range of `size` bytes from `start` on meets the pages from met_first to before met_end; an empty range meets none

unfoldable pub met_first : ℕ → ℕ → ℕ → ℕ
met_first p start size = pick (size ≡? 0) 0 (start / p)

unfoldable pub met_end : ℕ → ℕ → ℕ → ℕ
met_end p start size = pick (size ≡? 0) 0 ((start + (size - 1)) / p + 1)

-- byte k lies in the range, and in page i
abbrev pub Shared : ℕ → ℕ → ℕ → ℕ → ℕ → ℕ → Type 0
Shared p limit start size i k = ((start ≤ k) × (k < start + size)) × ((page_start p i ≤ k) × (k < page_end p limit i))

-- where the last page met ends; 0 where none is met
abbrev pub met_stop : ℕ → ℕ → ℕ → ℕ → ℕ
met_stop p limit start size = min (p * met_end p start size) limit

-- the bytes from the start of the first page met to the end of the last
abbrev pub wanted : ℕ → ℕ → ℕ → ℕ → ℕ
wanted p limit start size = met_stop p limit start size - p * met_first p start size

-- the input of a recheck: the range, and the length of the lent bytes
unfoldable pub range_rows : ℕ → ℕ → ℕ → ℕ → ℕ → List Row
range_rows p limit start size lentLength =
    row 32 (limit <? start + size) 0
    ∷ row 33 (lentLength ≢? wanted p limit start size) 0
    ∷ []

-- the list with the bytes from place `at` on replaced
abbrev pub splice : List ℕ → ℕ → List ℕ → List ℕ
splice l at bytes = take at l ++ bytes ++ drop (at + length bytes) l

-- a page has bytes, or there are none at all
abbrev pub Fit : ℕ → ℕ → Type 0
Fit p limit = (limit ≡ 0) ⊎ (0 < p)
