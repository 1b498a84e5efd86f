-- The head of a directory, by its version: the versions that are known, the size that each gives the head, and the fields that only later
-- versions have. `d` is the directory's blob.
use Rattle.std.specs.Prelude.{ℕ, ◌+◌, ◌<◌, ◌≤◌, true, false, List, [], ◌∷◌, ◌↔◌, ◌≡◌, get_or}
use Rattle.refusals.specs.Ranges.{Range, range, lookup}
use Rattle.refusals.specs.Refusals.{◌<?◌, ◌≢?◌, Says, pick}
use Rattle.layout.specs.CodeDirectory.{version, scatter_offset}

-- VERSIONS

-- those that are known
abbrev pub first_version : ℕ
first_version = 0x20001

abbrev pub last_version : ℕ
last_version = 0x20600

-- the first version that has scatterOffset
abbrev pub scatter_version : ℕ
scatter_version = 0x20100

-- the first version that has codeLimit64
abbrev pub limit64_version : ℕ
limit64_version = 0x20300

-- THE SIZE OF THE HEAD

unfoldable pub head_sizes : List Range
head_sizes =
    range first_version 0x200FF 44
    ∷ range scatter_version 0x201FF 48
    ∷ range 0x20200 0x202FF 52
    ∷ range limit64_version 0x203FF 64
    ∷ range 0x20400 0x204FF 88
    ∷ range 0x20500 0x205FF 96
    ∷ range last_version last_version 108
    ∷ []

-- .. 0 where the version is refused
unfoldable pub head_size : ℕ → ℕ
head_size v = lookup head_sizes 0 v

unfoldable pub head_of : List ℕ → ℕ
head_of d = head_size (version d)

-- FIELDS OF LATER VERSIONS

-- a field that directories have from version v on: 0 in an older one, whatever bytes it has there
unfoldable pub since : ℕ → (List ℕ → ℕ) → List ℕ → ℕ
since v field d = pick (version d <? v) 0 (field d)

-- tests of such a field, plainly: that it is not 0, and that it is above a number
pub record SincePlainly : Type 0 where
  -- a test that it is not 0 refuses exactly a directory of version v or later whose field is not 0
  pub refuses : (v : ℕ) (field : List ℕ → ℕ) (d : List ℕ) → Says true (since v field d ≢? 0) ↔ ((v ≤ version d) × (field d ≡ 0 → ⊥))
  -- and passes exactly one whose field is 0 if it is of version v or later
  pub passes : (v : ℕ) (field : List ℕ → ℕ) (d : List ℕ) → Says false (since v field d ≢? 0) ↔ (v ≤ version d → field d ≡ 0)
  -- so an older one passes with anything there
  pub older : (v : ℕ) (field : List ℕ → ℕ) (d : List ℕ) → version d < v → Says false (since v field d ≢? 0)
  -- a test that such a field is above m refuses exactly a directory of version v or later whose field is
  pub above : (v m : ℕ) (field : List ℕ → ℕ) (d : List ℕ) → Says true (m <? since v field d) ↔ ((v ≤ version d) × (m < field d))
  -- and passes exactly one whose field is at most m if it is of version v or later
  pub within : (v m : ℕ) (field : List ℕ → ℕ) (d : List ℕ) → Says false (m <? since v field d) ↔ (v ≤ version d → field d ≤ m)

-- scatterOffset is 0 exactly where the four bytes at 44 are
abbrev pub ScatterZero : Type 0
ScatterZero = (d : List ℕ) → (scatter_offset d ≡ 0) ↔ ((i : ℕ) → i < 4 → get_or d (44 + i) 0 ≡ 0)
