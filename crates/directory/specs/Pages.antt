-- The pages of a directory: its code limit, the size of a page, and how many the code limit makes. `d` is the directory's blob.
use Rattle.std.specs.Prelude.{ℕ, ◌<◌, ◌≤◌, true, List, ◌↔◌, ◌≡◌}
use Rattle.endian.specs.Numbers.{AllBytes}
use Rattle.refusals.specs.Refusals.{◌<?◌, ◌≡?◌, Says, pick}
use Rattle.layout.specs.CodeDirectory.{version, code_limit32, page_size, code_limit64}
use Rattle.geometry.specs.Pages.{page_bytes, page_count}
use Rattle.directory.specs.Head.{limit64_version, since}

-- the code limit: codeLimit64 where it is present and not 0, else codeLimit
unfoldable pub code_limit : List ℕ → ℕ
code_limit d = pick (since limit64_version code_limit64 d ≡? 0) (code_limit32 d) (since limit64_version code_limit64 d)

-- the most bytes of code
abbrev pub most_code_limit : ℕ
most_code_limit = 17179869184

-- P, by the pageSize field and the code limit
unfoldable pub P : List ℕ → ℕ
P d = page_bytes (page_size d) (code_limit d)

unfoldable pub pages : List ℕ → ℕ
pages d = page_count (P d) (code_limit d)

-- the code limit, plainly
pub record LimitPlainly : Type 0 where
  -- it is codeLimit64 in a directory of version 0x20300 or later whose codeLimit64 is not 0, whatever codeLimit says
  pub large : (d : List ℕ) → limit64_version ≤ version d → (code_limit64 d ≡ 0 → ⊥) → code_limit d ≡ code_limit64 d
  -- and codeLimit in every other: one of version 0x20300 or later whose codeLimit64 is 0, and an older one, whatever bytes it has there
  pub small : (d : List ℕ) → (limit64_version ≤ version d → code_limit64 d ≡ 0) → code_limit d ≡ code_limit32 d
  -- test 15 looks at codeLimit64; in a list of bytes the code limit is too large exactly then, since codeLimit has 32 bits
  pub too_large : (d : List ℕ) → AllBytes d → Says true (most_code_limit <? since limit64_version code_limit64 d) ↔ (most_code_limit < code_limit d)
