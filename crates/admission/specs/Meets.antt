-- The pages that a range meets, by a signature, and what a call is lent of them.
use Rattle.std.specs.Prelude.{ℕ, ◌+◌, ◌-◌, ◌≤◌, Bool, true, ◌&&◌, List, ◌↔◌, ◌≡◌, ltb, leb}
use Rattle.refusals.specs.Refusals.{Passes}
use Rattle.directory.specs.Rows.{signature_rows}
use Rattle.geometry.specs.Pages.{page_start, page_end, part, met_first, met_end, Shared}
use Rattle.admission.specs.Input.{page_bytes_of, limit_of}
use Rattle.admission.specs.Recheck.{Call, recheck_of}

-- a range meets page i
abbrev pub meets : List ℕ → ℕ → ℕ → ℕ → Bool
meets s start size i = leb (met_first (page_bytes_of s) start size) i && ltb i (met_end (page_bytes_of s) start size)

-- the range of a call meets page i
abbrev pub met_by : List ℕ → Call → ℕ → Bool
met_by s (recheck_of start size new) i = meets s start size i

-- page i of the bytes that a call is lent, which begin where the first page met begins
abbrev pub lent_page : List ℕ → Call → ℕ → List ℕ
lent_page s (recheck_of start size new) i =
    part new
    (page_start (page_bytes_of s) i - page_start (page_bytes_of s) (met_first (page_bytes_of s) start size))
    (page_end (page_bytes_of s) (limit_of s) i - page_start (page_bytes_of s) (met_first (page_bytes_of s) start size))

-- where tests 1 to 18 pass, a range below the code limit meets page i exactly when it shares a byte with it
abbrev pub Meets : Type 0
Meets = (s : List ℕ) (start size i : ℕ) → Passes (signature_rows 0 s) → start + size ≤ limit_of s
    → (meets s start size i ≡ true)
    ↔ ((k : ℕ) × Shared (page_bytes_of s) (limit_of s) start size i k)
