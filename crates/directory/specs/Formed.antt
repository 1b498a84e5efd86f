-- A directory that is well formed, and a signature, in plain conditions with no order among them: what tests 11 to 18 ask, and 1 to 18.
use Rattle.std.specs.Prelude.{ℕ, ◌+◌, ◌-◌, ◌*◌, ◌<◌, ◌≤◌, List, ◌⊎◌, ◌↔◌, ◌≡◌, length, get_or}
use Rattle.refusals.specs.Refusals.{Passes}
use Rattle.layout.specs.SuperBlob.{count}
use Rattle.layout.specs.CodeDirectory.{directory_type, KnownKind, allowed_flags, slot_width, version_end, version, flags, hash_offset, ident_offset, n_special_slots, n_code_slots, hash_size, hash_type, page_size, scatter_offset, code_limit64}
use Rattle.superblob.specs.Rows.{most_side, position}
use Rattle.superblob.specs.Formed.{Formed}
use Rattle.directory.specs.Head.{first_version, last_version, scatter_version, limit64_version, head_of}
use Rattle.directory.specs.Pages.{most_code_limit, pages}
use Rattle.directory.specs.Flags.{BitsWithin}
use Rattle.directory.specs.Rows.{most_pages, most_special_slots, directory, blob_rows, signature_rows}

-- every slot lies between the head's end and the directory's
pub record SlotsInside (d : List ℕ) : Type 0 where
  pub special : (k : ℕ) → 0 < k → k ≤ n_special_slots d → (head_of d + slot_width d * k ≤ hash_offset d) × (hash_offset d - slot_width d * k + slot_width d ≤ length d)
  pub code : (i : ℕ) → i < n_code_slots d → (head_of d ≤ hash_offset d + slot_width d * i) × (hash_offset d + slot_width d * i + slot_width d ≤ length d)

-- THE DIRECTORY, a blob d

pub record DirectoryFormed (d : List ℕ) : Type 0 where
  pub version_known : (first_version ≤ version d) × (version d ≤ last_version)
  pub has_version : version_end ≤ length d
  pub has_head : head_of d ≤ length d
  pub hash_kind : KnownKind (hash_type d)
  pub hash_size_known : hash_size d ≡ slot_width d
  pub page_size_known : (page_size d ≡ 0) ⊎ ((page_size d ≡ 12) ⊎ (page_size d ≡ 14))
  pub flags_allowed : BitsWithin (flags d) allowed_flags
  pub limit64_small : limit64_version ≤ version d → code_limit64 d ≤ most_code_limit
  pub no_scatter : scatter_version ≤ version d → scatter_offset d ≡ 0
  pub slot_a_page : n_code_slots d ≡ pages d
  pub few_pages : n_code_slots d ≤ most_pages
  pub few_special_slots : n_special_slots d ≤ most_special_slots
  pub slots_inside : SlotsInside d
  -- the identifier starts behind the head, and a zero byte ends it inside the directory
  pub ident_after_head : head_of d ≤ ident_offset d
  pub ident_ends : (j : ℕ) × ((ident_offset d ≤ j) × ((j < length d) × (get_or d j 0 ≡ 0)))

-- tests 11 to 18 pass exactly then
abbrev pub DirectoryExactly : Type 0
DirectoryExactly = (d : List ℕ) → Passes (blob_rows d) ↔ DirectoryFormed d

-- THE SIGNATURE, with side files of which the longest that is there has the length `side`

pub record SignatureFormed (side : ℕ) (s : List ℕ) : Type 0 where
  pub superblob : Formed s
  pub short : side ≤ most_side
  pub has_directory : position s directory_type < count s
  pub formed : DirectoryFormed (directory s)

-- tests 1 to 18 pass exactly then
abbrev pub SignatureExactly : Type 0
SignatureExactly = (side : ℕ) (s : List ℕ) → Passes (signature_rows side s) ↔ SignatureFormed side s
