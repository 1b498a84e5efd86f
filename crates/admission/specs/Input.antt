-- What the calls are lent, and what they read of a signature.
use Rattle.std.specs.Prelude.{ℕ, ◌*◌, ◌≤◌, Bool, cond, List, ◌≡◌, length}
use Rattle.refusals.specs.Refusals.{◌<?◌, pick}
use Rattle.layout.specs.CodeDirectory.{hash_type, slot_width}
use Rattle.directory.specs.Pages.{code_limit, P}
use Rattle.directory.specs.Rows.{directory, code_slots}
use Rattle.slots.specs.Slots.{Sides, sides}
use Rattle.trustcache.specs.declared.launch.Launch.{Launch}
use Rattle.geometry.specs.Pages.{page_count}
use Rattle.marks.specs.Marks as Marks
use Rattle.marks.specs.Marks.{Slots, slots_of_kind}

-- what a whole check is lent beside the image and the marks: what tests 1 to 30 read, but for two lengths
pub record Beside : Type 0 where
  pub signature : List ℕ
  pub cache : List ℕ
  pub sides : Sides
  pub facts : Launch

abbrev pub besides : List ℕ → List ℕ → Bool → List ℕ → Bool → List ℕ → Launch → Beside
besides signature cache info_there info resources_there resources facts =
    record { signature = signature; cache = cache; sides = sides info_there info resources_there resources; facts = facts }

-- what a whole check is lent, but for the marks
pub record Lent : Type 0 where
  pub signature : List ℕ
  pub image : List ℕ
  pub cache : List ℕ
  pub sides : Sides
  pub facts : Launch

abbrev pub lent : List ℕ → List ℕ → List ℕ → Bool → List ℕ → Bool → List ℕ → Launch → Lent
lent signature image cache info_there info resources_there resources facts =
    record { signature = signature; image = image; cache = cache; sides = sides info_there info resources_there resources; facts = facts }

abbrev pub beside : Lent → Beside
beside x = record { signature = x.signature; cache = x.cache; sides = x.sides; facts = x.facts }

-- with another image
abbrev pub with_image : Lent → List ℕ → Lent
with_image x image = record { signature = x.signature; image = image; cache = x.cache; sides = x.sides; facts = x.facts }

-- the length of the longest side file that is there; 0 where none is
unfoldable pub longest : Sides → ℕ
longest x =
    pick (cond x.info_there (length x.info) 0 <? cond x.resources_there (length x.resources) 0)
    (cond x.resources_there (length x.resources) 0)
    (cond x.info_there (length x.info) 0)

-- OF A DIRECTORY d

-- its code slots
abbrev pub slots_by : List ℕ → Slots
slots_by d = slots_of_kind (hash_type d) (code_slots d)

-- the marks of an image
abbrev pub marks_by : List ℕ → List ℕ → List ℕ
marks_by d image = Marks.marks_of (P d) (code_limit d) (slots_by d) image

-- OF A SIGNATURE, by its directory: P, the code limit, and the code slots

abbrev pub page_bytes_of : List ℕ → ℕ
page_bytes_of s = P (directory s)

abbrev pub limit_of : List ℕ → ℕ
limit_of s = code_limit (directory s)

abbrev pub slots_of : List ℕ → Slots
slots_of s = slots_by (directory s)

-- the marks of an image
abbrev pub marks_of : List ℕ → List ℕ → List ℕ
marks_of s image = marks_by (directory s) image

-- what the writing of all marks requires: a slot and a mark for each page, in an image that reaches the limit
pub record ImageHere (d image marks : List ℕ) : Type 0 where
  pub slotted : slot_width d * page_count (P d) (code_limit d) ≤ length (code_slots d)
  pub marked : length marks ≡ page_count (P d) (code_limit d)
  pub reached : code_limit d ≤ length image
