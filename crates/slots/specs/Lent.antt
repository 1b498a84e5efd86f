-- The side files as the code lends them: each where it is there, or with a flag.
use Rattle.std.specs.Prelude.{ℕ, Bool, true, false, cond, List, [], eqb, Option, None, Some}
use denote.Ref.{Bor}
use Rattle.refusals.specs.declared.Answer.{Answer}
use Rattle.refusals.specs.Refusals.{refuse, accepted}
use Rattle.slots.specs.declared.sides.SideFiles.{SideFiles}
use Rattle.slots.specs.Slots.{Sides, sides}

abbrev pub is_there : Option (Bor (List ℕ)) → Bool
is_there None = false
is_there (Some file) = true

abbrev pub bytes_of : Option (Bor (List ℕ)) → List ℕ
bytes_of None = []
bytes_of (Some file) = file.now

abbrev pub sides_of : SideFiles → Sides
sides_of x = sides (is_there x.info) (bytes_of x.info) (is_there x.resources) (bytes_of x.resources)

-- of files with flags, those whose flag is on
abbrev pub sides_read : Bool → List ℕ → Bool → List ℕ → Sides
sides_read info_there info resources_there resources =
    sides info_there (cond info_there info []) resources_there (cond resources_there resources [])

-- what the test of slot k answers, by its fault
abbrev pub slot_answer : ℕ → ℕ → Answer
slot_answer fault k = cond (eqb fault 0) accepted (refuse fault k)
