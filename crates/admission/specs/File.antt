-- The whole check of a Mach-O file (document 02, item 4): tests 36 to 40, 1 to 18, 41 and 20 to 31 in order, and the marks that it leaves. The
-- image is the file before the signature.
use Rattle.std.specs.Prelude.{ℕ, Bool, cond, List, [], ◌∷◌, ◌++◌, ◌≡◌, length}
use Rattle.refusals.specs.declared.Answer.{Answer}
use Rattle.refusals.specs.Refusals.{◌≡?◌, ◌≢?◌, holds, Row, row, refuse, accepted, first}
use Rattle.directory.specs.Pages.{code_limit}
use Rattle.directory.specs.Rows.{directory, signature_rows}
use Rattle.slots.specs.Slots.{Sides, sides}
use Rattle.trustcache.specs.declared.launch.Launch.{Launch}
use Rattle.marks.specs.Marks.{bad_rows}
use Rattle.macho.specs.Rows.{walk_rows, signature_position, signature_start, signature_of, image_of}
use Rattle.admission.specs.declared.Verdict.{Verdict}
use Rattle.admission.specs.Input.{Lent, beside, longest, marks_of}
use Rattle.admission.specs.Check.{later_rows, entry_for, verdict_of, CheckOutcome}

-- what a check of a file is lent, but for the marks
pub record LentFile : Type 0 where
  pub file : List ℕ
  pub cache : List ℕ
  pub sides : Sides
  pub facts : Launch

abbrev pub lent_file : List ℕ → List ℕ → Bool → List ℕ → Bool → List ℕ → Launch → LentFile
lent_file file cache info_there info resources_there resources facts =
    record { file = file; cache = cache; sides = sides info_there info resources_there resources; facts = facts }

-- with another file
abbrev pub with_file : LentFile → List ℕ → LentFile
with_file x file = record { file = file; cache = x.cache; sides = x.sides; facts = x.facts }

-- its image and its signature lent apart
abbrev pub apart : LentFile → Lent
apart x = record { signature = signature_of x.file; image = image_of x.file; cache = x.cache; sides = x.sides; facts = x.facts }

-- 41: the range does not start at the code limit; the place is the position of the command that states it
unfoldable pub start_rows : List ℕ → ℕ → ℕ → List Row
start_rows d start command = row 41 (start ≢? code_limit d) command ∷ []

-- tests 36 to 40, 1 to 18, 41 and 20 to 30. There is no row 19: where 41 passes, the image ends at the code limit (`AsApart` in FileDemands.antt)
unfoldable pub file_rows : LentFile → ℕ → List Row
file_rows x marksLength =
    walk_rows x.file
    ++ (signature_rows (longest x.sides) (signature_of x.file)
    ++ (start_rows (directory (signature_of x.file)) (signature_start x.file) (signature_position x.file)
    ++ later_rows (beside (apart x)) (directory (signature_of x.file)) marksLength))

-- with 31
unfoldable pub file_table : LentFile → ℕ → List Row
file_table x marksLength = file_rows x marksLength ++ bad_rows (marks_of (signature_of x.file) (image_of x.file))

-- what a check of a file answers: accepted with the cache entry, or the first test that refuses
unfoldable pub file_answer : LentFile → ℕ → Answer
file_answer x marksLength = first (file_table x marksLength) (refuse 0 (entry_for (beside (apart x))))

-- the marks that it leaves: where the tests before 31 pass those of the image, else as they were
unfoldable pub file_marks : LentFile → List ℕ → List ℕ
file_marks x marks =
    cond (holds ((first (file_rows x (length marks)) accepted).number ≡? 0)) (marks_of (signature_of x.file) (image_of x.file)) marks

unfoldable pub file_of : LentFile → List ℕ → CheckOutcome
file_of x marks = record { verdict = verdict_of (file_answer x (length marks)); marks = file_marks x marks }

-- what the contract of `check_file` says: what it answers, and the marks after it
abbrev pub FileChecked : LentFile → List ℕ → Verdict → List ℕ → Type 0
FileChecked x marks verdict after = record { verdict = verdict; marks = after } ≡ file_of x marks
