-- Document 01's small program: what it says of three files. The first that is missing or too long decides; else it is a whole check with
-- no side files, all launch facts false or 0, and as many marks as test 20 wants.
use Rattle.std.specs.Prelude.{ℕ, Bool, true, false, cond, List, [], ◌≡◌, length, take, ltb, Option, Some, None, Result, Ok, Err}
use Rattle.std.specs.Borrow.{Bor}
use Rattle.refusals.specs.Refusals.{◌≡?◌, pick, accepted, first}
use Rattle.layout.specs.CodeDirectory.{n_code_slots}
use Rattle.directory.specs.Rows.{directory, signature_rows}
use Rattle.trustcache.specs.declared.launch.Launch.{Launch}
use Rattle.admission.specs.declared.Verdict.{Verdict}
use Rattle.admission.specs.Input.{Lent, lent}
use Rattle.admission.specs.Check.{check_answer, verdict_of}
use Rattle.admit_run.specs.declared.FileError.{FileError}
use Rattle.admit_run.specs.declared.FileError.TheVariants.{NoFile, TooLong}

abbrev pub no_facts : Launch
no_facts =
    record {
      on_authorized_volume = false;
      on_system_volume = false;
      launch_type = 0;
      validation_category = 0;
      parent_is_init = false;
    }

-- how many marks are lent: nCodeSlots where tests 1 to 18 pass
unfoldable pub marks_wanted : List ℕ → ℕ
marks_wanted s = pick ((first (signature_rows 0 s) accepted).number ≡? 0) (n_code_slots (directory s)) 0

abbrev pub files : List ℕ → List ℕ → List ℕ → Lent
files s image cache = lent s image cache false [] false [] no_facts

unfoldable pub small_verdict : List ℕ → List ℕ → List ℕ → Verdict
small_verdict s image cache = verdict_of (check_answer (files s image cache) (marks_wanted s))

-- the most bytes of each file
abbrev pub most_signature_file : ℕ
most_signature_file = 16384

abbrev pub most_image_file : ℕ
most_image_file = 32768

abbrev pub most_cache_file : ℕ
most_cache_file = 16384

-- what becomes of a file: it can't be opened or read, it is over its size, or it has these bytes
pub data File : Type 0 where
  missing : File
  long : File
  has : List ℕ → File

unfoldable pub file_of : ℕ → Bool → List ℕ → File
file_of most false bytes = missing
file_of most true bytes = cond (ltb most (length bytes)) long (has bytes)

-- the same of the bytes that were read, nothing where the file is not there
abbrev pub judged_file : ℕ → Option (List ℕ) → File
judged_file most None = file_of most false []
judged_file most (Some bytes) = file_of most true bytes

-- what a file's bytes, or what is wrong with it, say of it
abbrev pub outcome : Result (Bor (List ℕ)) FileError → File
outcome (Ok bytes) = has bytes.now
outcome (Err NoFile) = missing
outcome (Err TooLong) = long

-- what the program says: the verdict, or what is wrong with a file
abbrev pub Line : Type 0
Line = Result Verdict FileError

-- what is said of a file, and of the rest where it has bytes
unfoldable pub judged : File → (List ℕ → Line) → Line
judged missing rest = Err NoFile
judged long rest = Err TooLong
judged (has bytes) rest = rest bytes

unfoldable pub small_line : File → File → File → Line
small_line signature image cache =
    judged signature (λ s. judged image (λ i. judged cache (λ c. Ok (small_verdict s i c))))

-- the line is said of the first bytes of three buffers, each with whether its file was there; what a file holds no contract knows
pub record SaidIn (signature image cache : List ℕ) (line : Line) : Type 0 where
  pub signature_there : Bool
  pub signature_length : ℕ
  pub image_there : Bool
  pub image_length : ℕ
  pub cache_there : Bool
  pub cache_length : ℕ
  pub said : line ≡ small_line (file_of most_signature_file signature_there (take signature_length signature)) (file_of most_image_file image_there (take image_length image)) (file_of most_cache_file cache_there (take cache_length cache))

-- the line is said of some three files
pub record Said (line : Line) : Type 0 where
  pub signature : File
  pub image : File
  pub cache : File
  pub said : line ≡ small_line signature image cache
