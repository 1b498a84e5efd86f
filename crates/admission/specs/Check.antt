-- The whole check: tests 1 to 31 in order, and the marks that it leaves.
use Rattle.std.specs.Prelude.{ℕ, cond, List, [], ◌∷◌, ◌++◌, ◌≡◌, length}
use Rattle.refusals.specs.declared.Answer.{Answer}
use Rattle.refusals.specs.Refusals.{◌<?◌, ◌≡?◌, ◌≢?◌, holds, Row, row, refuse, accepted, first}
use Rattle.layout.specs.CodeDirectory.{hash_type, n_code_slots}
use Rattle.directory.specs.Pages.{code_limit}
use Rattle.directory.specs.Rows.{directory, signature_rows}
use Rattle.cdhash.specs.Hash.{cdhash}
use Rattle.slots.specs.Slots.{special_rows}
use Rattle.trustcache.specs.Rows.{entry_of}
use Rattle.trustcache.specs.Table.{cache_rows}
use Rattle.marks.specs.Marks.{bad_rows}
use Rattle.admission.specs.declared.Verdict.{Verdict}
use Rattle.admission.specs.Input.{Beside, Lent, beside, longest, marks_of}

-- 19: image shorter than codeLimit
unfoldable pub image_rows : List ℕ → ℕ → List Row
image_rows d image_length = row 19 (image_length <? code_limit d) 0 ∷ []

-- 20: marks buffer not nCodeSlots bytes
unfoldable pub count_rows : List ℕ → ℕ → List Row
count_rows d marksLength = row 20 (marksLength ≢? n_code_slots d) 0 ∷ []

-- 20, 21 to 23, and 24 to 30, of the directory d
unfoldable pub later_rows : Beside → List ℕ → ℕ → List Row
later_rows x d marksLength =
    count_rows d marksLength ++ (special_rows x.signature d x.sides ++ cache_rows x.cache (hash_type d) (cdhash d) x.facts)

-- tests 1 to 30, by the lengths of the image and of the marks
unfoldable pub check_rows : Beside → ℕ → ℕ → List Row
check_rows x image_length marksLength =
    signature_rows (longest x.sides) x.signature
    ++ (image_rows (directory x.signature) image_length ++ later_rows x (directory x.signature) marksLength)

-- the entry of the cache that has the directory's hash
unfoldable pub entry_for : Beside → ℕ
entry_for x = entry_of x.cache (cdhash (directory x.signature))

-- what tests 1 to 30 answer, with that entry where they pass
abbrev pub check_tested : Beside → ℕ → ℕ → Answer
check_tested x image_length marksLength = first (check_rows x image_length marksLength) (refuse 0 (entry_for x))

-- tests 1 to 31
unfoldable pub check_table : Lent → ℕ → List Row
check_table x marksLength = check_rows (beside x) (length x.image) marksLength ++ bad_rows (marks_of x.signature x.image)

-- what a whole check answers: accepted with the cache entry, or the first test that refuses
unfoldable pub check_answer : Lent → ℕ → Answer
check_answer x marksLength = first (check_table x marksLength) (refuse 0 (entry_for (beside x)))

-- the marks that it leaves: where tests 1 to 30 pass those of the image, else as they were
unfoldable pub check_marks : Lent → List ℕ → List ℕ
check_marks x marks =
    cond (holds ((first (check_rows (beside x) (length x.image) (length marks)) accepted).number ≡? 0)) (marks_of x.signature x.image) marks

-- a whole check's own answer, made from an answer
abbrev pub verdict_of : Answer → Verdict
verdict_of a = record { number = a.number; place = a.place }

pub record CheckOutcome : Type 0 where
  pub verdict : Verdict
  pub marks : List ℕ

unfoldable pub check_of : Lent → List ℕ → CheckOutcome
check_of x marks = record { verdict = verdict_of (check_answer x (length marks)); marks = check_marks x marks }

-- what the contract of `check` says: what it answers, and the marks after it
abbrev pub Checked : Lent → List ℕ → Verdict → List ℕ → Type 0
Checked x marks verdict after = record { verdict = verdict; marks = after } ≡ check_of x marks
