-- The recheck: tests 1 to 18, 20, 32, 33 and 34, then the pages that the range meets.
use Rattle.std.specs.Prelude.{ℕ, cond, List, ◌++◌, ◌≡◌, length}
use Rattle.refusals.specs.declared.Answer.{Answer}
use Rattle.refusals.specs.Refusals.{◌≡?◌, holds, Row, accepted, first}
use Rattle.directory.specs.Rows.{directory, signature_rows}
use Rattle.geometry.specs.Pages.{range_rows}
use Rattle.marks.specs.Marks as Marks
use Rattle.marks.specs.Marks.{mark_rows, bad_rows}
use Rattle.admission.specs.Input.{page_bytes_of, limit_of, slots_of}
use Rattle.admission.specs.Check.{count_rows}

-- a call after a whole check, as it is asked for: a recheck of `size` bytes from `start` on, lent the bytes of the pages met
pub data Call : Type 0 where
  recheck_of : ℕ → ℕ → List ℕ → Call

-- 32 and 33: what a call is turned down for
unfoldable pub input_rows : List ℕ → Call → List Row
input_rows s (recheck_of start size new) = range_rows (page_bytes_of s) (limit_of s) start size (length new)

-- the tests before the pages
unfoldable pub call_rows : List ℕ → Call → List ℕ → List Row
call_rows s c marks = signature_rows 0 s ++ (count_rows (directory s) (length marks) ++ (input_rows s c ++ mark_rows marks))

-- the marks with those of the pages met written anew
unfoldable pub remarked : List ℕ → Call → List ℕ → List ℕ
remarked s (recheck_of start size new) marks = Marks.remarked (page_bytes_of s) (limit_of s) (slots_of s) start size new marks

-- what a recheck answers: 31 with the lowest page marked 1, or 0 with place 0, or the first test that refuses
unfoldable pub call_answer : List ℕ → Call → List ℕ → Answer
call_answer s c marks = first (call_rows s c marks ++ bad_rows (remarked s c marks)) accepted

-- the marks that it leaves: where the tests before the pages pass the new ones, else as they were
unfoldable pub call_marks : List ℕ → Call → List ℕ → List ℕ
call_marks s c marks = cond (holds ((first (call_rows s c marks) accepted).number ≡? 0)) (remarked s c marks) marks

pub record CallOutcome : Type 0 where
  pub answer : Answer
  pub marks : List ℕ

unfoldable pub call_of : List ℕ → Call → List ℕ → CallOutcome
call_of s c marks = record { answer = call_answer s c marks; marks = call_marks s c marks }

-- what the contract of `recheck` says: what it answers, and the marks after it
abbrev pub Rechecked : List ℕ → Call → List ℕ → Answer → List ℕ → Type 0
Rechecked s c marks answer after = record { answer = answer; marks = after } ≡ call_of s c marks
