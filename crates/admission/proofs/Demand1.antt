-- Demand 1: the number answered stands at a row of the call's own table, or is 0; and where the tests before the pages pass, what is left to answer is
-- 0 or 31, so any other answer leaves the marks.
use Prim.Native.Nat.{ℕ}
use mathlib.Core.Bool.{Bool, true, false, cond}
use mathlib.Core.List.{List, ◌++◌}
use mathlib.Core.Logic.{⊎_elim}
use mathlib.Core.Path.{◌≡◌, refl, sym, ap, ◌∙◌}
use lib.Dec.{T, eqb}
use lib.ListN.{length}
use borrow.Author.Tests.{eqb-true}
use Rattle.refusals.specs.declared.Answer.{Answer}
use Rattle.refusals.specs.Refusals.{◌≡?◌, holds, Row, accepted, refuse, first, OneOf}
use Rattle.refusals.proofs.Exact.{Unused, passes, passed}
use Rattle.refusals.proofs.Joined.{first_append}
use Rattle.superblob.specs.Rows.{rows, head_rows, index_rows}
use Rattle.directory.specs.Rows.{field_rows, slot_rows, blob_rows, directory_rows, signature_rows}
use Rattle.slots.specs.Slots.{special_rows}
use Rattle.trustcache.specs.Rows.{form_rows, lookup_rows}
use Rattle.trustcache.specs.Launch.{launch_rows}
use Rattle.trustcache.specs.Table.{cache_rows}
use Rattle.geometry.specs.Pages.{range_rows}
use Rattle.marks.specs.Marks.{mark_rows, bad_rows, judged}
use Rattle.marks.proofs.Marking.{judged_number}
use Rattle.admission.specs.Input.{Beside, Lent, beside, marks_of}
use Rattle.admission.specs.Check.{image_rows, later_rows, count_rows, check_rows, entry_for, check_table, check_answer, check_marks, CheckOutcome, check_of}
use Rattle.macho.specs.Rows.{command_rows, span_rows, walk_rows, signature_of, image_of}
use Rattle.admission.specs.File.{LentFile, apart, start_rows, file_rows, file_table, file_answer, file_marks, file_of}
use Rattle.admission.specs.Recheck.{Call, recheck_of, input_rows, call_rows, remarked, call_answer, call_marks, CallOutcome, call_of}
use Rattle.admission.specs.Demand1.{check_numbers, recheck_numbers, Demand1}
use Rattle.admission.specs.FileDemands.{file_numbers, FileDemand1}
use Rattle.refusals.proofs.Numbers.{all_in, answer_in}

-- THE NUMBERS: all rows of a call have numbers of its list, and no test before the pages has the number 0. Both compute

check_numbers_hold : (x : Beside) (m n : ℕ) (marks : List ℕ) → T (all_in check_numbers (check_rows x m n ++ bad_rows marks)) × Unused (check_rows x m n) 0
unfolding check_rows signature_rows rows head_rows index_rows directory_rows blob_rows field_rows slot_rows image_rows later_rows count_rows special_rows cache_rows form_rows lookup_rows launch_rows bad_rows
check_numbers_hold x m n marks = (tt, tt)

file_numbers_hold : (x : LentFile) (n : ℕ) (marks : List ℕ) → T (all_in file_numbers (file_rows x n ++ bad_rows marks)) × Unused (file_rows x n) 0
unfolding file_rows walk_rows command_rows span_rows signature_rows rows head_rows index_rows directory_rows blob_rows field_rows slot_rows start_rows later_rows count_rows special_rows cache_rows form_rows lookup_rows launch_rows bad_rows
file_numbers_hold x n marks = (tt, tt)

call_numbers : (s : List ℕ) (c : Call) (marks new : List ℕ) → T (all_in recheck_numbers (call_rows s c marks ++ bad_rows new)) × Unused (call_rows s c marks) 0
unfolding call_rows signature_rows rows head_rows index_rows directory_rows blob_rows field_rows slot_rows count_rows input_rows range_rows mark_rows bad_rows
call_numbers s (recheck_of start size given) marks new = (tt, tt)

-- THE MARKS

-- tests that leave the marks where they refuse, and else answer by the new ones
module _ (tests : List Row) (unused : Unused tests 0) (old new : List ℕ) (place : ℕ) where
  abbrev answer : Answer
  answer = first (tests ++ bad_rows new) (refuse 0 place)

  -- where they pass, the answer is the new marks'
  judged_where : (first tests accepted).number ≡ 0 → answer ≡ judged new place
  unfolding judged
  judged_where e =
      first_append tests (bad_rows new) (refuse 0 place)
      ∙ sym (passes tests (first (bad_rows new) (refuse 0 place)) (passed tests accepted 0 unused e))

  -- so an answer other than 0 and 31 leaves the old ones
  leaves : (answer.number ≡ 0 → ⊥) → (answer.number ≡ 31 → ⊥) → cond (holds ((first tests accepted).number ≡? 0)) new old ≡ old
  unfolding holds
  leaves no_zero no-bad = by_test (eqb (first tests accepted).number 0) refl
    where
      by_test : (b : Bool) → eqb (first tests accepted).number 0 ≡ b → cond b new old ≡ old
      by_test false e = refl
      by_test true e =
          let n = ap (λ (a : Answer). a.number) (judged_where (eqb-true _ 0 e)) in
          absurd (⊎_elim (λ z. no_zero (n ∙ z)) (λ z. no-bad (n ∙ z)) (judged_number new place))

-- THE CALLS

module _ (x : Lent) (marks : List ℕ) where
  -- tests 1 to 30, and their numbers

  abbrev tests_of_check : List Row
  tests_of_check = check_rows (beside x) (length x.image) (length marks)

  numbers_of_check : T (all_in check_numbers (tests_of_check ++ bad_rows (marks_of x.signature x.image))) × Unused tests_of_check 0
  numbers_of_check = check_numbers_hold (beside x) (length x.image) (length marks) (marks_of x.signature x.image)

  check_in : OneOf check_numbers (check_answer x (length marks)).number
  unfolding check_answer check_table
  check_in =
      answer_in check_numbers (tests_of_check ++ bad_rows (marks_of x.signature x.image)) (refuse 0 (entry_for (beside x))) numbers_of_check.0 tt

  check_stays : ((check_answer x (length marks)).number ≡ 0 → ⊥) → ((check_answer x (length marks)).number ≡ 31 → ⊥) → check_marks x marks ≡ marks
  unfolding check_answer check_table check_marks
  check_stays = leaves tests_of_check numbers_of_check.1 marks (marks_of x.signature x.image) (entry_for (beside x))

module _ (x : LentFile) (marks : List ℕ) where
  abbrev new_marks : List ℕ
  new_marks = marks_of (signature_of x.file) (image_of x.file)

  file_in : OneOf file_numbers (file_answer x (length marks)).number
  unfolding file_answer file_table
  file_in =
      answer_in file_numbers (file_rows x (length marks) ++ bad_rows new_marks) (refuse 0 (entry_for (beside (apart x)))) (file_numbers_hold x (length marks) new_marks).0 tt

  file_stays : ((file_answer x (length marks)).number ≡ 0 → ⊥) → ((file_answer x (length marks)).number ≡ 31 → ⊥) → file_marks x marks ≡ marks
  unfolding file_answer file_table file_marks
  file_stays = leaves (file_rows x (length marks)) (file_numbers_hold x (length marks) new_marks).1 marks new_marks (entry_for (beside (apart x)))

module _ (s : List ℕ) (c : Call) (marks : List ℕ) where
  call_in : OneOf recheck_numbers (call_answer s c marks).number
  unfolding call_answer
  call_in =
      answer_in recheck_numbers (call_rows s c marks ++ bad_rows (remarked s c marks)) accepted (call_numbers s c marks (remarked s c marks)).0 tt

  call_stays : ((call_answer s c marks).number ≡ 0 → ⊥) → ((call_answer s c marks).number ≡ 31 → ⊥) → call_marks s c marks ≡ marks
  unfolding call_answer call_marks
  call_stays = leaves (call_rows s c marks) (call_numbers s c marks (remarked s c marks)).1 marks (remarked s c marks) 0

pub demand1 : Demand1
unfolding check_of call_of
demand1 =
    record {
      check_number = λ x marks v after e. rw (ap (λ (o : CheckOutcome). o.verdict.number) e) (check_in x marks);
      check_leaves = λ x marks v after e.
          rw (ap (λ (o : CheckOutcome). o.verdict.number) e, ap (λ (o : CheckOutcome). o.marks) e) (check_stays x marks);
      recheck_number = λ s c marks a after e. rw (ap (λ (o : CallOutcome). o.answer.number) e) (call_in s c marks);
      recheck_leaves = λ s c marks a after e.
          rw (ap (λ (o : CallOutcome). o.answer.number) e, ap (λ (o : CallOutcome). o.marks) e) (call_stays s c marks);
    }

pub file_demand1 : FileDemand1
unfolding file_of
file_demand1 =
    record {
      file_number = λ x marks v after e. rw (ap (λ (o : CheckOutcome). o.verdict.number) e) (file_in x marks);
      file_leaves = λ x marks v after e.
          rw (ap (λ (o : CheckOutcome). o.verdict.number) e, ap (λ (o : CheckOutcome). o.marks) e) (file_stays x marks);
    }
