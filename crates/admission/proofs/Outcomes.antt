-- What a whole check that answers 0 or 31 has passed, answers and leaves, and what a recheck comes to where only 32 and 33 can refuse it.
-- No row of tests 1 to 30 has the number 0 or 31, so that either answer tells that all of them passed.
use Prim.Native.Nat.{ℕ, ◌≤◌}
use mathlib.Core.Bool.{Bool, true, false, cond}
use mathlib.Core.List.{List, ◌++◌}
use mathlib.Core.Logic.{◌⊎◌, ⊎_elim}
use mathlib.Core.Path.{◌≡◌, refl, sym, ap, ◌∙◌}
use native.Mathlib.Omega.{arith}
use lib.Dec.{eqb}
use lib.ListN.{length}
use Rattle.refusals.specs.declared.Answer.{Answer}
use Rattle.refusals.specs.Refusals.{holds, Row, refuse, accepted, first, Passes}
use Rattle.refusals.proofs.Exact.{Unused, passes, passed}
use Rattle.refusals.proofs.Joined.{first_append, append_passes}
use Rattle.layout.specs.CodeDirectory.{n_code_slots}
use Rattle.superblob.specs.Rows.{rows, head_rows, index_rows}
use Rattle.directory.specs.Rows.{directory, field_rows, slot_rows, blob_rows, directory_rows, signature_rows}
use Rattle.directory.specs.Formed.{SignatureFormed}
use Rattle.directory.proofs.Formed.{signature_exactly}
use Rattle.directory.proofs.Pages.{counted, fits}
use Rattle.slots.specs.Slots.{special_rows}
use Rattle.trustcache.specs.Rows.{form_rows, lookup_rows}
use Rattle.trustcache.specs.Launch.{launch_rows}
use Rattle.trustcache.specs.Table.{cache_rows}
use Rattle.geometry.specs.Pages.{Fit, page_count, range_rows}
use Rattle.marks.specs.Marks.{mark_rows, bad_rows, judged}
use Rattle.marks.proofs.Marking.{judged_place}
use Rattle.admission.specs.Input.{Beside, Lent, beside, with_image, longest, page_bytes_of, limit_of, marks_of}
use Rattle.admission.specs.Check.{image_rows, later_rows, count_rows, check_rows, entry_for, check_table, check_answer, check_marks}
use Rattle.admission.specs.Recheck.{Call, recheck_of, input_rows, call_rows, remarked, call_answer, call_marks}
use Rattle.admission.specs.Demand3.{turned_down, placeless}

-- TESTS BEFORE THE PAGES pass, where the answer is 0 or 31 and none of them has that number

pub tests_pass : (tests : List Row) (new : List ℕ) (done : Answer) → Unused tests 0 → Unused tests 31
    → ((first (tests ++ bad_rows new) done).number ≡ 0) ⊎ ((first (tests ++ bad_rows new) done).number ≡ 31) → Passes tests
tests_pass tests new done no_zero no-31 h = ⊎_elim (by_number 0 no_zero) (by_number 31 no-31) h
  where
    by_number : (k : ℕ) → Unused tests k → (first (tests ++ bad_rows new) done).number ≡ k → Passes tests
    by_number k u e = passed tests (first (bad_rows new) done) k u (sym (ap (λ (a : Answer). a.number) (first_append tests (bad_rows new) done)) ∙ e)

-- TESTS 1 TO 30

-- no row has the number 0, and none has 31
pub check_unused : (x : Beside) (m n : ℕ) → Unused (check_rows x m n) 0 × Unused (check_rows x m n) 31
unfolding check_rows signature_rows rows head_rows index_rows directory_rows blob_rows field_rows slot_rows image_rows later_rows count_rows special_rows cache_rows form_rows lookup_rows launch_rows
check_unused x m n = (tt, tt)

-- the answer of a whole check is that of tests 1 to 30, and then of the pages
answer_split : (x : Lent) (n : ℕ) → check_answer x n ≡ first (check_rows (beside x) (length x.image) n) (judged (marks_of x.signature x.image) (entry_for (beside x)))
unfolding check_answer check_table judged
answer_split x n = first_append (check_rows (beside x) (length x.image) n) (bad_rows (marks_of x.signature x.image)) (refuse 0 (entry_for (beside x)))

-- they see the image by its length alone
pub other_image : (x : Lent) (image : List ℕ) (m n : ℕ) → check_rows (beside (with_image x image)) m n ≡ check_rows (beside x) m n
unfolding check_rows
other_image x image m n = refl

-- a whole check that answers 0 or 31 has passed them
pub answer_passes : (x : Lent) (n : ℕ) → ((check_answer x n).number ≡ 0) ⊎ ((check_answer x n).number ≡ 31) → Passes (check_rows (beside x) (length x.image) n)
unfolding check_answer check_table
answer_passes x n h =
    let u = check_unused (beside x) (length x.image) n in
    tests_pass (check_rows (beside x) (length x.image) n) (marks_of x.signature x.image) (refuse 0 (entry_for (beside x))) u.0 u.1 h

-- where they pass, it answers by the marks of the image ...
pub whole_answer_is : (x : Lent) (n : ℕ) → Passes (check_rows (beside x) (length x.image) n)
    → check_answer x n ≡ judged (marks_of x.signature x.image) (entry_for (beside x))
whole_answer_is x n p = answer_split x n ∙ sym (passes (check_rows (beside x) (length x.image) n) _ p)

-- ... and leaves them
pub whole_marks : (x : Lent) (marks : List ℕ) → Passes (check_rows (beside x) (length x.image) (length marks))
    → check_marks x marks ≡ marks_of x.signature x.image
unfolding check_marks holds
whole_marks x marks p = rw (← passes (check_rows (beside x) (length x.image) (length marks)) accepted p)

-- without the place of a 0, that is a recheck's answer
pub placeless_judged : (marks : List ℕ) (place : ℕ) → placeless (judged marks place) ≡ judged marks 0
unfolding placeless
placeless_judged marks place = judged_place marks place placeless refl (λ q. refl)

-- what their passing says of the signature and the image's length
pub record Ready (s : List ℕ) (image_length : ℕ) : Type 0 where
  pub sound : Passes (signature_rows 0 s)
  pub long : limit_of s ≤ image_length
  pub slotted : n_code_slots (directory s) ≡ page_count (page_bytes_of s) (limit_of s)
  pub fits : Fit (page_bytes_of s) (limit_of s)

-- tests 1 to 18 pass without side files where they do with them
sound_of : (side : ℕ) (s : List ℕ) → SignatureFormed side s → Passes (signature_rows 0 s)
sound_of side s f =
    (signature_exactly 0 s).1
    (record { superblob = f.superblob; short = omega arith; has_directory = f.has_directory; formed = f.formed })

pub ready : (x : Beside) (m n : ℕ) → Passes (check_rows x m n) → Ready x.signature m
unfolding check_rows image_rows
ready x m n p =
    let q = append_passes (signature_rows (longest x.sides) x.signature) _ p in
    let w = (signature_exactly (longest x.sides) x.signature).0 q.0 in
    record {
      sound = sound_of (longest x.sides) x.signature w;
      long = q.1.0;
      slotted = counted (directory x.signature) w.formed _ refl;
      fits = fits (directory x.signature) w.formed;
    }

-- A RECHECK, where tests 1 to 18, 20 and 34 pass: 32 and 33, and then the pages
module _ (s : List ℕ) (c : Call) (marks : List ℕ)
    (sound : Passes (signature_rows 0 s)) (enough : Passes (count_rows (directory s) (length marks))) (even : Passes (mark_rows marks)) where
  -- the tests before the pages answer as 32 and 33 do
  call_first : (done : Answer) → first (call_rows s c marks) done ≡ first (input_rows s c) done
  unfolding call_rows
  call_first done =
      first_append (signature_rows 0 s) _ done
      ∙ sym (passes (signature_rows 0 s) _ sound)
      ∙ first_append (count_rows (directory s) (length marks)) _ done
      ∙ sym (passes (count_rows (directory s) (length marks)) _ enough)
      ∙ first_append (input_rows s c) (mark_rows marks) done
      ∙ ap (first (input_rows s c)) (sym (passes (mark_rows marks) done even))

  -- so it answers by them and then by its new marks, and leaves these where they pass
  pub call_answer_is : call_answer s c marks ≡ first (input_rows s c) (judged (remarked s c marks) 0)
  unfolding call_answer judged
  call_answer_is = first_append (call_rows s c marks) (bad_rows (remarked s c marks)) accepted ∙ call_first (judged (remarked s c marks) 0)

  pub call_marks_are : call_marks s c marks ≡ cond (eqb (turned_down s c) 0) (remarked s c marks) marks
  unfolding call_marks holds turned_down
  call_marks_are = rw (call_first accepted)

-- 32 and 33 have place 0, so that the number that a call is turned down with is the whole answer
pub turned_first : (s : List ℕ) (c : Call) (done : Answer) → first (input_rows s c) done ≡ cond (eqb (turned_down s c) 0) done (refuse (turned_down s c) 0)
unfolding turned_down input_rows range_rows first
turned_first s (recheck_of start size lent) done = by_test (holds _) (holds _)
  where
    by_test : (a b : Bool) → cond a (refuse 32 0) (cond b (refuse 33 0) done)
        ≡ cond (eqb (cond a (refuse 32 0) (cond b (refuse 33 0) accepted)).number 0) done (refuse (cond a (refuse 32 0) (cond b (refuse 33 0) accepted)).number 0)
    by_test true b = refl
    by_test false true = refl
    by_test false false = refl
