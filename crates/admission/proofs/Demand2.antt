-- Demand 2. A whole check answers 0 exactly when no row of its table holds, and so exactly when the image may run (Accepted.antt). Where a row
-- holds, exactness of a table with distinct numbers says which is given.
use Prim.Native.Nat.{ℕ, ◌<◌}
use mathlib.Core.Bool.{Bool, true, false, cond}
use mathlib.Core.List.{List, ◌++◌}
use mathlib.Core.Logic.{◌⊎◌}
use mathlib.Core.Path.{◌≡◌, refl, sym, ap, subst, ◌∙◌}
use lib.Dec.{eqb}
use lib.ListN.{length, get_or}
use borrow.Author.Tests.{eqb-true}
use Rattle.digest.proofs.ByKind.{kinds_plainly}
use Rattle.refusals.specs.declared.Answer.{Answer}
use Rattle.refusals.specs.Refusals.{◌≡?◌, holds, Row, refuse, accepted, first, Passes}
use Rattle.refusals.proofs.Conditions.{says}
use Rattle.refusals.proofs.Exact.{Unused, Distinct, decides, passes, passed, exact}
use Rattle.refusals.proofs.Plain.{over_plainly, among_plainly}
use Rattle.refusals.proofs.Joined.{stops_at, stops, goes_on}
use Rattle.superblob.specs.Rows.{head_rows, index_rows, rows}
use Rattle.admission.specs.declared.Verdict.{Verdict}
use native.Mathlib.Omega.{arith}
use Rattle.directory.specs.Rows.{directory, field_rows, slot_rows, blob_rows, directory_rows, signature_rows}
use Rattle.slots.specs.Slots.{special_rows}
use Rattle.cdhash.specs.Hash.{cdhash}
use Rattle.cdhash.proofs.Cut.{length_cdhash}
use Rattle.layout.specs.TrustCache.{hash_at}
use Rattle.trustcache.specs.Rows.{form_rows, has_hash, lookup_rows}
use Rattle.trustcache.specs.Launch.{launch_rows}
use Rattle.trustcache.proofs.Order.{order_plainly}
use Rattle.trustcache.proofs.Form.{hash_length}
use Rattle.trustcache.proofs.Constraints.{self_plainly, parent_plainly}
use Rattle.trustcache.specs.Table.{cache_rows}
use Rattle.geometry.specs.Pages.{page_count, page_of, range_rows}
use Rattle.marks.specs.Marks.{agrees, mark_of, mark_rows, bad_rows}
use Rattle.geometry.proofs.Pages.{page_bytes_power}
use Rattle.marks.proofs.Marking.{agrees_equal, marks_at, marks_length}
use Rattle.admission.specs.Input.{Lent, beside, longest, page_bytes_of, limit_of, slots_of, marks_of}
use Rattle.admission.specs.Check.{image_rows, later_rows, count_rows, check_rows, entry_for, check_table, check_answer, verdict_of, CheckOutcome, check_of}
use Rattle.admission.specs.Recheck.{Call, recheck_of, input_rows, call_rows, remarked, call_answer, call_marks, CallOutcome, call_of}
use Rattle.admission.specs.Demand3.{answer_of}
use Rattle.admission.specs.File.{LentFile, apart, start_rows, file_rows, file_table, file_answer, file_of, FileChecked}
use Rattle.admission.specs.Demand2.{Check2, Recheck2, EntryHash, Demand2}
use Rattle.admission.specs.FileDemands.{File2, LargeApart, FileDemand2}
use Rattle.macho.specs.Rows.{walk_rows, signature_position, signature_start, signature_of}
use Rattle.macho.proofs.Walked.{walked, walked_exactly}
use Rattle.macho.proofs.Plainly.{walk_plainly}
use Rattle.macho.proofs.Parts.{start_below, parts_plainly}
use Rattle.admission.proofs.Accepted.{admissible_exactly, may_entry}
use Rattle.admission.proofs.Meets.{call_long, call_unmet, call_met}
use Rattle.admission.proofs.PageRules.{slot_is}
use Rattle.admission.proofs.Outcomes.{tests_pass, answer_passes, whole_marks}
use Rattle.admission.proofs.Files.{file_numbers_hold, file_is_check, file_passes}
use Rattle.admission.proofs.AcceptedFile.{admissible_file_exactly, may_file_entry}

-- THE DIRECTORY'S HASH has 20 bytes, as a listed one has

entry_hash : EntryHash
unfolding has_hash
entry_hash c i d w l k = order_plainly.is_equal (hash_at c i) (cdhash d) (hash_length c i w l) (length_cdhash d k)

-- THE WHOLE CHECK

-- no row gives 0, and no two rows give one number: both compute
check_numbers_hold : (x : Lent) (m : ℕ) → Unused (check_table x m) 0 × Distinct (check_table x m)
unfolding check_table check_rows signature_rows rows head_rows index_rows directory_rows blob_rows field_rows slot_rows image_rows later_rows count_rows special_rows cache_rows form_rows lookup_rows launch_rows bad_rows
check_numbers_hold x m = (tt, tt)

-- each is 0 exactly when its page agrees
mark_written : (s image : List ℕ) (i : ℕ) → i < page_count (page_bytes_of s) (limit_of s)
    → get_or (marks_of s image) i 0 ≡ cond (agrees (slots_of s) i (page_of (page_bytes_of s) (limit_of s) i image)) 0 1
unfolding mark_of
mark_written s image i h = marks_at (page_bytes_of s) (limit_of s) (slots_of s) image i h

-- of what a whole check answers and leaves
check2 : (x : Lent) (marks : List ℕ) → Check2 x marks (check_of x marks).verdict (check_of x marks).marks
unfolding check_of check_answer
check2 x marks =
    let m = length marks in
    let table = check_table x m in
    let done = refuse 0 (entry_for (beside x)) in
    let n = check_numbers_hold x m in
    let w = exact table done n.0 n.1 refl in
    let a = admissible_exactly x m in
    record {
      accepts = ((λ e. a.0 (w.accepts.0 e)), λ may. w.accepts.1 (a.1 may));
      entry = λ may. sym (ap (λ (a : Answer). a.place) (passes table done (a.1 may))) ∙ may_entry x m may;
      refuses = λ n p ne. ((λ e. (w.refuses n p ne).0 (ap answer_of e)), λ d. ap verdict_of ((w.refuses n p ne).1 d));
      marks_long =
          λ e.
          ap length (whole_marks x marks (answer_passes x m e))
          ∙ marks_length (page_bytes_of x.signature) (limit_of x.signature) (slots_of x.signature) x.image;
      marks_written =
          λ e i h. ap (λ (l : List ℕ). get_or l i 0) (whole_marks x marks (answer_passes x m e)) ∙ mark_written x.signature x.image i h;
    }

-- THE WHOLE CHECK OF A FILE

-- the marks are those of a whole check of its image and signature, where it answers 0 or 31
module _ (x : LentFile) (marks : List ℕ) (v : Verdict) (after : List ℕ) (c : FileChecked x marks v after) where
  abbrev f : List ℕ
  f = x.file

  as_check : (v.number ≡ 0) ⊎ (v.number ≡ 31) → Check2 (apart x) marks v after
  as_check z =
      let g = file_passes x marks v after c z in
      subst (λ (o : CheckOutcome). Check2 (apart x) marks o.verdict o.marks) (sym (c ∙ file_is_check x marks g.walk (λ q. g.at_limit))) (check2 (apart x) marks)

  file2 : File2 x marks v after
  unfolding file_of file_answer
  file2 =
      let m = length marks in
      let table = file_table x m in
      let done = refuse 0 (entry_for (beside (apart x))) in
      let n = file_numbers_hold x m in
      let w = exact table done n.no_zero n.distinct refl in
      let a = admissible_file_exactly x m in
      let e : v ≡ verdict_of (first table done) = ap (λ (o : CheckOutcome). o.verdict) c in
      record {
        accepts = ((λ z. a.0 (w.accepts.0 (sym (ap (λ (v : Verdict). v.number) e) ∙ z))), λ may. ap (λ (v : Verdict). v.number) e ∙ w.accepts.1 (a.1 may));
        entry = λ may. ap (λ (v : Verdict). v.place) e ∙ sym (ap (λ (a : Answer). a.place) (passes table done (a.1 may))) ∙ may_file_entry x m may;
        refuses = λ n p ne. ((λ q. (w.refuses n p ne).0 (ap answer_of (sym e ∙ q))), λ d. e ∙ ap verdict_of ((w.refuses n p ne).1 d));
        marks_long = λ z. (as_check z).marks_long z;
        marks_written = λ z. (as_check z).marks_written z;
      }

large_apart : LargeApart
unfolding file_of file_answer file_table file_rows start_rows
large_apart x marks v after c bytes p q l =
    let b = start_below x.file bytes (walked x.file p) in
    let d = directory (signature_of x.file) in
    let s = start_rows d (signature_start x.file) (signature_position x.file) in
    ap (λ (o : CheckOutcome). o.verdict) c
    ∙ ap verdict_of (sym (stops_at (file_rows x (length marks)) _ accepted _ (refuse 41 (signature_position x.file)) refl
    (goes_on (walk_rows x.file) _ accepted _ p
    (goes_on (signature_rows (longest x.sides) (signature_of x.file)) _ accepted _ q
    (stops s _ accepted _ (decides s accepted 41 (signature_position x.file) (omega arith)) (omega arith))))
    (omega arith)))

-- THE RECHECK

module _ (s : List ℕ) (c : Call) (marks : List ℕ) where
  abbrev tests : List Row
  tests = call_rows s c marks

  abbrev pages : List Row
  pages = bad_rows (remarked s c marks)

  -- a recheck's rows have distinct numbers, none of them 0, and none before the pages gives 31
  record CallNumbers : Type 0 where
    no_zero : Unused (tests ++ pages) 0
    distinct : Distinct (tests ++ pages)
    tests_no_zero : Unused tests 0
    tests_no_31 : Unused tests 31

  -- then the marks left are the new ones
  call_left : Passes tests → call_marks s c marks ≡ remarked s c marks
  unfolding call_marks
  call_left p = rw (← says true ((first tests accepted).number ≡? 0) (sym (ap (λ (a : Answer). a.number) (passes tests accepted p))))

  -- and else those before, so that what both have the marks left have
  call_either : (Has : List ℕ → Type 0) → Unused tests 0 → (Passes tests → Has (remarked s c marks)) → Has marks → Has (call_marks s c marks)
  unfolding call_marks holds
  call_either Has unused new old = by_test (eqb (first tests accepted).number 0) refl
    where
      by_test : (b : Bool) → eqb (first tests accepted).number 0 ≡ b → Has (cond b (remarked s c marks) marks)
      by_test true e = new (passed tests accepted 0 unused (eqb-true _ _ e))
      by_test false e = old

call_numbers : (s : List ℕ) (c : Call) (marks : List ℕ) → CallNumbers s c marks
unfolding call_rows input_rows range_rows mark_rows signature_rows rows head_rows index_rows directory_rows blob_rows field_rows slot_rows count_rows bad_rows
call_numbers s (recheck_of start size new) marks = record { no_zero = tt; distinct = tt; tests_no_zero = tt; tests_no_31 = tt }

-- of what a recheck answers and leaves
recheck2 : (s : List ℕ) (c : Call) (marks : List ℕ) → Recheck2 s c marks (call_of s c marks).answer (call_of s c marks).marks
unfolding call_of call_answer
recheck2 s c marks =
    let table = call_rows s c marks ++ bad_rows (remarked s c marks) in
    let n = call_numbers s c marks in
    let w = exact table accepted n.no_zero n.distinct refl in
    let pass = tests_pass (call_rows s c marks) (remarked s c marks) accepted n.tests_no_zero n.tests_no_31 in
    record {
      accepts = w.accepts;
      place = λ e. sym (ap (λ (a : Answer). a.place) (passes table accepted (w.accepts.0 e)));
      refuses = w.refuses;
      marks_written = λ e. call_left s c marks (pass e);
      marks_long = call_either s c marks (λ l. length l ≡ length marks) n.tests_no_zero (call_long s c marks) refl;
      unmet_stays =
          λ i m. call_either s c marks (λ l. get_or l i 0 ≡ get_or marks i 0) n.tests_no_zero (λ p. call_unmet s c marks p i m) refl;
      met_written =
          λ e i m. ap (λ (l : List ℕ). get_or l i 0) (call_left s c marks (pass e)) ∙ call_met s c marks (pass e) i m;
    }

pub demand2 : Demand2
demand2 =
    record {
      plainly =
          record {
            over_positions = over_plainly;
            several_numbers = among_plainly;
            page_size_known = page_bytes_power;
            agrees_exactly = agrees_equal;
            hash_kinds = kinds_plainly;
            code_slots_are = slot_is;
            hash_order = order_plainly;
            entry_hash = entry_hash;
            self_constraint = self_plainly;
            parent_constraint = parent_plainly;
          };
      check = λ x marks v after e. subst (λ (o : CheckOutcome). Check2 x marks o.verdict o.marks) (sym e) (check2 x marks);
      recheck = λ s c marks a after e. subst (λ (o : CallOutcome). Recheck2 s c marks o.answer o.marks) (sym e) (recheck2 s c marks);
    }

pub file_demand2 : FileDemand2
file_demand2 =
    record {
      plainly = record { load_commands = walk_plainly; walked = walked_exactly; file_parts = parts_plainly };
      file = file2;
      as_apart = file_is_check;
      large_apart = large_apart;
    }
