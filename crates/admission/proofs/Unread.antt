-- The bytes of a side file whose flag is off count for nothing: a check answers the same, and leaves the same marks, where it is lent none.
use Prim.Native.Nat.{ℕ, ◌+◌, ◌≤◌}
use mathlib.Core.Bool.{Bool, true, false, cond, not, ◌&&◌, false≢true}
use mathlib.Core.List.{List, [], ◌∷◌}
use mathlib.Core.Path.{◌≡◌, refl, ap}
use lib.Dec.{eqb}
use Rattle.refusals.specs.Refusals.{holds}
use Rattle.refusals.proofs.Alike.{among_same}
use Rattle.layout.specs.CodeDirectory.{hash_type}
use Rattle.superblob.specs.Rows.{has, blob_of}
use Rattle.directory.specs.Rows.{most_special_slots, special_slot}
use Rattle.slots.specs.Slots.{sides, is_empty, nothing, there, thing, fault, special_rows}
use Rattle.slots.specs.Lent.{sides_read}
use Rattle.trustcache.specs.declared.launch.Launch.{Launch}
use Rattle.admission.specs.Input.{longest, besides, lent}
use Rattle.admission.specs.Check.{check_rows, check_tested, check_table, check_answer, check_marks, later_rows, entry_for, check_of}
use Rattle.admission.specs.File.{lent_file, file_rows, file_table, file_answer, file_marks, file_of}
use Rattle.admission.proofs.Ignored.{fault_of_same}

module _ (a : Bool) (l : List ℕ) (b : Bool) (m : List ℕ) where
  -- the bytes that count
  counts : (t : Bool) (k : List ℕ) → t ≡ true → k ≡ cond t k []
  counts true k e = refl
  counts false k e = absurd (false≢true e)

  longest_read : longest (sides a l b m) ≡ longest (sides_read a l b m)
  unfolding longest
  longest_read = by a b
    where
      by : (t u : Bool) → longest (sides t l u m) ≡ longest (sides_read t l u m)
      by true true = refl
      by true false = refl
      by false true = refl
      by false false = refl

  module _ (s d : List ℕ) where
    thing_read : (k : ℕ) → there s (sides a l b m) k ≡ true → thing s (sides a l b m) k ≡ thing s (sides_read a l b m) k
    unfolding there thing
    thing_read k = by_test (eqb k 1) (eqb k 3)
      where
        by_test : (t u : Bool) → cond t a (cond u b (not (nothing k) && holds (has s k))) ≡ true
            → cond t l (cond u m (blob_of s k)) ≡ cond t (cond a l []) (cond u (cond b m []) (blob_of s k))
        by_test true u h = counts a l h
        by_test false true h = counts b m h
        by_test false false h = refl

    fault_read : (k : ℕ) → k ≤ most_special_slots + 1 → fault s d (sides a l b m) k ≡ fault s d (sides_read a l b m) k
    unfolding fault there
    fault_read k h =
        ap (cond (eqb k 0) 0)
        (fault_of_same (hash_type d) (is_empty d k) (there s (sides a l b m) k) (there s (sides_read a l b m) k) (thing s (sides a l b m) k) (thing s (sides_read a l b m) k) (special_slot d k)
        refl (thing_read k))

    pub special_read : special_rows s d (sides a l b m) ≡ special_rows s d (sides_read a l b m)
    unfolding special_rows
    special_read = among_same (most_special_slots + 1) (fault s d (sides a l b m)) (fault s d (sides_read a l b m)) (21 ∷ 22 ∷ 23 ∷ []) fault_read

  pub tested_unread : (signature cache : List ℕ) (facts : Launch) (image_length marks_length : ℕ)
      → check_tested (record { signature = signature; cache = cache; sides = sides_read a l b m; facts = facts }) image_length marks_length
      ≡ check_tested (besides signature cache a l b m facts) image_length marks_length
  unfolding check_rows later_rows entry_for
  tested_unread signature cache facts image_length marks_length = rw (← longest_read, ← special_read signature _) refl

  pub check_unread : (signature image cache : List ℕ) (facts : Launch) (marks : List ℕ)
      → check_of (record { signature = signature; image = image; cache = cache; sides = sides_read a l b m; facts = facts }) marks
      ≡ check_of (lent signature image cache a l b m facts) marks
  unfolding check_of check_answer check_table check_marks check_rows later_rows entry_for
  check_unread signature image cache facts marks = rw (← longest_read, ← special_read signature _) refl

  pub file_unread : (file cache : List ℕ) (facts : Launch) (marks : List ℕ)
      → file_of (record { file = file; cache = cache; sides = sides_read a l b m; facts = facts }) marks ≡ file_of (lent_file file cache a l b m facts) marks
  unfolding file_of file_answer file_table file_marks file_rows later_rows entry_for
  file_unread file cache facts marks = rw (← longest_read, ← special_read _ _) refl
