-- Two whole checks that differ in what nothing depends on answer the same and leave the same marks. Tests 1 to 9 answer the same, and where they
-- pass the blobs that are read are equal (SameRead.antt). So the table is cut where what is read comes to mean something: tests 11 to 18 read the
-- directory where 1 to 10 pass; all behind reads that directory, the blobs that are there and the side files that are there, where 1 to 18 pass;
-- and marks depend on the image below the limit alone. Assumes nothing.
use Prim.Native.Nat.{ℕ, ◌+◌, ◌<◌, ◌≤◌}
use mathlib.Core.Bool.{Bool, true, false, cond, not, ◌&&◌, true≢false, false≢true}
use mathlib.Core.List.{List, [], ◌∷◌, ◌++◌}
use mathlib.Core.Logic.{⊎_elim}
use mathlib.Core.Path.{◌≡◌, refl, sym, ap, ap₂, ◌∙◌}
use native.Mathlib.Omega.{arith}
use lib.Dec.{eqb}
use lib.ListN.{length}
use Rattle.digest.specs.Kinds.{digest_of}
use Rattle.digest.specs.Same.{same}
use Rattle.refusals.specs.declared.Answer.{Answer}
use Rattle.refusals.specs.Refusals.{◌≤?◌, ◌≡?◌, holds, row, accepted, refuse, first, Passes}
use Rattle.refusals.proofs.Conditions.{said}
use Rattle.refusals.proofs.Exact.{passed}
use Rattle.refusals.proofs.Joined.{first_append, append_passes}
use Rattle.refusals.proofs.Alike.{first_behind, among_same}
use Rattle.layout.specs.SuperBlob.{count}
use Rattle.layout.specs.CodeDirectory.{directory_type, hash_type}
use Rattle.superblob.specs.Rows.{rows, position, has, blob_of}
use Rattle.directory.specs.Rows.{most_special_slots, directory, special_slot, blob_rows, directory_rows, signature_rows}
use Rattle.slots.specs.Slots.{is_empty, nothing, there, thing, fault_of, fault, special_rows}
use Rattle.marks.specs.Marks.{bad_rows}
use Rattle.marks.proofs.Marking.{marks_below}
use Rattle.admission.specs.Input.{Lent, beside, longest, page_bytes_of, limit_of, slots_of, marks_by, marks_of}
use Rattle.admission.specs.Check.{image_rows, later_rows, check_rows, entry_for, check_table, check_answer, check_marks, verdict_of, CheckOutcome, check_of}
use Rattle.admission.specs.Ignored.{Opaque, SameRead, Alike, Ignored}
use Rattle.admission.proofs.Outcomes.{check_unused}
use Rattle.admission.proofs.SameRead.{part_same, count_same, rows_same, position_same, has_same, blob_same}

-- the directory and the blobs that special slots cover are read
low_read : (k : ℕ) → k ≤ most_special_slots + 1 → Opaque k → ⊥
low_read k h = ⊎_elim (λ w. omega arith) (λ e. omega arith)

-- THE SIGNATURE: tests 1 to 18

module _ (s t : List ℕ) (alike : SameRead s t) (side : ℕ) where
  -- the directory, where tests 1 to 10 pass
  found_same : Passes (rows side s) → position s directory_type < count s → directory s ≡ directory t
  found_same p h = blob_same s t alike side p directory_type (low_read directory_type (omega arith)) h

  -- tests 10 to 18, where 1 to 9 pass
  directory_rows_same : (done : Answer) → Passes (rows side s) → first (directory_rows s) done ≡ first (directory_rows t) done
  unfolding directory_rows
  directory_rows_same done p =
      first_behind (row 10 (count s ≤? position s directory_type) 0 ∷ []) (blob_rows (directory s)) (blob_rows (directory t)) done done
      (λ h. ap (λ (d : List ℕ). first (blob_rows d) done) (found_same p h.0))
      ∙ ap₂ (λ (n i : ℕ). first (row 10 (n ≤? i) 0 ∷ blob_rows (directory t)) done) (count_same s t alike) (position_same s t alike side p directory_type)

  -- all, whatever stands behind them
  signature_rows_same : (done : Answer) → first (signature_rows side s) done ≡ first (signature_rows side t) done
  unfolding signature_rows
  signature_rows_same done =
      first_behind (rows side s) (directory_rows s) (directory_rows t) done done (directory_rows_same done)
      ∙ first_append (rows side s) (directory_rows t) done
      ∙ rows_same s t alike side (first (directory_rows t) done)
      ∙ sym (first_append (rows side t) (directory_rows t) done)

-- THE SIDE FILES AND THE THINGS

-- a length that counts only behind a flag
long_same : (a b : Bool) (l m : List ℕ) → a ≡ b → (a ≡ true → l ≡ m) → cond a (length l) 0 ≡ cond b (length m) 0
long_same true true l m e h = ap length (h refl)
long_same true false l m e h = absurd (true≢false e)
long_same false true l m e h = absurd (false≢true e)
long_same false false l m e h = refl

-- and a fault: of a thing that is not there no digest counts
pub fault_of_same : (kind : ℕ) (f a b : Bool) (l m slot : List ℕ) → a ≡ b → (a ≡ true → l ≡ m)
    → fault_of f a (same (digest_of kind l) slot) ≡ fault_of f b (same (digest_of kind m) slot)
unfolding fault_of
fault_of_same kind f true true l m slot e h = rw (h refl)
fault_of_same kind f true false l m slot e h = absurd (true≢false e)
fault_of_same kind f false true l m slot e h = absurd (false≢true e)
fault_of_same kind true false false l m slot e h = refl
fault_of_same kind false false false l m slot e h = refl

-- THE CHECKS

module _ (x y : Lent) (alike : Alike x y) where
  abbrev s : List ℕ
  s = x.signature

  abbrev t : List ℕ
  t = y.signature

  abbrev side : ℕ
  side = longest x.sides

  side_same : longest x.sides ≡ longest y.sides
  unfolding longest
  side_same =
      rw (
        long_same x.sides.info_there y.sides.info_there x.sides.info y.sides.info alike.info_flag alike.info_bytes,
        long_same x.sides.resources_there y.sides.resources_there x.sides.resources y.sides.resources alike.resources_flag alike.resources_bytes,
      )

  -- WHERE TESTS 1 TO 18 PASS

  module _ (p : Passes (signature_rows side s)) where
    formed_rows : Passes (rows side s) × (position s directory_type < count s)
    unfolding signature_rows directory_rows
    formed_rows = let w = append_passes (rows side s) (directory_rows s) p in (w.0, w.1.0)

    directory_same : directory s ≡ directory t
    directory_same = found_same s t alike.signatures side formed_rows.0 formed_rows.1

    -- the marks, and the entry of the cache

    marks_same : marks_of s x.image ≡ marks_of t y.image
    marks_same =
        marks_below (page_bytes_of s) (limit_of s) (slots_of s) x.image y.image
        (part_same (limit_of s) 0 x.image y.image alike.image_long (λ j l. alike.image_bytes p (0 + j) (omega arith)))
        ∙ ap (λ (d : List ℕ). marks_by d y.image) directory_same

    entry_same : entry_for (beside x) ≡ entry_for (beside y)
    unfolding entry_for
    entry_same = rw (alike.caches, directory_same)

    -- the things that special slots cover, where they are there

    there_same : (k : ℕ) → there s x.sides k ≡ there t y.sides k
    unfolding there
    there_same k = rw (alike.info_flag, alike.resources_flag, has_same s t alike.signatures side formed_rows.0 k)

    thing_same : (k : ℕ) → k ≤ most_special_slots + 1 → there s x.sides k ≡ true → thing s x.sides k ≡ thing t y.sides k
    unfolding there thing has
    thing_same k l = by_test (eqb k 1) (eqb k 3) (not (nothing k))
      where
        by_test : (a b c : Bool) → cond a x.sides.info_there (cond b x.sides.resources_there (c && holds (has s k))) ≡ true
            → cond a x.sides.info (cond b x.sides.resources (blob_of s k)) ≡ cond a y.sides.info (cond b y.sides.resources (blob_of t k))
        by_test true b c h = alike.info_bytes h
        by_test false true c h = alike.resources_bytes h
        by_test false false true h = blob_same s t alike.signatures side formed_rows.0 k (low_read k l) (said true (has s k) (sym h))
        by_test false false false h = absurd (false≢true h)

    fault_same : (k : ℕ) → k ≤ most_special_slots + 1 → fault s (directory t) x.sides k ≡ fault t (directory t) y.sides k
    unfolding fault
    fault_same k l =
        ap (cond (eqb k 0) 0)
        (fault_of_same (hash_type (directory t)) (is_empty (directory t) k) (there s x.sides k) (there t y.sides k) (thing s x.sides k) (thing t y.sides k) (special_slot (directory t) k)
        (there_same k) (thing_same k l))

    special_rows_same : special_rows s (directory t) x.sides ≡ special_rows t (directory t) y.sides
    unfolding special_rows
    special_rows_same =
        among_same (most_special_slots + 1) (fault s (directory t) x.sides) (fault t (directory t) y.sides) (21 ∷ 22 ∷ 23 ∷ []) fault_same

    -- tests 19 to 30
    rest_rows_same : (n : ℕ)
        → image_rows (directory s) (length x.image) ++ later_rows (beside x) (directory s) n
        ≡ image_rows (directory t) (length y.image) ++ later_rows (beside y) (directory t) n
    unfolding later_rows
    rest_rows_same n = rw (directory_same, alike.image_long, alike.caches, alike.launches, special_rows_same)

  -- TESTS 1 TO 30, whatever stands behind them where 1 to 18 pass

  check_rows_same : (n : ℕ) (d e : Answer) → (Passes (signature_rows side s) → d ≡ e)
      → first (check_rows (beside x) (length x.image) n) d ≡ first (check_rows (beside y) (length y.image) n) e
  unfolding check_rows
  check_rows_same n d e h =
      let rest = image_rows (directory t) (length y.image) ++ later_rows (beside y) (directory t) n in
      first_behind (signature_rows side s) _ rest d e (λ p. ap₂ first (rest_rows_same p n) (h p))
      ∙ first_append (signature_rows side s) rest e
      ∙ signature_rows_same s t alike.signatures side (first rest e)
      ∙ sym (first_append (signature_rows side t) rest e)
      ∙ ap (λ (l : ℕ). first (signature_rows l t ++ rest) e) side_same

  -- WHAT THE CHECKS ANSWER, and the marks that they leave

  check_answer_same : (n : ℕ) → check_answer x n ≡ check_answer y n
  unfolding check_answer check_table
  check_answer_same n =
      first_append (check_rows (beside x) (length x.image) n) _ _
      ∙ check_rows_same n _ _ (λ p. ap₂ (λ (m : List ℕ) (i : ℕ). first (bad_rows m) (refuse 0 i)) (marks_same p) (entry_same p))
      ∙ sym (first_append (check_rows (beside y) (length y.image) n) _ _)

  -- where tests 1 to 30 pass, 1 to 18 do
  signature_passed : (n : ℕ) → (first (check_rows (beside x) (length x.image) n) accepted).number ≡ 0 → Passes (signature_rows side s)
  unfolding check_rows
  signature_passed n z =
      (append_passes (signature_rows side s) _ (passed (check_rows (beside x) (length x.image) n) accepted 0 (check_unused (beside x) (length x.image) n).0 z)).0

  check_marks_same : (marks : List ℕ) → check_marks x marks ≡ check_marks y marks
  unfolding check_marks
  check_marks_same marks =
      rw (← check_rows_same (length marks) accepted accepted (λ p. refl)) (by_test (holds _) refl)
    where
      by_test : (b : Bool) → b ≡ holds ((first (check_rows (beside x) (length x.image) (length marks)) accepted).number ≡? 0)
          → cond b (marks_of s x.image) marks ≡ cond b (marks_of t y.image) marks
      by_test true e = marks_same (signature_passed (length marks) (said true _ e))
      by_test false e = refl

pub ignored : Ignored
unfolding check_of
ignored x y marks alike =
    ap₂ {C = CheckOutcome} (λ (a : Answer) (m : List ℕ). record { verdict = verdict_of a; marks = m })
    (check_answer_same x y alike (length marks)) (check_marks_same x y alike marks)
