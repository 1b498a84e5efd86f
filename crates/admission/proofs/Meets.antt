-- The pages that a range meets run from the first met to before the end, and they are those that share a byte with it. Of marks with those of
-- the pages met put in anew, these are the new ones, and the others are as they were. Assumes nothing.
use Prim.Native.Nat.{ℕ, ◌+◌, ◌-◌, ◌≤◌, ◌<◌}
use mathlib.Core.Bool.{Bool, true, false, cond, ◌&&◌, true≢false, false≢true}
use mathlib.Core.List.{List, ◌++◌}
use mathlib.Core.Logic.{◌⊎◌, inl, inr, ⊎_elim}
use mathlib.Core.Path.{◌≡◌, refl, sym, ap, ap₂, ◌∙◌}
use native.Mathlib.Nat.{add-zero, add-sub_of_le}
use native.Mathlib.Omega.{arith}
use lib.Dec.{ltb, leb}
use lib.ListN.{length, get_or, take, drop}
use borrow.Author.Tests.{ltb-true, ltb-false, leb-true, leb-false, lt-ltb, le-leb}
use Rattle.refusals.specs.Refusals.{accepted, first, Passes}
use Rattle.refusals.proofs.Exact.{passes_zero}
use Rattle.directory.specs.Rows.{directory}
use Rattle.directory.proofs.Formed.{signature_exactly}
use Rattle.directory.proofs.Pages.{fits}
use Rattle.geometry.specs.Pages.{part, met_first, met_end, splice}
use Rattle.marks.specs.Marks as Marks
use Rattle.marks.specs.Marks.{Slots, agrees, mark_of, mark_in, marks_from, RangeHere}
use Rattle.geometry.proofs.Parts.{part_at, splice_before, splice_inside, splice_after}
use Rattle.marks.proofs.Tabs.{tab_length, tab_at}
use Rattle.marks.proofs.Marking.{cut_order, cut_within, remarked_length}
use Rattle.geometry.proofs.Pages.{meets_exactly}
use Rattle.admission.specs.Input.{page_bytes_of, limit_of, slots_of}
use Rattle.admission.specs.Recheck.{Call, recheck_of, call_rows, remarked}
use Rattle.admission.specs.Meets.{meets, met_by, lent_page, Meets}
use Rattle.admission.proofs.Calls.{range_here}

-- A RANGE

module _ (s : List ℕ) (start size i : ℕ) where
  -- a page met is one of those from the first met to before the end ...
  pub met : meets s start size i ≡ true → (met_first (page_bytes_of s) start size ≤ i) × (i < met_end (page_bytes_of s) start size)
  met h = by_test (leb (met_first (page_bytes_of s) start size) i) refl (ltb i (met_end (page_bytes_of s) start size)) refl h
    where
      by_test : (a : Bool) → leb (met_first (page_bytes_of s) start size) i ≡ a → (b : Bool) → ltb i (met_end (page_bytes_of s) start size) ≡ b → (a && b) ≡ true
          → (met_first (page_bytes_of s) start size ≤ i) × (i < met_end (page_bytes_of s) start size)
      by_test false e b f h = absurd (false≢true h)
      by_test true e false f h = absurd (false≢true h)
      by_test true e true f h = (leb-true _ _ e, ltb-true _ _ f)

  -- ... and one that is not met lies before them or after them
  pub unmet : meets s start size i ≡ false → (i < met_first (page_bytes_of s) start size) ⊎ (met_end (page_bytes_of s) start size ≤ i)
  unmet h = by_test (leb (met_first (page_bytes_of s) start size) i) refl (ltb i (met_end (page_bytes_of s) start size)) refl h
    where
      by_test : (a : Bool) → leb (met_first (page_bytes_of s) start size) i ≡ a → (b : Bool) → ltb i (met_end (page_bytes_of s) start size) ≡ b → (a && b) ≡ false
          → (i < met_first (page_bytes_of s) start size) ⊎ (met_end (page_bytes_of s) start size ≤ i)
      by_test false e b f h = inl (leb-false _ _ e)
      by_test true e false f h = inr (ltb-false _ _ f)
      by_test true e true f h = absurd (true≢false h)

-- so the pages met are those that share a byte with the range
pub meets_shared : Meets
meets_shared s start size i p h =
    let e = meets_exactly (page_bytes_of s) (limit_of s) start size i (fits (directory s) ((signature_exactly 0 s).0 p).formed) h in
    ((λ m. e.0 (met s start size i m)), λ k. ap₂ ◌&&◌ (le-leb _ _ (e.1 k).0) (lt-ltb _ _ (e.1 k).1))

-- MARKS PUT IN

-- two lists have one element where they have one part of length 1
same_one : (l m : List ℕ) (i j : ℕ) → part l i (i + 1) ≡ part m j (j + 1) → get_or l i 0 ≡ get_or m j 0
same_one l m i j e = sym (part_one l i) ∙ ap (λ (q : List ℕ). get_or q 0 0) e ∙ part_one m j
  where
    part_one : (l : List ℕ) (i : ℕ) → get_or (part l i (i + 1)) 0 0 ≡ get_or l i 0
    part_one l i = part_at l i (i + 1) 0 (omega arith) ∙ ap (λ (k : ℕ). get_or l k 0) (add-zero i)

-- a range that passes 32 and 33, with a mark for each page
module _ (p limit : ℕ) (slots : Slots) (start size : ℕ) (new marks : List ℕ) (h : RangeHere p limit slots start size new marks) where
  -- the first page met, and the page behind the last
  abbrev begin : ℕ
  begin = met_first p start size

  abbrev end : ℕ
  end = met_end p start size

  -- the marks of the pages met
  abbrev put : List ℕ
  put = marks_from p limit slots begin (end - begin) new

  put_end : begin + length put ≡ end
  unfolding marks_from
  put_end = omega (arith, cut_order p limit slots start size new marks h, tab_length begin (end - begin) (mark_in p limit slots begin new))

  put_within : begin + length put ≤ length marks
  put_within = omega (arith, put_end, cut_within p limit slots start size new marks h)

  -- take the place of those before
  put_in : Marks.remarked p limit slots start size new marks ≡ splice marks begin put
  unfolding Marks.remarked
  put_in = ap (λ (k : ℕ). take begin marks ++ put ++ drop k marks) (sym put_end)

  remarked_met : (i : ℕ) → begin ≤ i → i < end → get_or (Marks.remarked p limit slots start size new marks) i 0 ≡ mark_in p limit slots begin new i
  unfolding marks_from
  remarked_met i l u =
      let n : i + 1 - begin ≡ i - begin + 1 = omega arith in
      ap (λ (q : List ℕ). get_or q i 0) put_in
      ∙ same_one (splice marks begin put) put i (i - begin)
      (splice_inside marks begin put put_within i (i + 1) l (omega (arith, put_end)) ∙ ap (part put (i - begin)) n)
      ∙ tab_at begin (end - begin) (mark_in p limit slots begin new) (i - begin) 0 (omega arith)
      ∙ ap (mark_in p limit slots begin new) (add-sub_of_le l)

  remarked_unmet : (i : ℕ) → (i < begin) ⊎ (end ≤ i) → get_or (Marks.remarked p limit slots start size new marks) i 0 ≡ get_or marks i 0
  remarked_unmet i w =
      ap (λ (q : List ℕ). get_or q i 0) put_in
      ∙ same_one (splice marks begin put) marks i i
      (⊎_elim
      (λ u. splice_before marks begin put put_within i (i + 1) (omega arith))
      (λ u. splice_after marks begin put put_within i (i + 1) (omega (arith, put_end)))
      w)

-- THE NEW MARKS OF A CALL, where the tests before the pages pass

range : (s : List ℕ) (start size : ℕ) (new marks : List ℕ) → Passes (call_rows s (recheck_of start size new) marks)
    → RangeHere (page_bytes_of s) (limit_of s) (slots_of s) start size new marks
range s start size new marks p =
    let tests = call_rows s (recheck_of start size new) marks in
    range_here s start size new marks (first tests accepted) refl (passes_zero tests accepted refl p) (directory s) refl

-- they are as many as before
pub call_long : (s : List ℕ) (c : Call) (marks : List ℕ) → Passes (call_rows s c marks) → length (remarked s c marks) ≡ length marks
unfolding remarked
call_long s (recheck_of start size new) marks p =
    remarked_length (page_bytes_of s) (limit_of s) (slots_of s) start size new marks (range s start size new marks p)

-- one of a page that is not met is as before
pub call_unmet : (s : List ℕ) (c : Call) (marks : List ℕ) → Passes (call_rows s c marks) → (i : ℕ) → met_by s c i ≡ false
    → get_or (remarked s c marks) i 0 ≡ get_or marks i 0
unfolding remarked
call_unmet s (recheck_of start size new) marks p i m =
    remarked_unmet (page_bytes_of s) (limit_of s) (slots_of s) start size new marks (range s start size new marks p) i (unmet s start size i m)

-- one of a page met is that of the lent page
pub call_met : (s : List ℕ) (c : Call) (marks : List ℕ) → Passes (call_rows s c marks) → (i : ℕ) → met_by s c i ≡ true
    → get_or (remarked s c marks) i 0 ≡ cond (agrees (slots_of s) i (lent_page s c i)) 0 1
unfolding remarked mark_of
call_met s (recheck_of start size new) marks p i m =
    let q = met s start size i m in
    remarked_met (page_bytes_of s) (limit_of s) (slots_of s) start size new marks (range s start size new marks p) i q.0 q.1
