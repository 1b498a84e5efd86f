-- Test 31 and the rule of the pages. A mark is 1 exactly where the page's digest is not its slot, so no mark is 1 exactly where every page
-- agrees.
use Prim.Native.Nat.{ℕ, ◌<◌}
use mathlib.Core.List.{List}
use mathlib.Core.Path.{◌≡◌, sym, ◌∙◌}
use mathlib.Core.Bool.{false}
use native.Mathlib.Omega.{arith}
use lib.ListN.{length}
use Rattle.refusals.specs.Refusals.{Passes}
use Rattle.refusals.proofs.Conditions.{said}
use Rattle.refusals.proofs.Positions.{lowest_below, none_fails}
use Rattle.layout.specs.CodeDirectory.{slot_width, n_code_slots}
use Rattle.geometry.specs.Pages.{page_count, page_of}
use Rattle.marks.specs.Marks.{slot_at, marks_of, differs, bad_rows}
use Rattle.marks.proofs.Marking.{mark_exact, mark_small, marks_length, marks_at}
use Rattle.directory.specs.Pages.{code_limit, P, pages}
use Rattle.directory.proofs.Slots.{code_slot_part}
use Rattle.admission.specs.Input.{slots_by}
use Rattle.admission.specs.Admissible.{PagesAgree}
use Rattle.admission.specs.Demand2.{CodeSlotsAre}

-- the slot that the marks go by is the directory's
pub slot_is : CodeSlotsAre
unfolding slot_at slot_width
slot_is d i h = code_slot_part d i h

-- the directory's slots are as many as the pages
as_many : (d : List ℕ) → n_code_slots d ≡ pages d → n_code_slots d ≡ page_count (P d) (code_limit d)
unfolding pages
as_many d e = e

module _ (d image : List ℕ) (slot_a_page : n_code_slots d ≡ pages d) where
  abbrev marks : List ℕ
  marks = marks_of (P d) (code_limit d) (slots_by d) image

  -- test 31 passes exactly where every page agrees
  pub good_pages : Passes (bad_rows marks) → PagesAgree d image
  unfolding bad_rows differs
  good_pages p i h =
      let n = as_many d slot_a_page in
      let m = marks_length (P d) (code_limit d) (slots_by d) image in
      let l = said false (differs marks i) (lowest_below (differs marks) (length marks) p.0 i (omega arith)) in
      let a = marks_at (P d) (code_limit d) (slots_by d) image i (omega arith) in
      let b = mark_small (slots_by d) i (page_of (P d) (code_limit d) i image) in
      (mark_exact (slots_by d) i (page_of (P d) (code_limit d) i image)).0 (omega arith) ∙ sym (slot_is d i h)

  pub pages_good : PagesAgree d image → Passes (bad_rows marks)
  unfolding bad_rows differs
  pages_good h =
      let n = as_many d slot_a_page in
      let m = marks_length (P d) (code_limit d) (slots_by d) image in
      let q =
      none_fails (differs marks) (length marks)
      (λ i l.
      let a = marks_at (P d) (code_limit d) (slots_by d) image i (omega arith) in
      let u : i < n_code_slots d = omega arith in
      let z = (mark_exact (slots_by d) i (page_of (P d) (code_limit d) i image)).1 (h i u ∙ slot_is d i u) in
      omega arith) in
      (omega arith, tt)
