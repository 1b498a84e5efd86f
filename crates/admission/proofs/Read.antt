-- The pages that are marked by a directory d, from the page size, the code limit and the slots that are read of it. Assumes nothing.
use Prim.Native.Nat.{ℕ, ◌-◌, ◌≤◌}
use mathlib.Core.List.{List, ◌++◌}
use mathlib.Core.Path.{◌≡◌, refl, ap, ◌∙◌}
use native.Mathlib.Omega.{arith}
use lib.ListN.{length, take, drop}
use Rattle.layout.specs.CodeDirectory.{slot_width}
use Rattle.directory.specs.Pages.{code_limit, P}
use Rattle.geometry.specs.Pages.{met_first, met_end}
use Rattle.marks.specs.Marks.{slots_of_kind, marks_from, remarked, PagesHere, RangeHere}
use Rattle.marks.proofs.Marking.{whole_here, whole_marks, cut_order, cut_within, cut_here, put_remarked}
use Rattle.marks.specs.declared.Pages.{Pages}
use Rattle.marks.specs.Lent.{marks_at, AllHere}
use Rattle.admission.specs.Lent.{PagesOf}
use Rattle.admission.specs.Input.{slots_by, marks_by, ImageHere}

-- a part that lies in a list of n
pub record Inside (from end n : ℕ) : Type 0 where
  pub order : from ≤ end
  pub within : end ≤ n

-- pages of a directory d with what is lent of them
module _ (d : List ℕ) (from : ℕ) (bytes : List ℕ) (pages : Pages) (e : PagesOf d from bytes pages) where
  pub here_of : (n : ℕ) → PagesHere (P d) (code_limit d) (slots_by d) from n bytes → AllHere pages n
  here_of n h = rw (e.p_is, e.limit_is, e.kind_is, e.slots_is, e.from_is, e.bytes_is) h

  pub marked_of : (n : ℕ) (new : List ℕ) → new ≡ marks_at pages n → new ≡ marks_from (P d) (code_limit d) (slots_by d) from n bytes
  marked_of n new k =
      k ∙ (λ i. marks_from (e.p_is i) (e.limit_is i) (slots_of_kind (e.kind_is i) (e.slots_is i)) (e.from_is i) n (e.bytes_is i))

-- the same pages with another first one
pub from_page : (d : List ℕ) (bytes : List ℕ) (pages : Pages) (from : ℕ) → PagesOf d 0 bytes pages → PagesOf d from bytes (record pages { from = from })
from_page d bytes pages from e =
    record { p_is = e.p_is; limit_is = e.limit_is; kind_is = e.kind_is; slots_is = e.slots_is; from_is = refl; bytes_is = e.bytes_is }

-- ALL PAGES
module _ (d image marks : List ℕ) (h : ImageHere d image marks) where
  pub all_here : PagesHere (P d) (code_limit d) (slots_by d) 0 (length marks) image
  unfolding slot_width
  all_here = whole_here (P d) (code_limit d) (slots_by d) image (length marks) h.marked (rw h.marked h.slotted) h.reached

  pub all_marked : (new : List ℕ) → new ≡ marks_from (P d) (code_limit d) (slots_by d) 0 (length marks) image → new ≡ marks_by d image
  all_marked new k = rw k (whole_marks (P d) (code_limit d) (slots_by d) image (length marks) h.marked)

-- THE PAGES THAT A RANGE MEETS, from `from` to before `end`
module _ (d : List ℕ) (start size : ℕ) (contents marks : List ℕ) (h : RangeHere (P d) (code_limit d) (slots_by d) start size contents marks)
    (p from end : ℕ) (e : p ≡ P d) (k : from ≡ met_first p start size) (l : end ≡ met_end p start size) where
  at_first : from ≡ met_first (P d) start size
  at_first = k ∙ ap (λ (n : ℕ). met_first n start size) e

  at_end : end ≡ met_end (P d) start size
  at_end = l ∙ ap (λ (n : ℕ). met_end n start size) e

  pub met_inside : Inside from end (length marks)
  met_inside =
      record {
        order = omega (arith, at_first, at_end, cut_order (P d) (code_limit d) (slots_by d) start size contents marks h);
        within = omega (arith, at_end, cut_within (P d) (code_limit d) (slots_by d) start size contents marks h);
      }

  pub met_here : PagesHere (P d) (code_limit d) (slots_by d) from (length (take (end - from) (drop from marks))) contents
  met_here = cut_here (P d) (code_limit d) (slots_by d) start size contents marks h from end at_first at_end

  pub met_marked : (new : List ℕ) → new ≡ marks_from (P d) (code_limit d) (slots_by d) from (length (take (end - from) (drop from marks))) contents
      → take from marks ++ (new ++ drop (end - from) (drop from marks)) ≡ remarked (P d) (code_limit d) (slots_by d) start size contents marks
  met_marked new q = put_remarked (P d) (code_limit d) (slots_by d) start size contents marks h new from end at_first at_end q
