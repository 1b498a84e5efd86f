-- A recheck's marks are the marks of the image with the lent bytes put in.
use Prim.Native.Nat.{ℕ, ◌+◌, ◌-◌, ◌*◌, ◌≤◌}
use mathlib.Core.Path.{◌≡◌, sym, ap}
use mathlib.Core.List.{List}
use lib.ListN.{length}
use Rattle.geometry.specs.Pages.{Fit, page_count, page_end, part, page_of, met_first, met_end, wanted, splice}
use Rattle.geometry.proofs.Pages.{met_le, met_count}
use Rattle.geometry.proofs.Spliced.{page_early, page_late, page_met}
use Rattle.marks.specs.Marks.{Slots, mark_of, marks_of, marks_from, remarked}
use Rattle.marks.proofs.Tabs.{tab_splice}

-- of a range below the limit, lent as many bytes as the pages met have
pub remarked_marks : (p limit : ℕ) (image : List ℕ) (start size : ℕ) (bytes : List ℕ) → limit ≤ length image → start + size ≤ limit
    → length bytes ≡ wanted p limit start size → (slots : Slots) → Fit p limit
    → remarked p limit slots start size bytes (marks_of p limit slots image) ≡ marks_of p limit slots (splice image (p * met_first p start size) bytes)
unfolding remarked marks_of marks_from
remarked_marks p limit image start size bytes long below exact slots f =
    tab_splice (page_count p limit) (met_first p start size) (met_end p start size)
    (λ i. mark_of slots i (page_of p limit i image))
    (λ i. mark_of slots i (page_of p limit i (splice image (p * met_first p start size) bytes)))
    (λ i. mark_of slots i (part bytes (p * i - p * met_first p start size) (page_end p limit i - p * met_first p start size)))
    (met_le p start size)
    (met_count p limit start size f below)
    (λ k h. ap (mark_of slots k) (sym (page_early p limit image start size bytes long below exact k h)))
    (λ k h u. ap (mark_of slots k) (sym (page_met p limit image start size bytes long below exact k h u)))
    (λ k h u. ap (mark_of slots k) (sym (page_late p limit image start size bytes long below exact k h)))
