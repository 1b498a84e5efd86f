-- Pages as the code lends them: `marks_from`, `PageHere` and `PagesHere` of the fields.
use Rattle.std.specs.Prelude.{ℕ, List}
use Rattle.marks.specs.declared.Pages.{Pages}
use Rattle.marks.specs.Marks.{Slots, slots_of_kind, mark_in, marks_from, PageHere, PagesHere}

abbrev pub slots_of : Pages → Slots
slots_of pages = slots_of_kind pages.kind pages.slots.now

-- the mark of page i, and the marks of n pages from page `from` on
abbrev pub mark_at : Pages → ℕ → ℕ
mark_at pages = mark_in pages.p pages.limit (slots_of pages) pages.from pages.bytes.now

abbrev pub marks_at : Pages → ℕ → List ℕ
marks_at pages n = marks_from pages.p pages.limit (slots_of pages) pages.from n pages.bytes.now

-- page n is there, and n pages from page `from` on are
abbrev pub OneHere : Pages → ℕ → Type 0
OneHere pages n = PageHere pages.p pages.limit (slots_of pages) pages.from n pages.bytes.now

abbrev pub AllHere : Pages → ℕ → Type 0
AllHere pages n = PagesHere pages.p pages.limit (slots_of pages) pages.from n pages.bytes.now
