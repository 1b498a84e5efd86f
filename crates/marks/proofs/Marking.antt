-- Laws of marks: what a mark says, the marks of an image, and what the routine that writes them is lent and leaves.
use Prim.Native.Nat.{ℕ, ◌+◌, ◌-◌, ◌*◌, ◌≤◌, ◌<◌, min}
use mathlib.Core.Path.{◌≡◌, refl, sym, ap, ◌∙◌}
use mathlib.Core.Logic.{◌⊎◌, inl, inr, ◌↔◌}
use mathlib.Core.Bool.{Bool, true, false, cond}
use mathlib.Core.List.{List, ◌++◌, append_assoc}
use native.Mathlib.Nat.{zero-add, mul-zero, sub-zero, mul-le-mul_left, min-le_left, min-le_right, le-min, le_trans}
use native.Mathlib.Omega.{arith}
use lib.ListN.{length, get_or, take, drop, replicate, length-drop, length-append}
use lib.Seq.{drop-drop, length-take-le}
use Rattle.refusals.specs.declared.Answer.{Answer}
use Rattle.refusals.specs.Refusals.{holds, lowest, refuse, first, Passes}
use Rattle.refusals.proofs.Positions.{none_fails}
use Rattle.digest.specs.Kinds.{digest_of}
use Rattle.digest.specs.Same.{same}
use Rattle.digest.proofs.Digests.{digest_first}
use Rattle.digest.proofs.Equality.{same_equal, equal_same}
use Rattle.layout.specs.CodeDirectory.{width_of}
use Rattle.layout.proofs.Widths.{slot_end}
use Rattle.geometry.specs.Pages.{page_count, page_end, part, page_of, met_first, met_end}
use Rattle.marks.specs.Marks.{Slots, width, slot_at, agrees, AgreesExactly, mark_of, marks_of, mark_in, marks_from, remarked, neither, differs, mark_rows, bad_rows, judged, PageHere, PagesHere, RangeHere}
use Rattle.marks.specs.declared.Pages.{Pages}
use Rattle.marks.specs.Lent.{slots_of, OneHere}
use Rattle.geometry.proofs.Pages.{met_le, met_count, count_of, count_most, Within, within}
use Rattle.geometry.proofs.Parts.{part_below}
use Rattle.marks.proofs.Tabs.{tab_length, tab_at, tab_same}

-- WHAT A MARK SAYS

pub agrees_equal : AgreesExactly
unfolding agrees
agrees_equal slots i bytes = (λ e. same_equal _ _ e, λ e. equal_same _ _ e)

mark_of_agrees : (slots : Slots) (i : ℕ) (bytes : List ℕ) (b : Bool) → b ≡ agrees slots i bytes → cond {A = ℕ} b 0 1 ≡ mark_of slots i bytes
unfolding mark_of
mark_of_agrees slots i bytes b e = ap (λ (t : Bool). cond {A = ℕ} t 0 1) e

mark_zero : (slots : Slots) (i : ℕ) (bytes : List ℕ) → true ≡ agrees slots i bytes → 0 ≡ mark_of slots i bytes
mark_zero slots i bytes e = mark_of_agrees slots i bytes true e

mark_one : (slots : Slots) (i : ℕ) (bytes : List ℕ) → false ≡ agrees slots i bytes → 1 ≡ mark_of slots i bytes
mark_one slots i bytes e = mark_of_agrees slots i bytes false e

-- as the code finds it, from the slot that is cut out of the slots at `at`, w bytes long
module _ (slots : Slots) (n at w : ℕ) (place : at ≡ width slots * n) (wide : w ≡ width slots) where
  slot_cut : part slots.bytes at (at + w) ≡ slot_at slots n
  unfolding slot_at
  slot_cut =
      let e : at + w - at ≡ width slots = omega arith in
      rw (e, place)

  cut_agrees : (d : List ℕ) (b : Bool) → b ≡ same (take (width slots) d) (part slots.bytes at (at + w))
      → (m : List ℕ) → d ≡ digest_of slots.kind m ++ replicate (48 - width slots) 0 → b ≡ agrees slots n m
  unfolding agrees
  cut_agrees d b h m e =
      h ∙ ap (λ (l : List ℕ). same l (part slots.bytes at (at + w))) (digest_first slots.kind m d e)
      ∙ ap (same (digest_of slots.kind m)) slot_cut

  pub cut_mark : (d : List ℕ) (v : ℕ) (b : Bool) → b ≡ same (take (width slots) d) (part slots.bytes at (at + w)) → v ≡ cond {A = ℕ} b 0 1
      → (m : List ℕ) → d ≡ digest_of slots.kind m ++ replicate (48 - width slots) 0 → v ≡ mark_of slots n m
  cut_mark d v b h t m e = t ∙ mark_of_agrees slots n m b (cut_agrees d b h m e)

-- of page n, by the digest d of its bytes m
pub page_mark : (pages : Pages) (n : ℕ) (d m : List ℕ) (v : ℕ) (bytes : List ℕ)
    → ((m : List ℕ) → d ≡ digest_of pages.kind m ++ replicate (48 - width (slots_of pages)) 0 → v ≡ mark_of (slots_of pages) n m)
    → d ≡ digest_of pages.kind m ++ replicate (48 - width_of pages.kind) 0 → m ≡ bytes → v ≡ mark_of (slots_of pages) n bytes
page_mark pages n d m v bytes h e q = h m e ∙ ap (mark_of (slots_of pages) n) q

-- the mark is 0 exactly when the slot holds the digest
pub mark_exact : (slots : Slots) (i : ℕ) (bytes : List ℕ) → (mark_of slots i bytes ≡ 0) ↔ (digest_of slots.kind bytes ≡ slot_at slots i)
mark_exact slots i bytes = (by_test (agrees slots i bytes) refl, λ e. sym (mark_zero slots i bytes (sym ((agrees_equal slots i bytes).1 e))))
  where
    by_test : (b : Bool) → b ≡ agrees slots i bytes → mark_of slots i bytes ≡ 0 → digest_of slots.kind bytes ≡ slot_at slots i
    by_test true e h = (agrees_equal slots i bytes).0 (sym e)
    by_test false e h = absurd (omega (arith, mark_one slots i bytes e))

-- else it is 1
pub mark_small : (slots : Slots) (i : ℕ) (bytes : List ℕ) → mark_of slots i bytes ≤ 1
mark_small slots i bytes = by_test (agrees slots i bytes) refl
  where
    by_test : (b : Bool) → b ≡ agrees slots i bytes → mark_of slots i bytes ≤ 1
    by_test true e = omega (arith, mark_zero slots i bytes e)
    by_test false e = omega (arith, mark_one slots i bytes e)

-- THE MARKS OF AN IMAGE

pub marks_length : (p limit : ℕ) (slots : Slots) (image : List ℕ) → length (marks_of p limit slots image) ≡ page_count p limit
unfolding marks_of
marks_length p limit slots image = tab_length 0 (page_count p limit) (λ i. mark_of slots i (page_of p limit i image))

pub marks_at : (p limit : ℕ) (slots : Slots) (image : List ℕ) (i : ℕ) → i < page_count p limit
    → get_or (marks_of p limit slots image) i 0 ≡ mark_of slots i (page_of p limit i image)
unfolding marks_of
marks_at p limit slots image i h =
    tab_at 0 (page_count p limit) (λ i. mark_of slots i (page_of p limit i image)) i 0 h
    ∙ ap (λ (k : ℕ). mark_of slots k (page_of p limit k image)) (zero-add i)

-- each is 0 or 1, so that test 34 passes
marks_small : (p limit : ℕ) (slots : Slots) (image : List ℕ) (i : ℕ) → i < page_count p limit → get_or (marks_of p limit slots image) i 0 ≤ 1
marks_small p limit slots image i h =
    omega (arith, marks_at p limit slots image i h, mark_small slots i (page_of p limit i image))

pub marks_pass : (p limit : ℕ) (slots : Slots) (image : List ℕ) → Passes (mark_rows (marks_of p limit slots image))
unfolding mark_rows neither
marks_pass p limit slots image =
    let n = marks_length p limit slots image in
    let q = none_fails (neither (marks_of p limit slots image)) (length (marks_of p limit slots image))
    (λ k l. marks_small p limit slots image k (omega arith)) in
    (omega arith, tt)

-- marks depend on the bytes below the limit alone
pub marks_below : (p limit : ℕ) (slots : Slots) (image other : List ℕ) → take limit image ≡ take limit other
    → marks_of p limit slots image ≡ marks_of p limit slots other
unfolding marks_of
marks_below p limit slots image other e =
    tab_same 0 (page_count p limit) (λ i. mark_of slots i (page_of p limit i image)) (λ i. mark_of slots i (page_of p limit i other))
    (λ k l u. ap (mark_of slots k)
    (part_below image limit (p * k) (page_end p limit k) (min-le_right (p * (k + 1)) limit)
    ∙ ap (λ (m : List ℕ). part m (p * k) (page_end p limit k)) e
    ∙ sym (part_below other limit (p * k) (page_end p limit k) (min-le_right (p * (k + 1)) limit))))

-- the marks of all pages, from the image itself
pub whole_marks : (p limit : ℕ) (slots : Slots) (image : List ℕ) (n : ℕ) → n ≡ page_count p limit → marks_from p limit slots 0 n image ≡ marks_of p limit slots image
unfolding marks_from marks_of
whole_marks p limit slots image n e =
    rw e (tab_same 0 (page_count p limit) (mark_in p limit slots 0 image) (λ i. mark_of slots i (page_of p limit i image)) (λ k l u. simp (mul-zero, sub-zero)))

-- THE ANSWER

-- the place given matters to a 0 alone: what takes a 0's place away, and leaves 31 as it is, makes the answer a recheck's
pub judged_place : (marks : List ℕ) (place : ℕ) (f : Answer → Answer) → f (refuse 0 place) ≡ refuse 0 0 → ((q : ℕ) → f (refuse 31 q) ≡ refuse 31 q)
    → f (judged marks place) ≡ judged marks 0
unfolding judged bad_rows first
judged_place marks place f z k = by_test (holds _)
  where
    by_test : (b : Bool) → f (cond b (refuse 31 (lowest (differs marks) (length marks))) (refuse 0 place)) ≡ cond b (refuse 31 (lowest (differs marks) (length marks))) (refuse 0 0)
    by_test true = k (lowest (differs marks) (length marks))
    by_test false = z

-- it is 0 or 31
pub judged_number : (marks : List ℕ) (place : ℕ) → ((judged marks place).number ≡ 0) ⊎ ((judged marks place).number ≡ 31)
unfolding judged bad_rows first
judged_number marks place = by_test (holds _)
  where
    by_test : (b : Bool) → ((cond b (refuse 31 (lowest (differs marks) (length marks))) (refuse 0 place)).number ≡ 0)
        ⊎ ((cond b (refuse 31 (lowest (differs marks) (length marks))) (refuse 0 place)).number ≡ 31)
    by_test true = inr refl
    by_test false = inl refl

-- WHAT THE ROUTINE IS LENT

-- slot k of those that reach up to slot n, over their width w
pub slot_before : (w k n most : ℕ) → w * n + w ≤ most → k ≤ n → w * k + w ≤ most
slot_before w k n most h l = omega (arith, mul-le-mul_left {m = k} {n = n} w l)

-- where a page ends, of the first n
ends_below : (p limit k n : ℕ) → k < n → page_end p limit k ≤ min (p * n) limit
ends_below p limit k n h =
    le-min {k = page_end p limit k} (le_trans (min-le_left (p * (k + 1)) limit) (mul-le-mul_left {n = n} p (omega arith))) (min-le_right (p * (k + 1)) limit)

-- page n is below the limit, so that its number is a number of the machine
pub page_most : (pages : Pages) (n : ℕ) → OneHere pages n → n < pages.limit
page_most pages n h = omega (arith, h.here, count_most pages.p pages.limit)

-- page n lies in the bytes
pub page_within : (pages : Pages) (n : ℕ) → OneHere pages n → Within pages.p pages.limit pages.from n
page_within pages n h = within _ _ _ _ h.after (count_of _ _ _ (omega (arith, h.here)))

-- each of the pages is there
pub page_of_here : (p limit : ℕ) (slots : Slots) (first n : ℕ) (bytes : List ℕ) (k : ℕ) → PagesHere p limit slots first n bytes → first ≤ k → k < first + n
    → PageHere p limit slots first k bytes
page_of_here p limit slots first n bytes k h o u =
    record {
      after = o;
      here = omega arith;
      slot = omega (arith, slot_end (width slots) k (first + n) u, h.slotted);
      held = omega (arith, ends_below p limit k (first + n) u);
    }

-- where page n is there, so are those before it
pub page_before : (p limit : ℕ) (slots : Slots) (first n : ℕ) (bytes : List ℕ) (k : ℕ) → PageHere p limit slots first n bytes → first ≤ k → k ≤ n
    → PageHere p limit slots first k bytes
page_before p limit slots first n bytes k h o u =
    record {
      after = o;
      here = omega (arith, h.here);
      slot = slot_before (width slots) k n _ h.slot u;
      held = omega (arith, ends_below p limit k (n + 1) (omega arith), h.held);
    }

-- all pages, in an image that reaches the limit
pub whole_here : (p limit : ℕ) (slots : Slots) (image : List ℕ) (n : ℕ) → n ≡ page_count p limit → width slots * n ≤ length slots.bytes → limit ≤ length image
    → PagesHere p limit slots 0 n image
whole_here p limit slots image n e h u =
    record {
      here = omega arith;
      slotted = omega arith;
      held = omega (arith, min-le_right (p * (0 + n)) limit);
    }

-- the pages met, as the code cuts them out of the marks
cut_length : (first end : ℕ) (marks : List ℕ) → first ≤ end → end ≤ length marks → length (take (end - first) (drop first marks)) ≡ end - first
cut_length first end marks h u = length-take-le (end - first) (drop first marks) (omega (arith, length-drop first marks))

module _ (p limit : ℕ) (slots : Slots) (start size : ℕ) (bytes marks : List ℕ) (h : RangeHere p limit slots start size bytes marks) where
  pub cut_order : met_first p start size ≤ met_end p start size
  cut_order = met_le p start size

  pub cut_within : met_end p start size ≤ length marks
  cut_within = omega (arith, met_count p limit start size h.fits h.below, h.marked)

  -- they are there for the routine that marks them
  pub cut_here : (first end : ℕ) → first ≡ met_first p start size → end ≡ met_end p start size
      → PagesHere p limit slots first (length (take (end - first) (drop first marks))) bytes
  cut_here first end e f =
      let o = cut_order in
      let w = cut_within in
      let n : length (take (end - first) (drop first marks)) ≡ end - first = cut_length first end marks (omega arith) (omega arith) in
      let j : first + (end - first) ≡ met_end p start size = omega arith in
      rw n
      (record {
        here = omega (arith, h.marked);
        slotted = le_trans (mul-le-mul_left (width slots) (omega (arith, h.marked))) h.slotted;
        held = rw (j, e) (omega (arith, h.exact));
      })

  -- the marks with their part put back
  pub put_remarked : (new : List ℕ) (first end : ℕ) → first ≡ met_first p start size → end ≡ met_end p start size
      → new ≡ marks_from p limit slots first (length (take (end - first) (drop first marks))) bytes
      → take first marks ++ (new ++ drop (end - first) (drop first marks)) ≡ remarked p limit slots start size bytes marks
  unfolding remarked
  put_remarked new first end e f g =
      let o = cut_order in
      let w = cut_within in
      let n : length (take (end - first) (drop first marks)) ≡ end - first = cut_length first end marks (omega arith) (omega arith) in
      let j : first + (end - first) ≡ end = omega arith in
      rw (g, n, drop-drop (end - first) first marks, j, e, f) (sym (append_assoc (take (met_first p start size) marks) _ _))

  pub remarked_length : length (remarked p limit slots start size bytes marks) ≡ length marks
  unfolding remarked marks_from
  remarked_length =
      let o = cut_order in
      let w = cut_within in
      let n = tab_length (met_first p start size) (met_end p start size - met_first p start size) (mark_in p limit slots (met_first p start size) bytes) in
      let f : length (take (met_first p start size) marks) ≡ met_first p start size = length-take-le (met_first p start size) marks (omega arith) in
      simp (length-append, length-drop) (omega arith)
