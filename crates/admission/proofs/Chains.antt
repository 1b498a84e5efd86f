-- Every list of rechecks after a whole check keeps marks and answers in step with the book: the marks are always those of the book's
-- image, and one recheck takes them to those of the image that the book then has.
use Prim.Native.Nat.{ℕ, ◌+◌, ◌≤◌}
use mathlib.Core.Bool.{Bool, true, false, cond, ◌||◌}
use mathlib.Core.List.{List, [], ◌∷◌}
use mathlib.Core.Logic.{◌⊎◌}
use mathlib.Core.Path.{◌≡◌, refl, sym, ap, subst, ◌∙◌}
use native.Mathlib.Omega.{arith}
use lib.Dec.{eqb}
use lib.ListN.{length, drop}
use borrow.Author.Tests.{eqb-true}
use Rattle.refusals.specs.declared.Answer.{Answer}
use Rattle.refusals.specs.Refusals.{refuse, accepted, Passes}
use Rattle.refusals.proofs.Exact.{passed}
use Rattle.directory.specs.Rows.{directory}
use Rattle.geometry.specs.Pages.{Fit, page_count, wanted, range_rows}
use Rattle.marks.specs.Marks.{mark_of, mark_rows, judged}
use Rattle.geometry.proofs.Ranges.{range_unused, range_passed}
use Rattle.marks.proofs.Marking.{marks_length, marks_at, marks_pass}
use Rattle.geometry.proofs.Spliced.{spliced_length, spliced_past}
use Rattle.marks.proofs.Remarked.{remarked_marks}
use Rattle.admission.specs.declared.Verdict.{Verdict}
use Rattle.admission.specs.Input.{Lent, beside, with_image, page_bytes_of, limit_of, slots_of, marks_of}
use Rattle.admission.specs.Check.{count_rows, check_rows, check_answer, CheckOutcome, check_of, Checked}
use Rattle.admission.specs.Recheck.{Call, recheck_of, input_rows, remarked, call_answer, call_marks, CallOutcome, call_of, Rechecked}
use Rattle.admission.specs.Demand3.{Book, opened, turned_down, examine, book_after1, book_after, placeless, whole_answer, due, Made, calls, InTurn, Marked, Kept, last_marks, latest, answer_of, Chains}
use Rattle.admission.specs.Meets.{meets}
use Rattle.admission.proofs.Outcomes.{ready, other_image, answer_passes, whole_answer_is, whole_marks, placeless_judged, call_answer_is, call_marks_are, turned_first}

-- A RECHECK THAT EXAMINES

-- its range lies below the limit, and it is lent the bytes of the pages met
pub input_passed : (s : List ℕ) (start size : ℕ) (new : List ℕ) → turned_down s (recheck_of start size new) ≡ 0
    → (start + size ≤ limit_of s) × (length new ≡ wanted (page_bytes_of s) (limit_of s) start size)
unfolding turned_down input_rows
input_passed s start size new e =
    range_passed (page_bytes_of s) (limit_of s) start size (length new)
    (passed (range_rows (page_bytes_of s) (limit_of s) start size (length new)) accepted 0 (range_unused (page_bytes_of s) (limit_of s) start size (length new)) e)

-- it keeps the length of the book's image and the bytes past the limit ...
examined_length : (s : List ℕ) (b : Book) (c : Call) → limit_of s ≤ length b.image → turned_down s c ≡ 0 → length (examine s b c).image ≡ length b.image
examined_length s b (recheck_of start size new) long e =
    let h = input_passed s start size new e in
    spliced_length (page_bytes_of s) (limit_of s) b.image start size new long h.0 h.1

examined_past : (s : List ℕ) (b : Book) (c : Call) → limit_of s ≤ length b.image → turned_down s c ≡ 0
    → drop (limit_of s) (examine s b c).image ≡ drop (limit_of s) b.image
examined_past s b (recheck_of start size new) long e =
    let h = input_passed s start size new e in
    spliced_past (page_bytes_of s) (limit_of s) b.image start size new long h.0 h.1

-- ... and the new marks are those of the image with its bytes put in
examined_marks : (s : List ℕ) (b : Book) (c : Call) → Fit (page_bytes_of s) (limit_of s) → limit_of s ≤ length b.image → turned_down s c ≡ 0
    → remarked s c (marks_of s b.image) ≡ marks_of s (examine s b c).image
unfolding remarked
examined_marks s b (recheck_of start size new) f long e =
    let h = input_passed s start size new e in
    remarked_marks (page_bytes_of s) (limit_of s) b.image start size new long h.0 h.1 (slots_of s) f

-- no page gets unexamined
examined_all : (s : List ℕ) (b : Book) (c : Call) (i : ℕ) → b.examined i ≡ true → (examine s b c).examined i ≡ true
examined_all s b (recheck_of start size new) i e = or_true (meets s start size i) (b.examined i) e
  where
    or_true : (x y : Bool) → y ≡ true → (x || y) ≡ true
    or_true true y e = refl
    or_true false y e = e

-- THE BOOK

-- it changes with a recheck that examines, and stays with one that is turned down
pub book_examined : (s : List ℕ) (b : Book) (c : Call) → eqb (turned_down s c) 0 ≡ true → book_after1 s b c ≡ examine s b c
unfolding book_after1
book_examined s b c e = rw e

pub book_stays : (s : List ℕ) (b : Book) (c : Call) → eqb (turned_down s c) 0 ≡ false → book_after1 s b c ≡ b
unfolding book_after1
book_stays s b c e = rw e

-- there is a mark for each page of its image
marks_count : (s image : List ℕ) → length (marks_of s image) ≡ page_count (page_bytes_of s) (limit_of s)
marks_count s image = marks_length (page_bytes_of s) (limit_of s) (slots_of s) image

-- beside what the starting check was lent: its image is as long as the checked one with the same bytes past the limit, and all its pages
-- were examined
pub record Held (x : Lent) (b : Book) : Type 0 where
  pub long : length b.image ≡ length x.image
  pub past : drop (limit_of x.signature) b.image ≡ drop (limit_of x.signature) x.image
  pub seen : (i : ℕ) → b.examined i ≡ true

-- so at first
pub held_opened : (x : Lent) → Held x (opened x.image)
held_opened x = record { long = refl; past = refl; seen = λ i. refl }

-- its marks, as the claim has them
held_marked : (x : Lent) (b : Book) → Held x b → Marked x.signature b (marks_of x.signature b.image)
unfolding mark_of
held_marked x b h =
    record {
      long = marks_count x.signature b.image;
      mark = marks_at _ _ _ b.image;
      all_examined = h.seen;
    }

module _ (x : Lent) (n : ℕ) (p : Passes (check_rows (beside x) (length x.image) n)) where
  -- its image reaches the limit
  pub held_long : (b : Book) → Held x b → limit_of x.signature ≤ length b.image
  held_long b h = omega (arith, (ready (beside x) (length x.image) n p).long, h.long)

  -- a whole check of its image passes tests 1 to 30 too, and so answers by the image's marks
  pub held_passes : (b : Book) → Held x b → Passes (check_rows (beside (with_image x b.image)) (length b.image) n)
  held_passes b h = rw (other_image x b.image (length b.image) n, h.long) p

  pub held_answer : (b : Book) → Held x b → whole_answer x n b ≡ judged (marks_of x.signature b.image) 0
  unfolding whole_answer
  held_answer b h = ap placeless (whole_answer_is (with_image x b.image) n (held_passes b h)) ∙ placeless_judged _ _

  -- ONE CALL, from the marks of the book's image
  module _ (b : Book) (h : Held x b) (c : Call) where
    -- the book stays held
    pub held_after : Held x (book_after1 x.signature b c)
    held_after = by_test (eqb (turned_down x.signature c) 0) refl
      where
        by_test : (t : Bool) → eqb (turned_down x.signature c) 0 ≡ t → Held x (book_after1 x.signature b c)
        by_test true e =
            rw (book_examined x.signature b c e)
            (record {
              long = examined_length x.signature b c (held_long b h) (eqb-true _ _ e) ∙ h.long;
              past = examined_past x.signature b c (held_long b h) (eqb-true _ _ e) ∙ h.past;
              seen = λ i. examined_all x.signature b c i (h.seen i);
            })
        by_test false e = rw (book_stays x.signature b c e) h

    -- where it examines, the new marks are those of the image that the book then has
    new_marks : eqb (turned_down x.signature c) 0 ≡ true
        → remarked x.signature c (marks_of x.signature b.image) ≡ marks_of x.signature (book_after1 x.signature b c).image
    new_marks e =
        rw (book_examined x.signature b c e)
        (examined_marks x.signature b c (ready (beside x) _ n p).fits (held_long b h) (eqb-true _ _ e))

    -- tests 20 and 34 pass
    counted : Passes (count_rows (directory x.signature) (length (marks_of x.signature b.image)))
    unfolding count_rows
    counted = (marks_count x.signature b.image ∙ sym (ready (beside x) _ n p).slotted, tt)

    even : Passes (mark_rows (marks_of x.signature b.image))
    even = marks_pass _ _ _ b.image

    -- it leaves the marks of the image that the book then has ...
    step_marks : call_marks x.signature c (marks_of x.signature b.image) ≡ marks_of x.signature (book_after1 x.signature b c).image
    step_marks =
        call_marks_are x.signature c (marks_of x.signature b.image) (ready (beside x) _ n p).sound counted even
        ∙ by_test (eqb (turned_down x.signature c) 0) refl
      where
        by_test : (t : Bool) → eqb (turned_down x.signature c) 0 ≡ t
            → cond t (remarked x.signature c (marks_of x.signature b.image)) (marks_of x.signature b.image)
            ≡ marks_of x.signature (book_after1 x.signature b c).image
        by_test true e = new_marks e
        by_test false e = rw (book_stays x.signature b c e)

    -- ... and answers what is due
    step_answer : call_answer x.signature c (marks_of x.signature b.image) ≡ due x n b c
    unfolding due
    step_answer =
        call_answer_is x.signature c (marks_of x.signature b.image) (ready (beside x) _ n p).sound counted even
        ∙ turned_first x.signature c (judged (remarked x.signature c (marks_of x.signature b.image)) 0)
        ∙ by_test (eqb (turned_down x.signature c) 0) refl
      where
        by_test : (t : Bool) → eqb (turned_down x.signature c) 0 ≡ t
            → cond t (judged (remarked x.signature c (marks_of x.signature b.image)) 0) (refuse (turned_down x.signature c) 0)
            ≡ cond t (whole_answer x n (book_after1 x.signature b c)) (refuse (turned_down x.signature c) 0)
        by_test true e = rw (new_marks e, held_answer (book_after1 x.signature b c) held_after)
        by_test false e = refl

  -- the same of a call that was made
  module _ (b : Book) (h : Held x b) (m : Made) (r : Rechecked x.signature m.call (marks_of x.signature b.image) m.answer m.after) where
    made_marks : m.after ≡ marks_of x.signature (book_after1 x.signature b m.call).image
    unfolding call_of
    made_marks = ap (λ (o : CallOutcome). o.marks) r ∙ step_marks b h m.call

    made_answer : m.answer ≡ due x n b m.call
    unfolding call_of
    made_answer = ap (λ (o : CallOutcome). o.answer) r ∙ step_answer b h m.call

    -- the calls after it start from the marks of the book as it then is
    next_turn : (ms : List Made) → InTurn x.signature m.after ms → InTurn x.signature (marks_of x.signature (book_after1 x.signature b m.call).image) ms
    next_turn ms t = subst (λ (l : List ℕ). InTurn x.signature l ms) made_marks t

  -- THE LIST, by induction: the book is held, each call does its part, and the marks after the last are those of the book's image

  pub chain_held : (b : Book) (cs : List Call) → Held x b → Held x (book_after x.signature b cs)
  unfolding book_after
  chain_held b [] h = h
  chain_held b (c ∷ cs) h = chain_held (book_after1 x.signature b c) cs (held_after b h c)

  chain_kept : (b : Book) (made : List Made) → Held x b → InTurn x.signature (marks_of x.signature b.image) made → Kept x n b made
  unfolding InTurn Kept
  chain_kept b [] h t = tt
  chain_kept b (m ∷ ms) h t =
      let k = held_after b h m.call in (
        made_answer b h m t.0,
        (
          rw (made_marks b h m t.0) (held_marked x (book_after1 x.signature b m.call) k),
          chain_kept (book_after1 x.signature b m.call) ms k (next_turn b h m t.0 ms t.1),
        ),
      )

  pub chain_marks : (b : Book) (made : List Made) → Held x b → InTurn x.signature (marks_of x.signature b.image) made
      → last_marks (marks_of x.signature b.image) made ≡ marks_of x.signature (book_after x.signature b (calls made)).image
  unfolding InTurn book_after
  chain_marks b [] h t = refl
  chain_marks b (m ∷ ms) h t =
      ap (λ (l : List ℕ). last_marks l ms) (made_marks b h m t.0)
      ∙ chain_marks (book_after1 x.signature b m.call) ms (held_after b h m.call) (next_turn b h m t.0 ms t.1)

-- THE LATEST ANSWER: where each call answered what was due, it is a whole check's of the book's image

-- one call takes it to that of the image that the book then has
due_latest : (x : Lent) (n : ℕ) (b : Book) (c : Call)
    → cond (eqb (turned_down x.signature c) 0) (due x n b c) (whole_answer x n b) ≡ whole_answer x n (book_after1 x.signature b c)
unfolding due
due_latest x n b c = by_test (eqb (turned_down x.signature c) 0) refl
  where
    by_test : (t : Bool) → eqb (turned_down x.signature c) 0 ≡ t
        → cond t (cond t (whole_answer x n (book_after1 x.signature b c)) (refuse (turned_down x.signature c) 0)) (whole_answer x n b)
        ≡ whole_answer x n (book_after1 x.signature b c)
    by_test true e = refl
    by_test false e = rw (book_stays x.signature b c e)

chain_latest : (x : Lent) (n : ℕ) (b : Book) (made : List Made) → Kept x n b made
    → latest x.signature (whole_answer x n b) made ≡ whole_answer x n (book_after x.signature b (calls made))
unfolding Kept latest book_after
chain_latest x n b [] k = refl
chain_latest x n b (m ∷ ms) k =
    ap (λ (a : Answer). latest x.signature (cond (eqb (turned_down x.signature m.call) 0) a (whole_answer x n b)) ms) k.0
    ∙ ap (λ (a : Answer). latest x.signature a ms) (due_latest x n b m.call)
    ∙ chain_latest x n (book_after1 x.signature b m.call) ms k.1.1

-- THE START

-- a whole check that answered 0 or 31: it passed tests 1 to 30, left the marks of its image, and answered what the opened book has to
pub record Started (x : Lent) (n : ℕ) (v : Verdict) (after : List ℕ) : Type 0 where
  pub passing : Passes (check_rows (beside x) (length x.image) n)
  pub left : after ≡ marks_of x.signature x.image
  pub answered : placeless (answer_of v) ≡ whole_answer x n (opened x.image)

pub started : (x : Lent) (marks : List ℕ) (v : Verdict) (after : List ℕ) → Checked x marks v after → (v.number ≡ 0) ⊎ (v.number ≡ 31)
    → Started x (length marks) v after
unfolding check_of whole_answer
started x marks v after c z =
    let a : answer_of v ≡ check_answer x (length marks) = ap (λ (o : CheckOutcome). answer_of o.verdict) c in
    let p = answer_passes x (length marks) (subst (λ (a : Answer). (a.number ≡ 0) ⊎ (a.number ≡ 31)) a z) in
    record {
      passing = p;
      left = ap (λ (o : CheckOutcome). o.marks) c ∙ whole_marks x marks p;
      answered = ap placeless a;
    }

pub chains : Chains
chains x marks v after made c z t =
    let s = started x marks v after c z in
    let h = held_opened x in
    let k = chain_kept x (length marks) s.passing (opened x.image) made h (rw s.left at t) in (
      rw s.left (held_marked x (opened x.image) h),
      (k, rw s.answered (chain_latest x (length marks) (opened x.image) made k)),
    )
