-- Demand 3: chains of rechecks. Of the whole list of calls, beside a book that says which image they have examined; and of the whole list of
-- calls and changes of the image, page by page and of the image as a whole.
use Rattle.std.specs.Prelude.{ℕ, ◌+◌, ◌*◌, ◌<◌, ◌≤◌, Bool, true, false, cond, ◌&&◌, ◌||◌, List, [], ◌∷◌, ◌++◌, ◌⊎◌, ◌↔◌, ◌≡◌, eqb, length, get_or}
use Rattle.refusals.specs.declared.Answer.{Answer}
use Rattle.refusals.specs.Refusals.{refuse, accepted, first}
use Rattle.geometry.specs.Pages.{page_count, page_of, part, met_first, met_stop, splice}
use Rattle.marks.specs.Marks.{agrees}
use Rattle.admission.specs.declared.Verdict.{Verdict}
use Rattle.admission.specs.Input.{Lent, with_image, page_bytes_of, limit_of, slots_of}
use Rattle.admission.specs.Check.{Checked, check_answer, check_marks}
use Rattle.admission.specs.Recheck.{Call, recheck_of, input_rows, Rechecked}
use Rattle.admission.specs.Meets.{meets, met_by, Meets}

-- THE BOOK

-- one image, and which of its pages were examined
pub record Book : Type 0 where
  pub image : List ℕ
  pub examined : ℕ → Bool

-- at first the checked image, all pages examined
abbrev pub opened : List ℕ → Book
opened image = record { image = image; examined = λ i. true }

-- a call is turned down for its input: 32 or 33; 0 where it is not
unfoldable pub turned_down : List ℕ → Call → ℕ
turned_down s c = (first (input_rows s c) accepted).number

-- a recheck that examines: its lent bytes replace the pages met
abbrev pub examine : List ℕ → Book → Call → Book
examine s b (recheck_of start size new) =
    record {
      image = splice b.image (page_bytes_of s * met_first (page_bytes_of s) start size) new;
      examined = λ i. meets s start size i || b.examined i;
    }

-- one that is turned down leaves the book
unfoldable pub book_after1 : List ℕ → Book → Call → Book
book_after1 s b c = cond (eqb (turned_down s c) 0) (examine s b c) b

unfoldable pub book_after : List ℕ → Book → List Call → Book
book_after s b [] = b
book_after s b (c ∷ cs) = book_after s (book_after1 s b c) cs

-- WHAT EACH CALL HAS TO ANSWER

-- a whole check's answer as a recheck gives it: a 0 has place 0
unfoldable pub placeless : Answer → Answer
placeless a = cond (eqb a.number 0) accepted a

-- what a whole check answers of the book's image, with the starting check's signature, cache, side files and launch facts
unfoldable pub whole_answer : Lent → ℕ → Book → Answer
whole_answer x marksLength b = placeless (check_answer (with_image x b.image) marksLength)

-- its number where it is turned down, else what a whole check answers of the book's image as the call leaves it
unfoldable pub due : Lent → ℕ → Book → Call → Answer
due x marksLength b c =
    cond (eqb (turned_down x.signature c) 0) (whole_answer x marksLength (book_after1 x.signature b c)) (refuse (turned_down x.signature c) 0)

-- CALLS THAT WERE MADE

-- what it was lent, what it answered, and the marks that it left
pub record Made : Type 0 where
  pub call : Call
  pub answer : Answer
  pub after : List ℕ

abbrev pub calls : List Made → List Call
calls [] = []
calls (m ∷ ms) = m.call ∷ calls ms

-- each got the starting check's signature, and the marks as the call before left them
unfoldable pub InTurn : List ℕ → List ℕ → List Made → Type 0
InTurn s marks [] = Unit {0}
InTurn s marks (m ∷ ms) = Rechecked s m.call marks m.answer m.after × InTurn s m.after ms

-- the marks are those of the book, of which every page was examined: mark i is 0 exactly when page i of its image agrees with its slot, else 1; one
-- mark a page
pub record Marked (s : List ℕ) (b : Book) (marks : List ℕ) : Type 0 where
  pub long : length marks ≡ page_count (page_bytes_of s) (limit_of s)
  pub mark : (i : ℕ) → i < page_count (page_bytes_of s) (limit_of s)
      → get_or marks i 0 ≡ cond (agrees (slots_of s) i (page_of (page_bytes_of s) (limit_of s) i b.image)) 0 1
  pub all_examined : (i : ℕ) → b.examined i ≡ true

-- after each call: it answered what it had to, and left the marks of the book as it then is
unfoldable pub Kept : Lent → ℕ → Book → List Made → Type 0
Kept x marksLength b [] = Unit {0}
Kept x marksLength b (m ∷ ms) =
    (m.answer ≡ due x marksLength b m.call)
    × (Marked x.signature (book_after1 x.signature b m.call) m.after
    × Kept x marksLength (book_after1 x.signature b m.call) ms)

-- the marks after the last call
abbrev pub last_marks : List ℕ → List Made → List ℕ
last_marks marks [] = marks
last_marks marks (m ∷ ms) = last_marks m.after ms

-- the answer of the last recheck that was not turned down, or of the starting check where there is none
unfoldable pub latest : List ℕ → Answer → List Made → Answer
latest s answer [] = answer
latest s answer (m ∷ ms) = latest s (cond (eqb (turned_down s m.call) 0) m.answer answer) ms

abbrev pub answer_of : Verdict → Answer
answer_of v = record { number = v.number; place = v.place }

-- of every list of calls after a whole check that answered 0 or 31
abbrev pub Chains : Type 0
Chains = (x : Lent) (marks : List ℕ) (v : Verdict) (after : List ℕ) (made : List Made)
    → Checked x marks v after → (v.number ≡ 0) ⊎ (v.number ≡ 31) → InTurn x.signature after made
    → Marked x.signature (opened x.image) after
    × (Kept x (length marks) (opened x.image) made
    × (latest x.signature (placeless (answer_of v)) made ≡ whole_answer x (length marks) (book_after x.signature (opened x.image) (calls made))))

-- THE IMAGE ITSELF

-- what happens in turn: bytes of the image are changed from a place on, or a call is made
pub data Event : Type 0 where
  change : ℕ → List ℕ → Event
  call : Made → Event

unfoldable pub image_after : List ℕ → List Event → List ℕ
image_after image [] = image
image_after image (change at new ∷ es) = image_after (splice image at new) es
image_after image (call m ∷ es) = image_after image es

abbrev pub made_in : List Event → List Made
made_in [] = []
made_in (change at new ∷ es) = made_in es
made_in (call m ∷ es) = m ∷ made_in es

-- a recheck is lent the image's bytes of the pages met
abbrev pub LentFrom : List ℕ → List ℕ → Call → Type 0
LentFrom s image (recheck_of start size new) =
    new ≡ part image (page_bytes_of s * met_first (page_bytes_of s) start size) (met_stop (page_bytes_of s) (limit_of s) start size)

-- each change lies below the code limit, and each recheck that examines is lent the image's bytes of that time
unfoldable pub Faithful : List ℕ → List ℕ → List Event → Type 0
Faithful s image [] = Unit {0}
Faithful s image (change at new ∷ es) = (at + length new ≤ limit_of s) × Faithful s (splice image at new) es
Faithful s image (call m ∷ es) = (turned_down s m.call ≡ 0 → LentFrom s image m.call) × Faithful s image es

-- a call examines page i
abbrev pub examines : List ℕ → Call → ℕ → Bool
examines s c i = eqb (turned_down s c) 0 && met_by s c i

-- PAGE BY PAGE

-- page i of an image
abbrev pub page_at : List ℕ → List ℕ → ℕ → List ℕ
page_at s image i = page_of (page_bytes_of s) (limit_of s) i image

-- page i as it was when a call last examined it, `seen` where none of these does
unfoldable pub last_seen : List ℕ → ℕ → List ℕ → List ℕ → List Event → List ℕ
last_seen s i seen image [] = seen
last_seen s i seen image (change at new ∷ es) = last_seen s i seen (splice image at new) es
last_seen s i seen image (call m ∷ es) = last_seen s i (cond (examines s m.call i) (page_at s image i) seen) image es

-- page i as it was last examined, at first by the whole check
abbrev pub examined_page : List ℕ → List ℕ → List Event → ℕ → List ℕ
examined_page s image events i = last_seen s i (page_at s image i) image events

-- p is the lowest page that differs from its slot
pub record LowestDiffers (s : List ℕ) (page : ℕ → List ℕ) (p : ℕ) : Type 0 where
  pub here : p < page_count (page_bytes_of s) (limit_of s)
  pub differs : agrees (slots_of s) p (page p) ≡ false
  pub before : (k : ℕ) → k < p → agrees (slots_of s) k (page k) ≡ true

-- what demand 2 gives for all pages: 0 with place 0 exactly when every page agrees with its slot, and 31 exactly with the lowest that differs
pub record AnswersFor (s : List ℕ) (page : ℕ → List ℕ) (a : Answer) : Type 0 where
  pub accepts : (a ≡ accepted) ↔ ((i : ℕ) → i < page_count (page_bytes_of s) (limit_of s) → agrees (slots_of s) i (page i) ≡ true)
  pub refuses : (p : ℕ) → (a ≡ refuse 31 p) ↔ LowestDiffers s page p

-- after a list of changes and rechecks, with `after` the marks that the whole check left
pub record AsExamined (x : Lent) (after : List ℕ) (events : List Event) : Type 0 where
  -- each page of the book's image is the page as it was last examined
  pub page : (i : ℕ)
      → page_at x.signature (book_after x.signature (opened x.image) (calls (made_in events))).image i
      ≡ examined_page x.signature x.image events i
  -- each mark is the one that demand 2 gives for its page as it was last examined
  pub mark : (i : ℕ) → i < page_count (page_bytes_of x.signature) (limit_of x.signature)
      → get_or (last_marks after (made_in events)) i 0 ≡ cond (agrees (slots_of x.signature) i (examined_page x.signature x.image events i)) 0 1
  -- each recheck that is not turned down answers so for all pages so taken, those that it examines itself included
  pub answer : (before rest : List Event) (m : Made) → events ≡ before ++ (call m ∷ rest) → turned_down x.signature m.call ≡ 0
      → AnswersFor x.signature (examined_page x.signature x.image (before ++ (call m ∷ []))) m.answer

-- of every list after a whole check that answered 0 or 31, whatever the changes wrote
abbrev pub Pages : Type 0
Pages = (x : Lent) (marks : List ℕ) (v : Verdict) (after : List ℕ) (events : List Event)
    → Checked x marks v after → (v.number ≡ 0) ⊎ (v.number ≡ 31) → InTurn x.signature after (made_in events)
    → Faithful x.signature x.image events → AsExamined x after events

-- THE WHOLE IMAGE

-- the range of a change has met page i after it was last examined, whether or not a byte then differs; `b` says so of what was before
unfoldable pub altered : List ℕ → ℕ → Bool → List Event → Bool
altered s i b [] = b
altered s i b (change at new ∷ es) = altered s i (meets s at (length new) i || b) es
altered s i b (call m ∷ es) = altered s i (cond (examines s m.call i) false b) es

-- where no page was altered after it was last examined, the book's image is the image as it is now, and marks and the latest answer are those
-- of a whole check of it
abbrev pub Images : Type 0
Images = (x : Lent) (marks : List ℕ) (v : Verdict) (after : List ℕ) (events : List Event)
    → Checked x marks v after → (v.number ≡ 0) ⊎ (v.number ≡ 31) → InTurn x.signature after (made_in events)
    → Faithful x.signature x.image events
    → ((i : ℕ) → i < page_count (page_bytes_of x.signature) (limit_of x.signature) → altered x.signature i false events ≡ false)
    → ((book_after x.signature (opened x.image) (calls (made_in events))).image ≡ image_after x.image events)
    × ((last_marks after (made_in events) ≡ check_marks (with_image x (image_after x.image events)) marks)
    × (latest x.signature (placeless (answer_of v)) (made_in events)
    ≡ placeless (check_answer (with_image x (image_after x.image events)) (length marks))))

pub record Demand3 : Type 0 where
  pub chains : Chains
  pub pages : Pages
  pub images : Images
  pub meets_shared : Meets
