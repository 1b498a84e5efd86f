-- One call takes the pages that it examines from what it is lent, the image's bytes of that time, and leaves the others. So after every list
-- each page of the book's image is the page as it was last examined, and marks and answers, which go by the book's image, go by it too.
use Prim.Native.Nat.{ℕ, ◌<◌}
use mathlib.Core.Bool.{Bool, true, false, cond, ◌&&◌, false≢true}
use mathlib.Core.List.{List, [], ◌∷◌, ◌++◌}
use mathlib.Core.Path.{◌≡◌, refl, sym, ap, subst, ◌∙◌}
use native.Mathlib.Omega.{arith}
use lib.Dec.{eqb}
use lib.ListN.{length, get_or}
use borrow.Author.Tests.{eqb-true}
use Rattle.refusals.specs.declared.Answer.{Answer}
use Rattle.refusals.specs.Refusals.{accepted, refuse, Passes}
use Rattle.geometry.specs.Pages.{page_count}
use Rattle.marks.specs.Marks.{agrees, mark_of, differs, judged}
use Rattle.marks.proofs.Marking.{marks_length, marks_at}
use Rattle.marks.proofs.Tests.{judged_bad, bad_judged, judged_good, good_judged}
use Rattle.geometry.proofs.Spliced.{page_unmet, page_lent}
use Rattle.admission.specs.Input.{Lent, beside, page_bytes_of, limit_of, slots_of, marks_of}
use Rattle.admission.specs.Check.{check_rows}
use Rattle.admission.specs.Recheck.{Call, recheck_of}
use Rattle.admission.specs.Meets.{meets}
use Rattle.admission.specs.Demand3.{Book, opened, turned_down, book_after1, book_after, whole_answer, due, Made, calls, Kept, last_marks, Event, change, call, made_in, LentFrom, Faithful, examines, page_at, last_seen, examined_page, LowestDiffers, AnswersFor, Pages}
use Rattle.admission.proofs.Meets.{met, unmet}
use Rattle.admission.proofs.Chains.{input_passed, book_examined, book_stays, Held, held_opened, held_long, held_answer, held_after, chain_marks, started, chains}

-- AN ANSWER BY MARKS

-- a mark is 1 exactly where its page differs
one_differs : (b : Bool) → cond {A = ℕ} b 0 1 ≡ 1 → b ≡ false
one_differs true e = absurd (omega arith)
one_differs false e = refl

not_one_agrees : (b : Bool) → (cond {A = ℕ} b 0 1 ≡ 1 → ⊥) → b ≡ true
not_one_agrees true e = refl
not_one_agrees false e = absurd (e refl)

agrees_not_one : (b : Bool) → b ≡ true → cond {A = ℕ} b 0 1 ≡ 1 → ⊥
agrees_not_one true e h = omega arith
agrees_not_one false e h = false≢true e

-- of marks that are those of the pages given: 0 exactly where all agree, 31 exactly at the lowest that differs
module _ (s : List ℕ) (page : ℕ → List ℕ) (marks : List ℕ) (long : length marks ≡ page_count (page_bytes_of s) (limit_of s))
    (mark : (i : ℕ) → i < page_count (page_bytes_of s) (limit_of s) → get_or marks i 0 ≡ cond (agrees (slots_of s) i (page i)) 0 1) where
  all_agree : judged marks 0 ≡ accepted → (i : ℕ) → i < page_count (page_bytes_of s) (limit_of s) → agrees (slots_of s) i (page i) ≡ true
  all_agree e i u =
      not_one_agrees _ (λ h. good_judged marks 0 (ap (λ (a : Answer). a.number) e) i (omega arith) (mark i u ∙ h))

  agree_all : ((i : ℕ) → i < page_count (page_bytes_of s) (limit_of s) → agrees (slots_of s) i (page i) ≡ true) → judged marks 0 ≡ accepted
  agree_all h =
      sym (judged_good marks 0 (λ k l e. let u : k < page_count (page_bytes_of s) (limit_of s) = omega arith in agrees_not_one _ (h k u) (sym (mark k u) ∙ e)))

  lowest_differs : (p : ℕ) → judged marks 0 ≡ refuse 31 p → LowestDiffers s page p
  unfolding differs
  lowest_differs p e =
      let l = bad_judged marks 0 p (sym e) in
      let u : p < page_count (page_bytes_of s) (limit_of s) = omega (arith, l.here) in
      record {
        here = u;
        differs = one_differs _ (sym (mark p u) ∙ l.here);
        before = λ k h. not_one_agrees _ (λ q. l.not_before k h (mark k (omega arith) ∙ q));
      }

  differs_lowest : (p : ℕ) → LowestDiffers s page p → judged marks 0 ≡ refuse 31 p
  unfolding differs
  differs_lowest p l =
      sym
      (judged_bad marks 0 p
      (record {
        below = omega (arith, l.here);
        here = mark p l.here ∙ ap (λ (b : Bool). cond {A = ℕ} b 0 1) l.differs;
        not_before = λ k h q. agrees_not_one _ (l.before k h) (sym (mark k (omega (arith, l.here))) ∙ q);
      }))

  answers_judged : AnswersFor s page (judged marks 0)
  answers_judged = record { accepts = (all_agree, agree_all); refuses = λ p. (lowest_differs p, differs_lowest p) }

-- a mark and its page, along equations
marked : (s image : List ℕ) (i : ℕ) → i < page_count (page_bytes_of s) (limit_of s) → (marks page : List ℕ) → marks ≡ marks_of s image → page_at s image i ≡ page
    → get_or marks i 0 ≡ cond (agrees (slots_of s) i page) 0 1
unfolding mark_of
marked s image i u marks page e q =
    ap (λ (l : List ℕ). get_or l i 0) e
    ∙ marks_at (page_bytes_of s) (limit_of s) (slots_of s) image i u
    ∙ ap (λ (l : List ℕ). cond {A = ℕ} (agrees (slots_of s) i l) 0 1) q

-- AFTER A WHOLE CHECK that passed tests 1 to 30

module _ (x : Lent) (n : ℕ) (p : Passes (check_rows (beside x) (length x.image) n)) where
  abbrev s : List ℕ
  s = x.signature

  -- one call, lent the image's bytes where it examines
  page_call : (b : Book) → Held x b → (image : List ℕ) (c : Call) → (turned_down s c ≡ 0 → LentFrom s image c) → (i : ℕ)
      → page_at s (book_after1 s b c).image i ≡ cond (examines s c i) (page_at s image i) (page_at s b.image i)
  page_call b h image (recheck_of start size new) own i =
      by_test (eqb (turned_down s (recheck_of start size new)) 0) refl (meets s start size i) refl
    where
      by_test : (t : Bool) → eqb (turned_down s (recheck_of start size new)) 0 ≡ t → (m : Bool) → meets s start size i ≡ m
          → page_at s (book_after1 s b (recheck_of start size new)).image i ≡ cond (t && m) (page_at s image i) (page_at s b.image i)
      by_test true e true f =
          let z = eqb-true _ _ e in
          let l = input_passed s start size new z in
          let q = met s start size i f in
          rw (book_examined s b (recheck_of start size new) e)
          (page_lent (page_bytes_of s) (limit_of s) b.image start size new (held_long x n p b h) l.0 l.1 image (own z) i q.0 q.1)
      by_test true e false f =
          let l = input_passed s start size new (eqb-true _ _ e) in
          rw (book_examined s b (recheck_of start size new) e)
          (page_unmet (page_bytes_of s) (limit_of s) b.image start size new (held_long x n p b h) l.0 l.1 i (unmet s start size i f))
      by_test false e m f = rw (book_stays s b (recheck_of start size new) e)

  -- so where the book has the pages seen before it, it has those seen after it
  seen_call : (b : Book) → Held x b → (image : List ℕ) (c : Call) → (turned_down s c ≡ 0 → LentFrom s image c) → (i : ℕ) (seen : List ℕ)
      → page_at s b.image i ≡ seen → page_at s (book_after1 s b c).image i ≡ cond (examines s c i) (page_at s image i) seen
  seen_call b h image c own i seen e =
      page_call b h image c own i ∙ ap (λ (l : List ℕ). cond (examines s c i) (page_at s image i) l) e

  -- THE LIST, by induction

  -- each page of the book's image after it
  page_list : (b : Book) → Held x b → (i : ℕ) (seen image : List ℕ) (events : List Event) → page_at s b.image i ≡ seen → Faithful s image events
      → page_at s (book_after s b (calls (made_in events))).image i ≡ last_seen s i seen image events
  unfolding book_after last_seen Faithful
  page_list b h i seen image [] e f = e
  page_list b h i seen image (change at new ∷ es) e f = page_list b h i seen _ es e f.1
  page_list b h i seen image (call m ∷ es) e f =
      page_list (book_after1 s b m.call) (held_after x n p b h m.call) i _ image es (seen_call b h image m.call f.0 i seen e) f.1

  -- a recheck that is not turned down answers by the marks of the book's image as it leaves it
  answer_call : (b : Book) → Held x b → (m : Made) → m.answer ≡ due x n b m.call → turned_down s m.call ≡ 0
      → (page : ℕ → List ℕ) → ((i : ℕ) → page_at s (book_after1 s b m.call).image i ≡ page i) → AnswersFor s page m.answer
  unfolding due
  answer_call b h m e z page q =
      let next = book_after1 s b m.call in
      let w : due x n b m.call ≡ whole_answer x n next = rw z in
      subst (AnswersFor s page) (sym (e ∙ w ∙ held_answer x n p next (held_after x n p b h m.call)))
      (answers_judged s page (marks_of s next.image) (marks_length (page_bytes_of s) (limit_of s) (slots_of s) next.image)
      (λ i u. marked s next.image i u _ _ refl (q i)))

  -- each recheck in it, by the list up to that recheck
  answer_list : (b : Book) → Held x b → (seen : ℕ → List ℕ) (image : List ℕ) (before rest : List Event) (m : Made)
      → ((i : ℕ) → page_at s b.image i ≡ seen i) → Faithful s image (before ++ (call m ∷ rest)) → Kept x n b (made_in (before ++ (call m ∷ rest)))
      → turned_down s m.call ≡ 0 → AnswersFor s (λ i. last_seen s i (seen i) image (before ++ (call m ∷ []))) m.answer
  unfolding last_seen Faithful Kept
  answer_list b h seen image [] rest m e f k z =
      answer_call b h m k.0 z _ (λ i. seen_call b h image m.call f.0 i (seen i) (e i))
  answer_list b h seen image (change at new ∷ es) rest m e f k z = answer_list b h seen _ es rest m e f.1 k z
  answer_list b h seen image (call d ∷ es) rest m e f k z =
      answer_list (book_after1 s b d.call) (held_after x n p b h d.call) _ image es rest m
      (λ i. seen_call b h image d.call f.0 i (seen i) (e i)) f.1 k.1.1 z

pub pages : Pages
pages x marks v after events c z t f =
    let o = opened x.image in
    let h = held_opened x in
    let w = started x marks v after c z in
    let page : (i : ℕ) → page_at x.signature (book_after x.signature o (calls (made_in events))).image i ≡ examined_page x.signature x.image events i =
    λ i. page_list x (length marks) w.passing o h i _ x.image events refl f in
    let left : last_marks after (made_in events) ≡ marks_of x.signature (book_after x.signature o (calls (made_in events))).image =
    rw w.left (chain_marks x (length marks) w.passing o (made_in events) h (rw w.left at t)) in
    record {
      page = page;
      mark = λ i u. marked x.signature _ i u _ _ left (page i);
      answer =
          λ before rest m e d.
          answer_list x (length marks) w.passing o h (page_at x.signature x.image) x.image before rest m (λ i. refl)
          (subst (Faithful x.signature x.image) e f)
          (subst (λ (l : List Event). Kept x (length marks) o (made_in l)) e (chains x marks v after (made_in events) c z t).1.0)
          d;
    }
