-- What a call answers and the marks that it leaves, from what its tests answer and what its pages are marked. Assumes nothing.
use Prim.Native.Nat.{ℕ, ◌-◌, ◌≤◌}
use mathlib.Core.Bool.{true, false, cond}
use mathlib.Core.List.{List, ◌++◌}
use mathlib.Core.Path.{◌≡◌, refl, sym, ap, ap₂, ◌∙◌}
use native.Mathlib.Omega.{arith}
use lib.ListN.{length, take, drop}
use Rattle.refusals.specs.declared.Answer.{Answer}
use Rattle.refusals.specs.Refusals.{◌≡?◌, holds, Row, refuse, accepted, first, Passes}
use Rattle.refusals.proofs.Conditions.{says}
use Rattle.refusals.proofs.Exact.{Unused, passes}
use Rattle.refusals.proofs.Joined.{first_append, append_passes, stops, stops_at, stops_alone, passed_at, goes_on}
use Rattle.layout.specs.CodeDirectory.{slot_width}
use Rattle.superblob.specs.Rows.{rows, head_rows, index_rows}
use Rattle.directory.specs.Pages.{code_limit, P}
use Rattle.directory.specs.Rows.{directory, signature_rows, directory_rows, blob_rows, field_rows, slot_rows}
use Rattle.directory.proofs.Formed.{signature_exactly}
use Rattle.directory.proofs.Pages.{counted, slotted, fits}
use Rattle.slots.specs.Slots.{special_rows}
use Rattle.trustcache.specs.Rows.{form_rows, lookup_rows}
use Rattle.trustcache.specs.Launch.{launch_rows}
use Rattle.trustcache.specs.Table.{cache_rows}
use Rattle.geometry.specs.Pages.{range_rows}
use Rattle.marks.specs.Marks as Marks
use Rattle.marks.specs.Marks.{mark_rows, bad_rows, judged, RangeHere}
use Rattle.geometry.proofs.Ranges.{range_passed}
use Rattle.admission.specs.declared.Verdict.{Verdict}
use Rattle.admission.specs.Input.{Beside, Lent, beside, longest, slots_by, page_bytes_of, limit_of, marks_by, marks_of, ImageHere}
use Rattle.admission.specs.declared.Origin.{Origin}
use Rattle.admission.specs.declared.Origin.TheVariants as origin
use Rattle.admission.specs.Check.{image_rows, later_rows, count_rows, check_rows, entry_for, check_tested, check_table, check_answer, check_marks, verdict_of, CheckOutcome, check_of}
use Rattle.admission.specs.File.{LentFile, apart, start_rows, file_rows, file_table, file_answer, file_marks, file_of, FileChecked}
use Rattle.admission.specs.Parts.{origin_rows, parts_rows, parts_tested, outcome_of, parts_of, PartsChecked}
use Rattle.macho.specs.declared.Span.{Span}
use Rattle.macho.specs.Rows.{walk_rows, signature_position, signature_of, image_of, Spanned}
use Rattle.macho.proofs.Table.{walk_rows_unused}
use Rattle.macho.proofs.Parts.{image_long, image_slice}
use Rattle.admission.specs.Recheck.{Call, recheck_of, input_rows, call_rows, remarked, call_answer, call_marks, CallOutcome, call_of, Rechecked}

-- MARKS that stay, and marks that are written, by the number of the tests' answer

left : (n : ℕ) (new old : List ℕ) → (n ≡ 0 → ⊥) → old ≡ cond (holds (n ≡? 0)) new old
left n new old ne = rw (← says false (n ≡? 0) ne)

written : (n : ℕ) (new old : List ℕ) → n ≡ 0 → new ≡ cond (holds (n ≡? 0)) new old
written n new old z = rw (← says true (n ≡? 0) z)

-- THE WHOLE CHECK

-- no row has the number 0
parts_unused : (o : Origin) (x : Beside) (image marks : ℕ) → Unused (parts_rows o x image marks) 0
unfolding parts_rows signature_rows rows head_rows index_rows directory_rows blob_rows field_rows slot_rows image_rows start_rows later_rows count_rows special_rows cache_rows form_rows lookup_rows launch_rows
parts_unused origin.Apart x image marks = tt
parts_unused (origin.File command) x image marks = tt

-- where 19 or 41 passes, the image reaches the code limit
reaches : (o : Origin) (d : List ℕ) (image : ℕ) → Passes (origin_rows o d image) → code_limit d ≤ image
unfolding image_rows start_rows
reaches origin.Apart d image h = h.0
reaches (origin.File command) d image h = omega (arith, h.0)

module _ (o : Origin) (x : Lent) (marks : List ℕ) (a : Answer) (e : a ≡ parts_tested o (beside x) (length x.image) (length marks)) where
  abbrev outcome : Verdict → List ℕ → CheckOutcome
  outcome v m = record { verdict = v; marks = m }

  abbrev tests : List Row
  tests = parts_rows o (beside x) (length x.image) (length marks)

  abbrev done : Answer
  done = refuse 0 (entry_for (beside x))

  pub parts_refused : (a.number ≡ 0 → ⊥) → (v : Verdict) → v ≡ verdict_of a → PartsChecked o x marks v marks
  unfolding parts_of
  parts_refused ne v f =
      ap₂ outcome
      (f ∙ ap verdict_of (stops_at tests _ done _ a refl e ne))
      (left _ _ marks (λ q. ne (ap (λ (b : Answer). b.number) (stops_alone tests done accepted a refl e ne) ∙ q)))

  module _ (z : a.number ≡ 0) where
    passed : Passes tests
    passed = passed_at tests done a (parts_unused o (beside x) (length x.image) (length marks)) e z

    entry_is : a.place ≡ entry_for (beside x)
    entry_is = ap (λ (b : Answer). b.place) (e ∙ sym (passes tests done passed))

    pub image_here : (d : List ℕ) → d ≡ directory x.signature → ImageHere d x.image marks
    unfolding parts_rows later_rows count_rows
    image_here d k =
        let p = append_passes (signature_rows (longest x.sides) x.signature) _ passed in
        let w = ((signature_exactly (longest x.sides) x.signature).0 p.0).formed in
        let r = append_passes (origin_rows o (directory x.signature) (length x.image)) _ p.1 in
        rw k (record { slotted = slotted _ w; marked = counted _ w _ r.1.0; reached = reaches o (directory x.signature) (length x.image) r.0 })

    pub parts_judged : (d : List ℕ) → d ≡ directory x.signature → (new : List ℕ) → new ≡ marks_by d x.image → (b : Answer) → b ≡ judged new a.place
        → (v : Verdict) → v ≡ verdict_of b → PartsChecked o x marks v new
    unfolding parts_of judged
    parts_judged d k new n b h v f =
        let m : new ≡ marks_of x.signature x.image = rw (← k) n in
        ap₂ outcome
        (f ∙ ap verdict_of (goes_on tests (bad_rows (marks_of x.signature x.image)) done b passed (h ∙ ap₂ judged m entry_is)))
        (m ∙ written _ _ marks (sym (ap (λ (b : Answer). b.number) (passes tests accepted passed))))

-- THE IMAGE LENT APART

pub tested_apart : (x : Beside) (image marks : ℕ) → parts_tested origin.Apart x image marks ≡ check_tested x image marks
unfolding parts_rows check_rows
tested_apart x image marks = refl

pub parts_apart : (x : Lent) (marks : List ℕ) → parts_of origin.Apart x marks ≡ check_of x marks
unfolding parts_of parts_rows check_of check_answer check_table check_marks check_rows
parts_apart x marks = refl

-- TESTS THAT ANSWER ALIKE give the same answer and leave the same marks

pub outcome_alike : (these those : List Row) (new : List ℕ) (entry : ℕ) (old : List ℕ) → ((d : Answer) → first these d ≡ first those d)
    → outcome_of these new entry old ≡ outcome_of those new entry old
outcome_alike these those new entry old e =
    let pages = first (bad_rows new) (refuse 0 entry) in
    ap₂ (λ (a b : Answer). record { verdict = verdict_of a; marks = cond (holds (b.number ≡? 0)) new old })
    (first_append these (bad_rows new) (refuse 0 entry) ∙ e pages ∙ sym (first_append those (bad_rows new) (refuse 0 entry)))
    (e accepted)

-- A FILE

module _ (x : LentFile) (marks : List ℕ) where
  abbrev f : List ℕ
  f = x.file

  abbrev parts : ℕ → List Row
  parts m = parts_rows (origin.File (signature_position f)) (beside (apart x)) (length (image_of f)) m

  -- a refusal by tests 36 to 40 stands and leaves the marks
  pub file_refused : (a : Answer) → a ≡ first (walk_rows f) accepted → (a.number ≡ 0 → ⊥) → (v : Verdict) → v ≡ verdict_of a → FileChecked x marks v marks
  unfolding file_of file_answer file_table file_marks file_rows
  file_refused a e ne v q =
      let s = stops (walk_rows f) _ accepted a e ne in
      ap₂ (λ (v : Verdict) (m : List ℕ). record { verdict = v; marks = m })
      (q ∙ ap verdict_of (stops_at (file_rows x (length marks)) _ accepted (refuse 0 (entry_for (beside (apart x)))) a refl s ne))
      (left _ _ marks (λ z. ne (ap (λ (b : Answer). b.number) s ∙ z)))

  module _ (p : Passes (walk_rows f)) where
    -- where they pass, the signature starts where the image ends, and the rest is a whole check of the two
    parts_rows_are : (m : ℕ) → file_rows x m ≡ walk_rows f ++ parts m
    unfolding file_rows parts_rows
    parts_rows_are m =
        ap (λ (n : ℕ). walk_rows f ++ (signature_rows (longest x.sides) (signature_of f) ++ (start_rows (directory (signature_of f)) n (signature_position f) ++ later_rows (beside (apart x)) (directory (signature_of f)) m)))
        (sym (image_long f p))

    file_first : (m : ℕ) (done : Answer) → first (file_rows x m) done ≡ first (parts m) done
    file_first m done =
        ap (λ (rows : List Row). first rows done) (parts_rows_are m)
        ∙ first_append (walk_rows f) (parts m) done
        ∙ sym (passes (walk_rows f) (first (parts m) done) p)

    pub file_parts : file_of x marks ≡ parts_of (origin.File (signature_position f)) (apart x) marks
    unfolding file_of file_answer file_table file_marks parts_of
    file_parts =
        outcome_alike (file_rows x (length marks)) (parts (length marks)) _ _ marks (file_first (length marks))

  -- what the code lends of the file
  pub file_checked : (a : Answer) → a ≡ first (walk_rows f) accepted → a.number ≡ 0 → (r : Span) → Spanned f r → (v : Verdict) (after : List ℕ)
      → PartsChecked (origin.File r.command)
      (record { signature = take (r.end - r.start) (drop r.start f); image = take (r.start - 0) (drop 0 f); cache = x.cache; sides = x.sides; facts = x.facts })
      marks v after
      → FileChecked x marks v after
  unfolding signature_of
  file_checked a e z r g v after h =
      h
      ∙ (λ i. parts_of (origin.File (g.command_is i))
      (record { signature = take (g.end_is i - g.start_is i) (drop (g.start_is i) f); image = image_at i; cache = x.cache; sides = x.sides; facts = x.facts }) marks)
      ∙ sym (file_parts (passed_at (walk_rows f) accepted a (walk_rows_unused f) e z))
    where
      image_at : take (r.start - 0) (drop 0 f) ≡ image_of f
      image_at = ap (λ (n : ℕ). take (n - 0) (drop 0 f)) g.start_is ∙ image_slice f

-- THE RECHECK

pub call_unused : (s : List ℕ) (c : Call) (marks : List ℕ) → Unused (call_rows s c marks) 0
unfolding call_rows signature_rows rows head_rows index_rows directory_rows blob_rows field_rows slot_rows count_rows input_rows range_rows mark_rows
call_unused s (recheck_of start size contents) marks = tt

module _ (s : List ℕ) (start size : ℕ) (contents marks : List ℕ) (a : Answer) (e : a ≡ first (call_rows s (recheck_of start size contents) marks) accepted) where
  abbrev call_outcome : Answer → List ℕ → CallOutcome
  call_outcome b m = record { answer = b; marks = m }

  pub recheck_refused : (a.number ≡ 0 → ⊥) → Rechecked s (recheck_of start size contents) marks a marks
  unfolding call_of call_answer call_marks
  recheck_refused ne =
      ap₂ call_outcome
      (stops_at (call_rows s (recheck_of start size contents) marks) _ accepted _ a refl e ne)
      (left _ _ marks (λ q. ne (ap (λ (b : Answer). b.number) e ∙ q)))

  module _ (z : a.number ≡ 0) where
    call_passed : Passes (call_rows s (recheck_of start size contents) marks)
    call_passed = passed_at (call_rows s (recheck_of start size contents) marks) accepted a (call_unused s (recheck_of start size contents) marks) e z

    pub range_here : (d : List ℕ) → d ≡ directory s → RangeHere (P d) (code_limit d) (slots_by d) start size contents marks
    unfolding call_rows count_rows input_rows slot_width
    range_here d k =
        let p = append_passes (signature_rows 0 s) _ call_passed in
        let w = ((signature_exactly 0 s).0 p.0).formed in
        let r = append_passes (range_rows (page_bytes_of s) (limit_of s) start size (length contents)) (mark_rows marks) p.1.1 in
        let t = range_passed (page_bytes_of s) (limit_of s) start size (length contents) r.0 in
        rw k (record { fits = fits _ w; slotted = slotted _ w; marked = counted _ w _ p.1.0; below = t.0; exact = t.1 })

    pub recheck_judged : (d : List ℕ) → d ≡ directory s → (new : List ℕ)
        → new ≡ Marks.remarked (P d) (code_limit d) (slots_by d) start size contents marks → (b : Answer) → b ≡ judged new 0
        → Rechecked s (recheck_of start size contents) marks b new
    unfolding call_of call_answer call_marks judged remarked
    recheck_judged d k new n b h =
        let m : new ≡ remarked s (recheck_of start size contents) marks = rw (← k) n in
        ap₂ call_outcome
        (goes_on (call_rows s (recheck_of start size contents) marks) (bad_rows (remarked s (recheck_of start size contents) marks)) accepted b call_passed
        (h ∙ ap (λ (l : List ℕ). judged l 0) m))
        (m ∙ written _ _ marks (sym (ap (λ (b : Answer). b.number) (passes (call_rows s (recheck_of start size contents) marks) accepted call_passed))))
