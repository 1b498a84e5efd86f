-- What demand 3 says of a file. A check of a file that answered 0 or 31 is a check of its image and signature lent apart, so all is said of these.
-- Changes made in the file are made in its image; a new file with the signature in the same range has the same signature, and as its image the
-- one after the changes. Assumes nothing.
use Prim.Native.Nat.{ℕ, ◌+◌, ◌-◌, ◌<◌, ◌≤◌}
use mathlib.Core.Bool.{Bool, true, false}
use mathlib.Core.List.{List, [], ◌∷◌, ◌++◌, append_assoc}
use mathlib.Core.Path.{◌≡◌, refl, sym, ap, ap₂, subst, ◌∙◌}
use native.Mathlib.Nat.{add-zero}
use native.Mathlib.Omega.{arith}
use lib.Dec.{ltb}
use lib.ListN.{length, get_or, take, drop, length-append, length-drop, take-append-drop, get_or-append}
use lib.Seq.{take_all, get_or-take, get_or-drop, take-append-le, drop-append-le, drop-append-add, length-take-le}
use borrow.Author.Tests.{ltb-true, ltb-false}
use Rattle.geometry.specs.Pages.{splice}
use Rattle.geometry.proofs.Parts.{splice_length}
use Rattle.layout.specs.MachO.{mach_head, sizeofcmds}
use Rattle.macho.specs.Rows.{signature_start, signature_end, signature_of, image_of}
use Rattle.macho.specs.Walked.{Walked}
use Rattle.macho.proofs.Walked.{walked, walked_passes}
use Rattle.macho.proofs.Parts.{start_is, image_long}
use Rattle.macho.proofs.Same.{Alike, walked_same, start_same, end_same}
use Rattle.admission.specs.Input.{Lent, with_image, limit_of}
use Rattle.admission.specs.Check.{CheckOutcome, check_of}
use Rattle.admission.specs.File.{LentFile, with_file, apart, file_of}
use Rattle.admission.specs.Demand3.{Event, change, call, image_after, Faithful, placeless, answer_of}
use Rattle.admission.specs.FileDemands.{Apart, file_after, SameRange, Files, Behind, BehindCommands}
use Rattle.admission.proofs.Files.{file_is_check, file_passes}
use Rattle.admission.proofs.Images.{image_kept, images}

pub lent_apart : Apart
lent_apart x marks v after c z =
    let g = file_passes x marks v after c z in
    c ∙ file_is_check x marks g.walk (λ q. g.at_limit)

-- THE NEW FILE: an image as long as the old one, and then the old file from the signature on

module _ (x : LentFile) (image : List ℕ) (long : length image ≡ signature_start x.file) where
  abbrev f : List ℕ
  f = x.file

  abbrev g : List ℕ
  g = image ++ drop (signature_start f) f

  behind : drop (signature_start f) g ≡ drop (signature_start f) f
  behind = subst (λ (n : ℕ). drop n g ≡ drop (signature_start f) f) (add-zero (length image) ∙ long) (drop-append-add image (drop (signature_start f) f) 0)

  -- where the new image has the bytes before n of the old one, so has the new file of the old one
  alike : (w : Walked f) → ((k : ℕ) → k < mach_head + sizeofcmds f → get_or image k 0 ≡ get_or (image_of f) k 0) → Alike f g
  unfolding image_of
  alike w same_before =
      record {
        long = sym (length-append image (drop (signature_start f) f) ∙ omega (arith, length-drop (signature_start f) f, long, start_is f w, w.range_inside));
        bytes = λ k h. by_test k h (ltb k (signature_start f)) refl;
      }
    where
      by_test : (k : ℕ) → k < mach_head + sizeofcmds f → (b : Bool) → ltb k (signature_start f) ≡ b → get_or f k 0 ≡ get_or g k 0
      by_test k h true e =
          let l = ltb-true k (signature_start f) e in
          sym (get_or-take (signature_start f) f k 0 l)
          ∙ sym (same_before k h)
          ∙ sym (get_or-append image (drop (signature_start f) f) 0 k (omega arith))
      by_test k h false e =
          let l = ltb-false k (signature_start f) e in
          let i = k - signature_start f in
          let q : signature_start f + i ≡ k = omega arith in
          sym (get_or-drop (signature_start f) f i 0 ∙ ap (λ (n : ℕ). get_or f n 0) q)
          ∙ ap (λ (l : List ℕ). get_or l i 0) (sym behind)
          ∙ get_or-drop (signature_start f) g i 0
          ∙ ap (λ (n : ℕ). get_or g n 0) q

  module _ (same : SameRange f g) where
    image_new : image_of g ≡ image
    unfolding image_of
    image_new =
        ap (λ (n : ℕ). take n g) (same.start ∙ sym long)
        ∙ take-append-le (length image) image (drop (signature_start f) f) (omega arith)
        ∙ take_all (length image) image (omega arith)

    signature_new : signature_of g ≡ signature_of f
    unfolding signature_of
    signature_new =
        ap₂ (λ (e a : ℕ). take (e - a) (drop a g)) same.end same.start
        ∙ ap (take (signature_end f - signature_start f)) behind

    apart_new : apart (with_file x g) ≡ with_image (apart x) image
    apart_new i = record { signature = signature_new i; image = image_new i; cache = x.cache; sides = x.sides; facts = x.facts }

    -- it is checked as the old signature with the new image, where the signature starts at the code limit
    file_new : signature_start f ≡ limit_of (signature_of f) → (marks : List ℕ) → file_of (with_file x g) marks ≡ check_of (with_image (apart x) image) marks
    file_new e marks =
        file_is_check (with_file x g) marks same.walks (λ q. same.start ∙ e ∙ sym (ap limit_of signature_new))
        ∙ ap (λ (y : Lent). check_of y marks) apart_new

-- CHANGES MADE IN THE FILE are those of its image, with the same bytes behind it

splice_front : (l rest : List ℕ) (at : ℕ) (b : List ℕ) → at + length b ≤ length l → splice (l ++ rest) at b ≡ splice l at b ++ rest
splice_front l rest at b h =
    ap₂ (λ (t d : List ℕ). t ++ b ++ d) (take-append-le at l rest (omega arith)) (drop-append-le (at + length b) l rest h)
    ∙ sym (append_assoc (take at l ++ b) (drop (at + length b) l) rest)

changed_front : (s image rest : List ℕ) (events : List Event) → limit_of s ≤ length image → Faithful s image events
    → image_after (image ++ rest) events ≡ image_after image events ++ rest
unfolding image_after Faithful
changed_front s image rest [] l f = refl
changed_front s image rest (change at new ∷ es) l f =
    let n : length (splice image at new) ≡ length image = splice_length image at new (omega arith) in
    ap (λ (h : List ℕ). image_after h es) (splice_front image rest at new (omega arith))
    ∙ changed_front s (splice image at new) rest es (omega arith) f.1
changed_front s image rest (call m ∷ es) l f = changed_front s image rest es l f.1

changed_file : (x : LentFile) (events : List Event) → limit_of (signature_of x.file) ≤ length (image_of x.file)
    → Faithful (signature_of x.file) (image_of x.file) events
    → file_after x events ≡ image_after (image_of x.file) events ++ drop (signature_start x.file) x.file
unfolding image_of
changed_file x events l f =
    ap (λ (h : List ℕ). image_after h events) (sym (take-append-drop (signature_start x.file) x.file))
    ∙ changed_front (signature_of x.file) (image_of x.file) (drop (signature_start x.file) x.file) events l f

pub files : Files
unfolding file_of check_of
files x marks v after events c z t faith n same =
    let g = file_passes x marks v after c z in
    let start = image_long x.file g.walk in
    let long : limit_of (signature_of x.file) ≤ length (image_of x.file) = omega (arith, start, g.at_limit) in
    let kept = image_kept (signature_of x.file) (image_of x.file) events long faith in
    let q = changed_file x events long faith in
    let i = images (apart x) marks v after events (lent_apart x marks v after c z) z t faith n in
    let e =
    sym (ap (λ (h : List ℕ). file_of (with_file x h) marks) q
    ∙ file_new x (image_after (image_of x.file) events) (kept.0 ∙ start) (subst (SameRange x.file) q same) g.at_limit marks) in
    (i.1.0 ∙ ap (λ (o : CheckOutcome). o.marks) e, i.1.1 ∙ ap (λ (o : CheckOutcome). placeless (answer_of o.verdict)) e)

-- CHANGES BEHIND THE COMMANDS

splice_at : (l : List ℕ) (at : ℕ) (b : List ℕ) → at + length b ≤ length l → (k : ℕ) → k < at → get_or (splice l at b) k 0 ≡ get_or l k 0
splice_at l at b fits k h =
    let n = length-take-le at l (omega arith) in
    let m = length-append (take at l) b in
    get_or-append (take at l ++ b) (drop (at + length b) l) 0 k (omega arith)
    ∙ get_or-append (take at l) b 0 k (omega arith)
    ∙ get_or-take at l k 0 h

-- leave every byte before them
before_changes : (s image : List ℕ) (n : ℕ) (events : List Event) → limit_of s ≤ length image → Faithful s image events → Behind n events → (k : ℕ) → k < n
    → get_or (image_after image events) k 0 ≡ get_or image k 0
unfolding image_after Faithful Behind
before_changes s image n [] l f b k h = refl
before_changes s image n (change at new ∷ es) l f b k h =
    let q : length (splice image at new) ≡ length image = splice_length image at new (omega arith) in
    before_changes s (splice image at new) n es (omega arith) f.1 b.1 k h ∙ splice_at image at new (omega arith) k (omega (arith, b.0))
before_changes s image n (call m ∷ es) l f b k h = before_changes s image n es l f.1 b k h

pub behind_commands : BehindCommands
behind_commands x marks v after events c z faith b =
    let g = file_passes x marks v after c z in
    let start = image_long x.file g.walk in
    let long : limit_of (signature_of x.file) ≤ length (image_of x.file) = omega (arith, start, g.at_limit) in
    let kept = image_kept (signature_of x.file) (image_of x.file) events long faith in
    let w = walked x.file g.walk in
    let a = alike x (image_after (image_of x.file) events) (kept.0 ∙ start) w
    (λ k h. before_changes (signature_of x.file) (image_of x.file) (mach_head + sizeofcmds x.file) events long faith b k h) in
    let new = image_after (image_of x.file) events ++ drop (signature_start x.file) x.file in
    subst (SameRange x.file) (sym (changed_file x events long faith))
    (record {
      walks = walked_passes new (walked_same x.file new a w);
      start = start_same x.file new a w;
      end = end_same x.file new a w;
    })
