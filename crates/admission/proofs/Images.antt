-- Where no change has met a page after it was last examined, the page as it was last examined is the image's. So with no page altered the
-- book's image has the image's pages; it has the same length and bytes past the limit too, and marks and the latest answer go by it.
use Prim.Native.Nat.{ℕ, ◌≤◌}
use mathlib.Core.Bool.{Bool, true, false, cond, ◌||◌, true≢false}
use mathlib.Core.List.{List, [], ◌∷◌}
use mathlib.Core.Path.{◌≡◌, refl, sym, ◌∙◌}
use native.Mathlib.Omega.{arith}
use lib.ListN.{length, drop}
use Rattle.geometry.specs.Pages.{Fit, splice}
use Rattle.geometry.proofs.Parts.{splice_length, splice_past}
use Rattle.geometry.proofs.Spliced.{change_page, same_pages}
use Rattle.admission.specs.Input.{beside, with_image, page_bytes_of, limit_of}
use Rattle.admission.specs.Meets.{meets}
use Rattle.admission.specs.Demand3.{opened, book_after, whole_answer, calls, Event, change, call, image_after, made_in, Faithful, examines, page_at, last_seen, altered, Images}
use Rattle.admission.proofs.Outcomes.{ready, whole_marks}
use Rattle.admission.proofs.Meets.{unmet}
use Rattle.admission.proofs.Chains.{held_opened, held_passes, chain_held, chain_marks, started, chains}
use Rattle.admission.proofs.Pages.{pages}

-- THE IMAGE

-- changes below the limit keep its length and the bytes past the limit
pub image_kept : (s image : List ℕ) (events : List Event) → limit_of s ≤ length image → Faithful s image events
    → (length (image_after image events) ≡ length image) × (drop (limit_of s) (image_after image events) ≡ drop (limit_of s) image)
unfolding image_after Faithful
image_kept s image [] l f = (refl, refl)
image_kept s image (change at new ∷ es) l f =
    let n : length (splice image at new) ≡ length image = splice_length image at new (omega arith) in
    let k = image_kept s (splice image at new) es (omega arith) f.1 in
    (k.0 ∙ n, k.1 ∙ splice_past image at new (limit_of s) f.0 l)
image_kept s image (call m ∷ es) l f = image_kept s image es l f.1

-- A PAGE THAT WAS NOT ALTERED

or_false : (x y : Bool) → (x || y) ≡ false → (x ≡ false) × (y ≡ false)
or_false true y h = absurd (true≢false h)
or_false false y h = (refl, h)

-- what was last seen is the image's, where that was so of pages not altered before
page_now : (s : List ℕ) (i : ℕ) (d : Bool) (seen image : List ℕ) (events : List Event) → Fit (page_bytes_of s) (limit_of s) → limit_of s ≤ length image
    → Faithful s image events → (d ≡ false → seen ≡ page_at s image i) → altered s i d events ≡ false
    → last_seen s i seen image events ≡ page_at s (image_after image events) i
unfolding image_after Faithful altered last_seen
page_now s i d seen image [] fit l f e a = e a
page_now s i d seen image (change at new ∷ es) fit l f e a =
    let n : length (splice image at new) ≡ length image = splice_length image at new (omega arith) in
    page_now s i (meets s at (length new) i || d) seen (splice image at new) es fit (omega arith) f.1
    (λ q.
    let r = or_false (meets s at (length new) i) d q in
    e r.1 ∙ sym (change_page (page_bytes_of s) (limit_of s) image at new i fit l f.0 (unmet s at (length new) i r.0)))
    a
page_now s i d seen image (call m ∷ es) fit l f e a =
    page_now s i (cond (examines s m.call i) false d) _ image es fit l f.1 (by_test (examines s m.call i)) a
  where
    by_test : (b : Bool) → cond b false d ≡ false → cond b (page_at s image i) seen ≡ page_at s image i
    by_test true q = refl
    by_test false q = e q

-- THE WHOLE IMAGE

pub images : Images
unfolding whole_answer
images x marks v after events c z t f n =
    let s = started x marks v after c z in
    let r = ready (beside x) (length x.image) (length marks) s.passing in
    let h = chain_held x (length marks) s.passing (opened x.image) (calls (made_in events)) (held_opened x) in
    let k = image_kept x.signature x.image events r.long f in
    let q : (book_after x.signature (opened x.image) (calls (made_in events))).image ≡ image_after x.image events =
    same_pages (page_bytes_of x.signature) (limit_of x.signature) _ _ r.fits (h.long ∙ sym k.0) (h.past ∙ sym k.1)
    (λ i u. (pages x marks v after events c z t f).page i ∙ page_now x.signature i false _ x.image events r.fits r.long f (λ d. refl) (n i u)) in
    let p = rw q at (held_passes x (length marks) s.passing _ h) in (
      q,
      (
        rw (s.left, whole_marks (with_image x (image_after x.image events)) marks p, ← q)
            (chain_marks x (length marks) s.passing (opened x.image) (made_in events) (held_opened x) (rw s.left at t)),
        rw (← q) (chains x marks v after (made_in events) c z t).1.1,
      ),
    )
