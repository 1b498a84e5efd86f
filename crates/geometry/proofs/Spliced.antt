-- The image with lent bytes put in, by its pages.
use Prim.Native.Nat.{ℕ, zero, suc, ◌+◌, ◌-◌, ◌*◌, ◌/◌, ◌≤◌, ◌<◌}
use mathlib.Core.Path.{◌≡◌, refl, sym, ap, ap₂, subst, ◌∙◌}
use mathlib.Core.Logic.{◌⊎◌, ⊎_elim}
use mathlib.Core.Bool.{Bool, true, false}
use mathlib.Core.List.{List}
use native.Mathlib.Nat.{mul-le-mul_left, mul-div-le, lt-mul-div-succ, min-le_right, le-min, le_trans, add-sub_of_le}
use native.Mathlib.Omega.{arith}
use borrow.Author.Tests.{ltb-true, ltb-false}
use lib.Dec.{ltb}
use lib.ListN.{length, get_or, drop}
use lib.Seq.{ext_get_or, get_or-drop}
use Rattle.geometry.specs.Pages.{Fit, page_count, page_end, part, page_of, met_first, met_end, met_stop, wanted, splice}
use Rattle.geometry.proofs.Pages.{fit_pos, of_count, first_below, end_above, begin_stop, page_before, page_inside, page_after}
use Rattle.geometry.proofs.Parts.{part_at, part_part, splice_none, splice_length, splice_before, splice_inside, splice_after, splice_past}

-- A RECHECK'S LENT BYTES: of a range below the limit, and as long as the pages met
module _ (p limit : ℕ) (image : List ℕ) (start size : ℕ) (bytes : List ℕ)
    (long : limit ≤ length image) (below : start + size ≤ limit) (exact : length bytes ≡ wanted p limit start size) where
  -- they end where the last page met ends, and so lie within the image
  lent_end : p * met_first p start size + length bytes ≡ met_stop p limit start size
  lent_end = omega (arith, begin_stop p limit start size below)

  lent_below : p * met_first p start size + length bytes ≤ limit
  lent_below = omega (arith, lent_end, min-le_right (p * met_end p start size) limit)

  lent_within : p * met_first p start size + length bytes ≤ length image
  lent_within = omega (arith, lent_below)

  pub spliced_length : length (splice image (p * met_first p start size) bytes) ≡ length image
  spliced_length = splice_length image (p * met_first p start size) bytes lent_within

  pub spliced_past : drop limit (splice image (p * met_first p start size) bytes) ≡ drop limit image
  spliced_past = splice_past image (p * met_first p start size) bytes limit lent_below long

  -- a page that is not met stays, and one that is met is the lent one
  pub page_early : (i : ℕ) → i < met_first p start size → page_of p limit i (splice image (p * met_first p start size) bytes) ≡ page_of p limit i image
  page_early i h =
      splice_before image (p * met_first p start size) bytes lent_within (p * i) (page_end p limit i) (page_before p limit start size i h)

  pub page_late : (i : ℕ) → met_end p start size ≤ i → page_of p limit i (splice image (p * met_first p start size) bytes) ≡ page_of p limit i image
  page_late i h =
      splice_after image (p * met_first p start size) bytes lent_within (p * i) (page_end p limit i)
      (omega (arith, lent_end, page_after p limit start size i h))

  pub page_unmet : (i : ℕ) → (i < met_first p start size) ⊎ (met_end p start size ≤ i)
      → page_of p limit i (splice image (p * met_first p start size) bytes) ≡ page_of p limit i image
  page_unmet i h = ⊎_elim (page_early i) (page_late i) h

  pub page_met : (i : ℕ) → met_first p start size ≤ i → i < met_end p start size
      → page_of p limit i (splice image (p * met_first p start size) bytes)
      ≡ part bytes (p * i - p * met_first p start size) (page_end p limit i - p * met_first p start size)
  page_met i h u =
      splice_inside image (p * met_first p start size) bytes lent_within (p * i) (page_end p limit i) (mul-le-mul_left p h)
      (omega (arith, lent_end, page_inside p limit start size i u))

  -- lent the bytes of another image, a page met is that image's
  pub page_lent : (other : List ℕ) → bytes ≡ part other (p * met_first p start size) (met_stop p limit start size)
      → (i : ℕ) → met_first p start size ≤ i → i < met_end p start size
      → page_of p limit i (splice image (p * met_first p start size) bytes) ≡ page_of p limit i other
  page_lent other e i u v =
      let x : p * met_first p start size ≤ p * i = mul-le-mul_left p u in
      let s : page_end p limit i ≤ met_stop p limit start size = page_inside p limit start size i v in
      let w : p * met_first p start size + (p * i - p * met_first p start size) ≡ p * i = add-sub_of_le x in
      let y : p * met_first p start size ≤ met_stop p limit start size = begin_stop p limit start size below in
      let z : p * met_first p start size ≤ page_end p limit i =
      le-min (le_trans x (mul-le-mul_left p (omega arith))) (le_trans y (min-le_right (p * met_end p start size) limit)) in
      let k : p * met_first p start size + (page_end p limit i - p * met_first p start size) ≡ page_end p limit i = add-sub_of_le z in
      page_met i u v
      ∙ ap (λ (q : List ℕ). part q (p * i - p * met_first p start size) (page_end p limit i - p * met_first p start size)) e
      ∙ part_part other (p * met_first p start size) (met_stop p limit start size) (p * i - p * met_first p start size) (page_end p limit i - p * met_first p start size) (omega arith)
      ∙ ap₂ (part other) w k

-- A CHANGE of the image at any place below the limit leaves the pages that it does not meet
pub change_page : (p limit : ℕ) (image : List ℕ) (at : ℕ) (bytes : List ℕ) (i : ℕ) → Fit p limit → limit ≤ length image → at + length bytes ≤ limit
    → (i < met_first p at (length bytes)) ⊎ (met_end p at (length bytes) ≤ i) → page_of p limit i (splice image at bytes) ≡ page_of p limit i image
change_page p limit image at bytes i f long h m = by_length (length bytes) refl
  where
    by_length : (n : ℕ) → length bytes ≡ n → page_of p limit i (splice image at bytes) ≡ page_of p limit i image
    by_length zero e = ap (page_of p limit i) (splice_none image at bytes e)
    by_length (suc n) e =
        ⊎_elim
        (λ l. splice_before image at bytes (omega arith) (p * i) (page_end p limit i)
        (le_trans (page_before p limit at (length bytes) i l) (first_below p at (length bytes))))
        (λ l. splice_after image at bytes (omega arith) (p * i) (page_end p limit i)
        (le_trans (end_above p at (length bytes) (fit_pos f (λ q. omega arith)) (omega arith)) (mul-le-mul_left p l)))
        m

-- IMAGES BY THEIR PAGES

-- a byte below the limit lies in a page
byte_page : (p limit : ℕ) (l : List ℕ) (k : ℕ) → Fit p limit → k < limit
    → (k / p < page_count p limit) × (get_or l k 0 ≡ get_or (page_of p limit (k / p) l) (k - p * (k / p)) 0)
byte_page p limit l k f h =
    let low : p * (k / p) ≤ k = mul-div-le k p in
    let high : k < p * (k / p + 1) = lt-mul-div-succ k (fit_pos f (λ q. omega arith)) in
    let j : p * (k / p) + (k - p * (k / p)) ≡ k = add-sub_of_le low in (
      of_count p limit (k / p) f (omega arith),
      sym (part_at l (p * (k / p)) (page_end p limit (k / p)) (k - p * (k / p)) (omega arith) ∙ ap (λ (n : ℕ). get_or l n 0) j),
    )

-- images of one length with the same pages and the same bytes past the limit are one
pub same_pages : (p limit : ℕ) (image other : List ℕ) → Fit p limit → length image ≡ length other → drop limit image ≡ drop limit other
    → ((i : ℕ) → i < page_count p limit → page_of p limit i image ≡ page_of p limit i other) → image ≡ other
same_pages p limit image other f n past pages = ext_get_or 0 image other n (λ k h. by_limit k (ltb k limit) refl)
  where
    by_limit : (k : ℕ) (t : Bool) → ltb k limit ≡ t → get_or image k 0 ≡ get_or other k 0
    by_limit k true e =
        let x = byte_page p limit image k f (ltb-true _ _ e) in
        let y = byte_page p limit other k f (ltb-true _ _ e) in
        x.1 ∙ ap (λ (q : List ℕ). get_or q (k - p * (k / p)) 0) (pages (k / p) x.0) ∙ sym y.1
    by_limit k false e =
        let j : limit + (k - limit) ≡ k = add-sub_of_le (ltb-false _ _ e) in
        subst (λ (q : ℕ). get_or image q 0 ≡ get_or other q 0) j
        (sym (get_or-drop limit image (k - limit) 0) ∙ ap (λ (q : List ℕ). get_or q (k - limit) 0) past ∙ get_or-drop limit other (k - limit) 0)
