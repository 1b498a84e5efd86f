-- Laws of pages and of the pages that a range meets.
use Prim.Native.Nat.{ℕ, zero, suc, ◌+◌, ◌-◌, ◌*◌, ◌/◌, ◌≤◌, ◌<◌, ◌^◌, max, zero-le}
use mathlib.Core.Path.{◌≡◌, refl, sym, ap, ◌∙◌}
use mathlib.Core.Logic.{inl, inr, ◌↔◌}
use mathlib.Core.Bool.{Bool, true, false}
use native.Mathlib.Nat.{mul-le-mul_left, mul_comm, mul-zero, suc-mul, div-zero, le-div_iff_mul-le, div-lt_iff_lt-mul, lt-mul-div-succ, mul-div-le, min-le_left, min-le_right, le-min, le_trans, div-eq_of_lt, add-div_right}
use native.Mathlib.Numerals.{add-one}
use native.Mathlib.Omega.{arith}
use lib.Dec.{eqb, ltb}
use borrow.Author.Tests.{eqb-true, eqb-false, ltb-true, ltb-false}
use Rattle.refusals.specs.Refusals.{◌≡?◌}
use Rattle.refusals.proofs.Conditions.{pick_yes, pick_no}
use Rattle.geometry.specs.Pages.{Fit, page_bytes, PagePower, page_count, page_end, met_first, met_end, met_stop, wanted, Shared}

-- THE PAGE SIZE

pub whole_bytes : (shift limit : ℕ) → shift ≡ 0 → limit ≡ page_bytes shift limit
unfolding page_bytes
whole_bytes shift limit e = pick_yes _ _ _ _ e refl

pub small_bytes : (shift limit : ℕ) → shift ≡ 12 → 4096 ≡ page_bytes shift limit
unfolding page_bytes
small_bytes shift limit e = pick_no _ _ _ _ (omega arith) (pick_yes _ _ _ _ e refl)

pub large_bytes : (shift limit : ℕ) → shift ≡ 14 → 16384 ≡ page_bytes shift limit
unfolding page_bytes
large_bytes shift limit e = pick_no _ _ _ _ (omega arith) (pick_no _ _ _ _ (omega arith) (pick_yes _ _ _ _ e refl))

pub other_bytes : (shift limit : ℕ) → (shift ≡ 0 → ⊥) → (shift ≡ 12 → ⊥) → (shift ≡ 14 → ⊥) → 0 ≡ page_bytes shift limit
unfolding page_bytes
other_bytes shift limit a b c = pick_no _ _ _ _ a (pick_no _ _ _ _ b (pick_no _ _ _ _ c refl))

pub page_bytes_power : PagePower
page_bytes_power shift limit (inl e) = sym (small_bytes shift limit e) ∙ sym (ap (λ (n : ℕ). 2 ^ n) e)
page_bytes_power shift limit (inr e) = sym (large_bytes shift limit e) ∙ sym (ap (λ (n : ℕ). 2 ^ n) e)

-- what test 14 leaves: a page has bytes, or there are none at all
pub fit_of : (shift limit : ℕ) → ((shift ≡ 0 → ⊥) → (shift ≡ 12 → ⊥) → shift ≡ 14) → Fit (page_bytes shift limit) limit
fit_of shift limit h = by_shift (eqb shift 0) refl (eqb shift 12) refl
  where
    by_limit : (n : ℕ) → n ≡ limit → shift ≡ 0 → Fit (page_bytes shift limit) limit
    by_limit zero e q = inl (sym e)
    by_limit (suc n) e q = inr (omega (arith, whole_bytes shift limit q))

    by_shift : (a : Bool) → eqb shift 0 ≡ a → (b : Bool) → eqb shift 12 ≡ b → Fit (page_bytes shift limit) limit
    by_shift true e b f = by_limit limit refl (eqb-true _ _ e)
    by_shift false e true f = inr (omega (arith, small_bytes shift limit (eqb-true _ _ f)))
    by_shift false e false f = inr (omega (arith, large_bytes shift limit (h (eqb-false _ _ e) (eqb-false _ _ f))))

pub fit_pos : {p limit : ℕ} → Fit p limit → (limit ≡ 0 → ⊥) → 0 < p
fit_pos (inl e) h = absurd (h e)
fit_pos (inr u) h = u

-- THE NUMBER OF PAGES

-- page i is one of the pages exactly when it starts below the limit
pub count_of : (p limit i : ℕ) → i < page_count p limit → p * i < limit
unfolding page_count
count_of zero limit i h = let q = rw div-zero at h in omega arith
count_of (suc p) limit i h =
    let q : suc i * suc p ≤ limit + (suc p - 1) = (le-div_iff_mul-le {k = suc p} (omega arith)).0 h in
    omega (arith, suc-mul i (suc p), mul_comm i (suc p))

pub of_count : (p limit i : ℕ) → Fit p limit → p * i < limit → i < page_count p limit
unfolding page_count
of_count p limit i (inl e) h = omega arith
of_count p limit i (inr u) h = (le-div_iff_mul-le {k = p} {x = suc i} u).1 (omega (arith, suc-mul i p, mul_comm i p))

-- as the code computes it
no_bytes : (p : ℕ) → 0 ≡ page_count (suc p) 0
unfolding page_count
no_bytes p = sym (div-eq_of_lt (omega arith))

pub count_none : (p limit : ℕ) → p ≡ 0 → 0 ≡ page_count p limit
unfolding page_count
count_none p limit e = rw e (sym (div-zero (limit + (0 - 1))))

pub count_zero : (p limit : ℕ) → limit ≡ 0 → 0 ≡ page_count p limit
count_zero p limit e = rw e (by_size p)
  where
    by_size : (p : ℕ) → 0 ≡ page_count p 0
    by_size zero = count_none 0 0 refl
    by_size (suc p) = no_bytes p

pub count_pos : (p limit : ℕ) → 0 < p → (limit ≡ 0 → ⊥) → (limit - 1) / p + 1 ≡ page_count p limit
unfolding page_count
count_pos p limit u h =
    let q : limit + (p - 1) ≡ limit - 1 + p = omega arith in
    sym (ap (λ (n : ℕ). n / p) q ∙ add-div_right (limit - 1) u)

-- no more pages than bytes
pub count_most : (p limit : ℕ) → page_count p limit ≤ limit
count_most zero limit = rw (← count_none 0 limit refl) zero-le
count_most (suc p) limit = by_test (ltb limit (page_count (suc p) limit)) refl
  where
    by_test : (b : Bool) → ltb limit (page_count (suc p) limit) ≡ b → page_count (suc p) limit ≤ limit
    by_test true e = absurd (omega (arith, count_of (suc p) limit limit (ltb-true limit (page_count (suc p) limit) e), suc-mul p limit))
    by_test false e = ltb-false limit (page_count (suc p) limit) e

-- THE PAGES THAT A RANGE MEETS

pub range_first : (p start size : ℕ) → 0 < size → met_first p start size ≡ start / p
unfolding met_first
range_first p start size h = sym (pick_no (size ≡? 0) 0 (start / p) (start / p) (omega arith) refl)

pub range_end : (p start size : ℕ) → 0 < size → met_end p start size ≡ (start + (size - 1)) / p + 1
unfolding met_end
range_end p start size h =
    sym (pick_no (size ≡? 0) 0 ((start + (size - 1)) / p + 1) ((start + (size - 1)) / p + 1) (omega arith) refl)

empty_first : (p start : ℕ) → met_first p start 0 ≡ 0
unfolding met_first
empty_first p start = sym (pick_yes (0 ≡? 0) 0 (start / p) 0 refl refl)

empty_end : (p start : ℕ) → met_end p start 0 ≡ 0
unfolding met_end
empty_end p start = sym (pick_yes (0 ≡? 0) 0 ((start + (0 - 1)) / p + 1) 0 refl refl)

-- as the code computes them
pub first_empty : (p start size : ℕ) → size ≡ 0 → 0 ≡ met_first p start size
first_empty p start size e = rw e (sym (empty_first p start))

pub first_zero : (p start size : ℕ) → p ≡ 0 → 0 < size → 0 ≡ met_first p start size
first_zero p start size e h = rw (range_first p start size h, e) (sym (div-zero start))

pub end_empty : (p start size : ℕ) → size ≡ 0 → 0 ≡ met_end p start size
end_empty p start size e = rw e (sym (empty_end p start))

pub end_zero : (p start size : ℕ) → p ≡ 0 → 0 < size → 1 ≡ met_end p start size
end_zero p start size e h = rw (range_end p start size h, e, div-zero (start + (size - 1)))

-- a range that is not empty lies within the pages met
pub first_below : (p start size : ℕ) → p * met_first p start size ≤ start
first_below p start zero = rw (empty_first, mul-zero) zero-le
first_below p start (suc n) = rw (range_first p start (suc n) (omega arith)) (mul-div-le start p)

pub end_above : (p start size : ℕ) → 0 < p → 0 < size → start + size ≤ p * met_end p start size
end_above p start size u h = rw (range_end p start size h) (omega (arith, lt-mul-div-succ (start + (size - 1)) u))

pub met_le : (p start size : ℕ) → met_first p start size ≤ met_end p start size
met_le p start zero = rw (empty_first, empty_end) zero-le
met_le zero start (suc n) = rw (range_first zero start (suc n) (omega arith), div-zero) zero-le
met_le (suc p) start (suc n) =
    rw (range_first (suc p) start (suc n) (omega arith), range_end (suc p) start (suc n) (omega arith))
    (let q : start / suc p ≤ (start + (suc n - 1)) / suc p = (le-div_iff_mul-le {k = suc p} (omega arith)).1 (omega (arith, mul-div-le start (suc p), mul_comm (start / suc p) (suc p))) in
    omega arith)

-- a range that is not empty meets a page: the last page met starts in the range or before it
end_pos : (p start size : ℕ) → 0 < size → 0 < met_end p start size
end_pos p start size h = rw (range_end p start size h) (omega arith)

last_below : (p start size : ℕ) → 0 < size → p * (met_end p start size - 1) < start + size
last_below p start size h =
    let e : met_end p start size - 1 ≡ (start + (size - 1)) / p = omega (arith, range_end p start size h) in
    rw e (omega (arith, mul-div-le (start + (size - 1)) p))

-- the pages met are pages
pub met_count : (p limit start size : ℕ) → Fit p limit → start + size ≤ limit → met_end p start size ≤ page_count p limit
met_count p limit start zero f h = rw empty_end zero-le
met_count p limit start (suc n) f h =
    rw (range_end p start (suc n) (omega arith), add-one)
    (of_count p limit _ f (omega (arith, mul-div-le (start + (suc n - 1)) p)))

-- where the pages met begin and end
pub begin_stop : (p limit start size : ℕ) → start + size ≤ limit → p * met_first p start size ≤ met_stop p limit start size
begin_stop p limit start size h = le-min (mul-le-mul_left p (met_le p start size)) (omega (arith, first_below p start size))

-- the bytes wanted, as the code computes them
pub wanted_none : (p limit start size : ℕ) → size ≡ 0 → 0 ≡ wanted p limit start size
wanted_none p limit start size e = rw (← end_empty p start size e) (omega (arith, mul-zero p))

pub record Ranged (p limit start size first end : ℕ) : Type 0 where
  pub pos : 0 < end
  pub base : p * first ≤ start
  pub last : p * (end - 1) < limit
  pub order : p * first ≤ page_end p limit (end - 1)
  pub is : page_end p limit (end - 1) - p * first ≡ wanted p limit start size

pub ranged : (p limit start size first end : ℕ) → first ≡ met_first p start size → end ≡ met_end p start size → (size ≡ 0 → ⊥) → start + size ≤ limit
    → Ranged p limit start size first end
ranged p limit start size first end e f n h =
    let u : 0 < met_end p start size = end_pos p start size (omega arith) in
    let j : met_end p start size - 1 + 1 ≡ met_end p start size = omega arith in
    rw (e, f)
    (record {
      pos = u;
      base = first_below p start size;
      last = omega (arith, last_below p start size (omega arith));
      order = rw j (begin_stop p limit start size h);
      is = rw j;
    })

-- a page before those met ends before them, one among them lies in them, and one after them starts after them
pub page_before : (p limit start size i : ℕ) → i < met_first p start size → page_end p limit i ≤ p * met_first p start size
page_before p limit start size i h = le_trans (min-le_left (p * (i + 1)) limit) (mul-le-mul_left p (omega arith))

pub page_inside : (p limit start size i : ℕ) → i < met_end p start size → page_end p limit i ≤ met_stop p limit start size
page_inside p limit start size i h =
    le-min (le_trans (min-le_left (p * (i + 1)) limit) (mul-le-mul_left p (omega arith))) (min-le_right (p * (i + 1)) limit)

pub page_after : (p limit start size i : ℕ) → met_end p start size ≤ i → met_stop p limit start size ≤ p * i
page_after p limit start size i h = le_trans (min-le_left (p * met_end p start size) limit) (mul-le-mul_left p h)

-- a page among those that begin with page `first`
pub record Within (p limit first n : ℕ) : Type 0 where
  pub from : p * first ≤ p * n
  pub here : p * n < limit
  pub runs : p * n ≤ page_end p limit n
  pub ends : page_end p limit n ≤ limit

pub within : (p limit first n : ℕ) → first ≤ n → p * n < limit → Within p limit first n
within p limit first n h u =
    record {
      from = mul-le-mul_left p h;
      here = u;
      runs = le-min (mul-le-mul_left p (omega arith)) (omega arith);
      ends = min-le_right (p * (n + 1)) limit;
    }

-- the pages from met_first to before met_end are just those that share a byte with the range
pub meets_exactly : (p limit start size i : ℕ) → Fit p limit → start + size ≤ limit
    → ((met_first p start size ≤ i) × (i < met_end p start size)) ↔ ((k : ℕ) × Shared p limit start size i k)
meets_exactly p limit start zero i f h = (λ m. absurd (no_page m), λ w. absurd (no_byte w))
  where
    no_page : ((met_first p start 0 ≤ i) × (i < met_end p start 0)) → ⊥
    no_page m = let q = rw empty_end at m.1 in omega arith

    no_byte : ((k : ℕ) × Shared p limit start 0 i k) → ⊥
    no_byte w = omega arith
meets_exactly p limit start (suc n) i f h = (there, back)
  where
    pos : 0 < p
    pos = fit_pos f (λ e. omega arith)

    there : ((met_first p start (suc n) ≤ i) × (i < met_end p start (suc n))) → ((k : ℕ) × Shared p limit start (suc n) i k)
    there m =
        let a = rw (range_first p start (suc n) (omega arith)) at m.0 in
        let b = rw (range_end p start (suc n) (omega arith)) at m.1 in
        let x : start < (i + 1) * p = (div-lt_iff_lt-mul {k = p} {x = start} {y = i + 1} pos).0 (omega arith) in
        let y : i * p ≤ start + (suc n - 1) = (le-div_iff_mul-le {k = p} {x = i} {y = start + (suc n - 1)} pos).0 (omega arith) in
        let z : p * i < limit = count_of p limit i (omega (arith, met_count p limit start (suc n) f h, m.1)) in
        (max start (p * i), ((omega arith, omega (arith, mul_comm i p)), (omega arith, omega (arith, pos, mul_comm (i + 1) p))))

    back : ((k : ℕ) × Shared p limit start (suc n) i k) → ((met_first p start (suc n) ≤ i) × (i < met_end p start (suc n)))
    back w =
        let x : start / p < i + 1 = (div-lt_iff_lt-mul {k = p} {x = start} {y = i + 1} pos).1 (omega (arith, mul_comm (i + 1) p)) in
        let y : i ≤ (start + (suc n - 1)) / p = (le-div_iff_mul-le {k = p} {x = i} {y = start + (suc n - 1)} pos).1 (omega (arith, mul_comm i p)) in
        (rw (range_first p start (suc n) (omega arith)) (omega arith), rw (range_end p start (suc n) (omega arith)) (omega arith))
