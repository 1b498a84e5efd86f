-- A byte past the end, and one more byte of a number: what the readers share; how large a number is, and when it is 0.
use Prim.Native.Nat.{ℕ, zero, suc, ◌+◌, ◌-◌, ◌*◌, ◌^◌, ◌<◌, ◌≤◌}
use mathlib.Core.Bool.{Bool, true, false}
use mathlib.Core.List.{List}
use mathlib.Core.Logic.{◌↔◌}
use mathlib.Core.Path.{◌≡◌, refl, sym}
use native.Mathlib.Nat.{pow-suc, pow-le-pow_right}
use native.Mathlib.Numerals.{add-one}
use native.Mathlib.Omega.{arith}
use lib.Dec.{ltb}
use lib.ListN.{length, get_or, get_or-eq_default}
use borrow.Author.Tests.{ltb-true, ltb-false}
use Rattle.endian.specs.Numbers.{AllBytes, big, little}

-- a byte past the end counts as 0
pub past : (s : List ℕ) (at : ℕ) → length s ≤ at → 0 ≡ get_or s at 0
past s at h = sym (get_or-eq_default s 0 h)

-- below 256 to the i, with one byte more, is below 256 to the i + 1
pub grows : (i n b : ℕ) → n < 256 ^ i → b < 256 → n * 256 + b < 256 ^ (i + 1)
grows i n b h l = rw (add-one i, pow-suc 256 i) (omega arith)

-- .. and fits 64 bits, where i is below 8
pub fits : (i n b : ℕ) → i < 8 → n < 256 ^ i → b < 256 → n * 256 + b < 18446744073709551616
fits i n b w h l =
    let k : i ≤ 7 = omega arith in
    let p : 256 ^ i ≤ 256 ^ 7 = pow-le-pow_right {n = 256} (omega arith) k in
    omega arith

pub big_none : (s : List ℕ) (at : ℕ) → 0 ≡ big 0 s at
unfolding big
big_none s at = refl

pub little_none : (s : List ℕ) (at : ℕ) → 0 ≡ little 0 s at
unfolding little
little_none s at = refl

-- big-endian: the next byte is the one after the first i
pub big_more : (s : List ℕ) (at i n b : ℕ) → n ≡ big i s at → b ≡ get_or s (at + i) 0 → n * 256 + b ≡ big (i + 1) s at
unfolding big
big_more s at i n b p q = rw (add-one i) (omega arith)

-- little-endian: the next byte is the one before the last i
pub little_more : (s : List ℕ) (at w i n b : ℕ) → i < w → n ≡ little i s (at + (w - i)) → b ≡ get_or s (at + (w - 1 - i)) 0
    → n * 256 + b ≡ little (i + 1) s (at + (w - (i + 1)))
unfolding little
little_more s at w i n b h p q =
    let e : at + (w - (i + 1)) ≡ at + (w - 1 - i) = omega arith in
    let f : at + (w - 1 - i) + 1 ≡ at + (w - i) = omega arith in
    rw (e, add-one i, f) (omega arith)

-- in a list of bytes a number of n bytes is below 256 to the n
pub big_below : (s : List ℕ) (at : ℕ) → AllBytes s → (n : ℕ) → big n s at < 256 ^ n
unfolding big
big_below s at b zero = omega arith
big_below s at b (suc n) = rw (← add-one n) (grows n (big n s at) (get_or s (at + n) 0) (big_below s at b n) (b (at + n)))

pub little_below : (s : List ℕ) → AllBytes s → (n at : ℕ) → little n s at < 256 ^ n
unfolding little
little_below s b zero at = omega arith
little_below s b (suc n) at = rw (pow-suc 256 n) (omega (arith, little_below s b n (at + 1), b at))

-- A NUMBER THAT IS 0

module _ (s : List ℕ) (at : ℕ) where
  -- the n bytes from `at` are all 0
  abbrev Zeros : ℕ → Type 0
  Zeros n = (i : ℕ) → i < n → get_or s (at + i) 0 ≡ 0

  -- the byte at n, and those before it
  one_more : (n : ℕ) → Zeros n → get_or s (at + n) 0 ≡ 0 → Zeros (suc n)
  one_more n f e i h = by_test (ltb i n) refl
    where
      by_test : (b : Bool) → ltb i n ≡ b → get_or s (at + i) 0 ≡ 0
      by_test true t = f i (ltb-true i n t)
      by_test false t =
          let l : n ≤ i = ltb-false i n t in
          let q : i ≡ n = omega arith in
          rw q e

  -- big-endian: exactly where its bytes are
  pub big_zero : (n : ℕ) → (big n s at ≡ 0) ↔ Zeros n
  unfolding big
  big_zero zero = ((λ e i h. absurd (omega arith)), λ f. refl)
  big_zero (suc n) = (
    (λ e. one_more n ((big_zero n).0 (omega arith)) (omega arith)),
    λ f. omega (arith, (big_zero n).1 (λ i h. f i (omega arith)), f n (omega arith)),
  )
