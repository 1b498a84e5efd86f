-- Shorter forms of Ch and Maj, over the width of a word. Assumes nothing.
use mathlib.Core.Path.{◌≡◌, refl, sym}
use Prim.Native.Nat.{ℕ, zero, suc, ◌-◌, ◌*◌, ◌/◌, ◌%◌, ◌^◌, ◌<◌, min}
use native.Mathlib.Nat.{pow-suc}
use native.Mathlib.Omega.{arith}
use lib.Bits.{bit_and, bit_xor, differ, and_step, xor_step}
use Rattle.sha.specs.Words.{ch, maj}

-- a claim about a digit
digit : (P : ℕ → Type 0) → P 0 → P 1 → (d : ℕ) → d < 2 → P d
digit P a b zero h = a
digit P a b (suc zero) h = b
digit P a b (suc (suc d)) h = absurd (omega arith)

low : (a : ℕ) → a % 2 < 2
low a = omega arith

differ_lt : (p q : ℕ) → p < 2 → q < 2 → differ p q < 2
differ_lt p q hp hq = digit (λ (p : ℕ). differ p q < 2) hq (digit (λ (q : ℕ). differ 1 q < 2) (omega arith) (omega arith) q hq) p hp

min_lt : (p q : ℕ) → p < 2 → q < 2 → min p q < 2
min_lt p q hp hq =
    digit (λ (p : ℕ). min p q < 2) (digit (λ (q : ℕ). min 0 q < 2) (omega arith) (omega arith) q hq)
    (digit (λ (q : ℕ). min 1 q < 2) (omega arith) (omega arith) q hq) p hp

-- the last digit of a result, and the digits before it
pub xor_half : (a b : ℕ) → bit_xor a b / 2 ≡ bit_xor (a / 2) (b / 2)
xor_half a b = let d = differ_lt (a % 2) (b % 2) (low a) (low b) in omega (arith, xor_step a b)

pub xor_low : (a b : ℕ) → bit_xor a b % 2 ≡ differ (a % 2) (b % 2)
xor_low a b = let d = differ_lt (a % 2) (b % 2) (low a) (low b) in omega (arith, xor_step a b)

and_half : (a b : ℕ) → bit_and a b / 2 ≡ bit_and (a / 2) (b / 2)
and_half a b = let d = min_lt (a % 2) (b % 2) (low a) (low b) in omega (arith, and_step a b)

and_low : (a b : ℕ) → bit_and a b % 2 ≡ min (a % 2) (b % 2)
and_low a b = let d = min_lt (a % 2) (b % 2) (low a) (low b) in omega (arith, and_step a b)

pub by_digits : (a b : ℕ) → a / 2 ≡ b / 2 → a % 2 ≡ b % 2 → a ≡ b
by_digits a b h l = omega arith

-- a claim about three digits
pub digits : (P : ℕ → ℕ → ℕ → Type 0) → P 0 0 0 → P 0 0 1 → P 0 1 0 → P 0 1 1 → P 1 0 0 → P 1 0 1 → P 1 1 0 → P 1 1 1
    → (p q r : ℕ) → p < 2 → q < 2 → r < 2 → P p q r
digits P a b c d e f g h p q r hp hq hr =
    digit (λ (p : ℕ). P p q r)
    (digit (λ (q : ℕ). P 0 q r) (digit (P 0 0) a b r hr) (digit (P 0 1) c d r hr) q hq)
    (digit (λ (q : ℕ). P 1 q r) (digit (P 1 0) e f r hr) (digit (P 1 1) g h r hr) q hq) p hp

maj_digit : (p q r : ℕ) → p < 2 → q < 2 → r < 2 → differ (differ (min p q) (min p r)) (min q r) ≡ differ q (min (differ p q) (differ q r))
maj_digit =
    digits (λ (p q r : ℕ). differ (differ (min p q) (min p r)) (min q r) ≡ differ q (min (differ p q) (differ q r))) refl refl refl refl refl refl refl refl

ch_digit : (p q r : ℕ) → p < 2 → q < 2 → r < 2 → differ (min p q) (min (1 - p) r) ≡ differ r (min p (differ q r))
ch_digit = digits (λ (p q r : ℕ). differ (min p q) (min (1 - p) r) ≡ differ r (min p (differ q r))) refl refl refl refl refl refl refl refl

pub maj_short : (w x y z : ℕ) → x < 2 ^ w → y < 2 ^ w → z < 2 ^ w → bit_xor y (bit_and (bit_xor x y) (bit_xor y z)) ≡ maj x y z
unfolding maj
maj_short zero zero zero zero hx hy hz = refl
maj_short zero (suc x) y z hx hy hz = absurd (omega arith)
maj_short zero zero (suc y) z hx hy hz = absurd (omega arith)
maj_short zero zero zero (suc z) hx hy hz = absurd (omega arith)
maj_short (suc w) x y z hx hy hz =
    let e : 2 ^ suc w ≡ 2 ^ w * 2 = pow-suc 2 w in
    by_digits (bit_xor y (bit_and (bit_xor x y) (bit_xor y z))) (bit_xor (bit_xor (bit_and x y) (bit_and x z)) (bit_and y z))
    (rw (
      xor_half y (bit_and (bit_xor x y) (bit_xor y z)),
      and_half (bit_xor x y) (bit_xor y z),
      xor_half x y,
      xor_half y z,
      xor_half (bit_xor (bit_and x y) (bit_and x z)) (bit_and y z),
      xor_half (bit_and x y) (bit_and x z),
      and_half x y,
      and_half x z,
      and_half y z,
    )
    (maj_short w (x / 2) (y / 2) (z / 2) (omega arith) (omega arith) (omega arith)))
    (rw (
      xor_low y (bit_and (bit_xor x y) (bit_xor y z)),
      and_low (bit_xor x y) (bit_xor y z),
      xor_low x y,
      xor_low y z,
      xor_low (bit_xor (bit_and x y) (bit_and x z)) (bit_and y z),
      xor_low (bit_and x y) (bit_and x z),
      and_low x y,
      and_low x z,
      and_low y z,
    )
    (sym (maj_digit (x % 2) (y % 2) (z % 2) (low x) (low y) (low z))))

pub ch_short : (w x y z : ℕ) → x < 2 ^ w → y < 2 ^ w → z < 2 ^ w → bit_xor z (bit_and x (bit_xor y z)) ≡ ch w x y z
unfolding ch
ch_short zero zero zero zero hx hy hz = refl
ch_short zero (suc x) y z hx hy hz = absurd (omega arith)
ch_short zero zero (suc y) z hx hy hz = absurd (omega arith)
ch_short zero zero zero (suc z) hx hy hz = absurd (omega arith)
ch_short (suc w) x y z hx hy hz =
    let e : 2 ^ suc w ≡ 2 ^ w * 2 = pow-suc 2 w in
    let h : (2 ^ suc w - 1 - x) / 2 ≡ 2 ^ w - 1 - x / 2 = omega arith in
    let l : (2 ^ suc w - 1 - x) % 2 ≡ 1 - x % 2 = omega arith in
    by_digits (bit_xor z (bit_and x (bit_xor y z))) (bit_xor (bit_and x y) (bit_and (2 ^ suc w - 1 - x) z))
    (rw (
      xor_half z (bit_and x (bit_xor y z)),
      and_half x (bit_xor y z),
      xor_half y z,
      xor_half (bit_and x y) (bit_and (2 ^ suc w - 1 - x) z),
      and_half x y,
      and_half (2 ^ suc w - 1 - x) z,
      h,
    )
    (ch_short w (x / 2) (y / 2) (z / 2) (omega arith) (omega arith) (omega arith)))
    (rw (
      xor_low z (bit_and x (bit_xor y z)),
      and_low x (bit_xor y z),
      xor_low y z,
      xor_low (bit_and x y) (bit_and (2 ^ suc w - 1 - x) z),
      and_low x y,
      and_low (2 ^ suc w - 1 - x) z,
      l,
    )
    (sym (ch_digit (x % 2) (y % 2) (z % 2) (low x) (low y) (low z))))
