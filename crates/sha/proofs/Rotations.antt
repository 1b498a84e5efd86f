-- Nested rotations give Σ and σ, over the width of a word. Assumes nothing.
use mathlib.Core.Path.{◌≡◌, refl, sym}
use Prim.Native.Nat.{ℕ, ◌+◌, ◌-◌, ◌*◌, ◌/◌, ◌%◌, ◌^◌, ◌<◌}
use native.Mathlib.Nat.{add_comm, lt_of_le_of_lt, mod-lt, mul-mod_left}
use native.Mathlib.Omega.{arith}
use lib.Arith.{bin_ind}
use lib.Bits.{bit_xor, differ, or_lt, or_shifted_r, xor_zero_l, xor_comm, xor_lt, xor_block, xor_shr, xor_mod}
use lib.Pow.{pow_pos, pow-add, shr_le, shr_lt, shl-shr, shr-shr, split, high, low, mod-pow-add}
use Rattle.sha.specs.Words.{rotr, big_sigma, small_sigma}
use Rattle.sha.proofs.Short.{by_digits, digits, xor_half, xor_low}

xor_digit : (p q r : ℕ) → p < 2 → q < 2 → r < 2 → differ (differ p q) r ≡ differ p (differ q r)
xor_digit = digits (λ (p q r : ℕ). differ (differ p q) r ≡ differ p (differ q r)) refl refl refl refl refl refl refl refl

pub xor_assoc : (x y z : ℕ) → bit_xor (bit_xor x y) z ≡ bit_xor x (bit_xor y z)
xor_assoc =
    bin_ind (λ (x : ℕ). (y z : ℕ) → bit_xor (bit_xor x y) z ≡ bit_xor x (bit_xor y z)) (λ y z. rw (xor_zero_l y, xor_zero_l (bit_xor y z))) λ x f y z.
    by_digits (bit_xor (bit_xor x y) z) (bit_xor x (bit_xor y z))
    (rw (xor_half (bit_xor x y) z, xor_half x y, xor_half x (bit_xor y z), xor_half y z) (f (y / 2) (z / 2)))
    (rw (xor_low (bit_xor x y) z, xor_low x y, xor_low x (bit_xor y z), xor_low y z)
    (xor_digit (x % 2) (y % 2) (z % 2) (omega arith) (omega arith) (omega arith)))

rotr_below : (w n x : ℕ) → x < 2 ^ w → rotr w n x < 2 ^ w
unfolding rotr
rotr_below w n x h = or_lt w (x / 2 ^ n) (x * 2 ^ (w - n) % 2 ^ w) (lt_of_le_of_lt (shr_le x n) h) (mod-lt (x * 2 ^ (w - n)) (pow_pos w))

-- a rotation puts the n low digits before the m high ones
pub rotr_sum : (w m n x : ℕ) → w ≡ m + n → x < 2 ^ w → rotr w n x ≡ x % 2 ^ n * 2 ^ m + x / 2 ^ n
unfolding rotr
rotr_sum w m n x e h =
    let d : w - n ≡ m = omega arith in
    let c : w ≡ n + m = omega arith in
    let l : x * 2 ^ m % 2 ^ w ≡ x % 2 ^ n * 2 ^ m = rw (c, mod-pow-add (x * 2 ^ m) n m, shl-shr x m, mul-mod_left x (2 ^ m)) (omega arith) in
    rw (d, l) (or_shifted_r (x % 2 ^ n) m (x / 2 ^ n) (shr_lt m n (rw e at h)))

rotr_xor : (w m n x y : ℕ) → w ≡ m + n → x < 2 ^ w → y < 2 ^ w → rotr w n (bit_xor x y) ≡ bit_xor (rotr w n x) (rotr w n y)
rotr_xor w m n x y e h k =
    rw (
      rotr_sum w m n (bit_xor x y) e (xor_lt w x y h k),
      rotr_sum w m n x e h,
      rotr_sum w m n y e k,
      xor_mod x y n,
      xor_shr x y n,
    )
    (sym (xor_block m (x % 2 ^ n) (y % 2 ^ n) (x / 2 ^ n) (y / 2 ^ n) (shr_lt m n (rw e at h)) (shr_lt m n (rw e at k))))

-- two rotations are one by the sum, which is k less than the width
rotr_rotr : (w k a b x : ℕ) → w ≡ k + (a + b) → x < 2 ^ w → rotr w a (rotr w b x) ≡ rotr w (a + b) x
rotr_rotr w k a b x e h =
    let s : rotr w b x ≡ (x % 2 ^ b * 2 ^ k + x / 2 ^ b / 2 ^ a) * 2 ^ a + x / 2 ^ b % 2 ^ a =
    rw (rotr_sum w (k + a) b x (omega arith) h, pow-add 2 k a) (omega (arith, split (x / 2 ^ b) a)) in
    let t : x / 2 ^ b / 2 ^ a ≡ x / 2 ^ (a + b) = rw (add_comm a b) (shr-shr x b a) in
    let l = mod-lt (x / 2 ^ b) (pow_pos a) in
    rw (
      rotr_sum w (k + b) a (rotr w b x) (omega arith) (rotr_below w b x h),
      s,
      high (x % 2 ^ b * 2 ^ k + x / 2 ^ b / 2 ^ a) a l,
      low (x % 2 ^ b * 2 ^ k + x / 2 ^ b / 2 ^ a) a l,
      t,
      rotr_sum w k (a + b) x e h,
      mod-pow-add x a b,
      pow-add 2 k b,
    )
    (omega arith)

-- a rotation by a around one by p is one by b = a + p
nested : (w a b p x y : ℕ) → b ≡ a + p → b < w → x < 2 ^ w → y < 2 ^ w → rotr w a (bit_xor (rotr w p y) x) ≡ bit_xor (rotr w a x) (rotr w b y)
nested w a b p x y e l h k =
    rw (rotr_xor w (w - a) a (rotr w p y) x (omega arith) (rotr_below w p y k) h, rotr_rotr w (w - b) a p y (omega arith) k, ← e)
    (xor_comm (rotr w b y) (rotr w a x))

-- rotr a (rotr q (rotr p x ^ x) ^ x) is Σ of a, b = a + q, c = a + q + p
pub big_sigma_nested : (w a b c p q x : ℕ) {r s t : ℕ} → b ≡ a + q → c ≡ b + p → c < w → x < 2 ^ w
    → r ≡ rotr w p x → s ≡ rotr w q (bit_xor r x) → t ≡ rotr w a (bit_xor s x) → t ≡ big_sigma w a b c x
unfolding big_sigma
big_sigma_nested w a b c p q x eb ec l h er es et =
    rw (et, es, er, nested w a b q x (bit_xor (rotr w p x) x) eb (omega arith) h (xor_lt w (rotr w p x) x (rotr_below w p x h) h), nested w b c p x x ec l h h)
    (sym (xor_assoc (rotr w a x) (rotr w b x) (rotr w c x)))

-- rotr a (rotr p x ^ x) ^ (x >> c) is σ of a, b = a + p, c
pub small_sigma_nested : (w a b c p x : ℕ) {r s : ℕ} → b ≡ a + p → b < w → x < 2 ^ w
    → r ≡ rotr w p x → s ≡ rotr w a (bit_xor r x) → bit_xor s (x / 2 ^ c) ≡ small_sigma w a b c x
unfolding small_sigma
small_sigma_nested w a b c p x e l h er es = rw (es, er, nested w a b p x x e l h h)
