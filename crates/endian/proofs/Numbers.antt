-- Laws of numbers in bytes, over the width.
use Prim.Native.Nat.{ℕ, zero, suc, ◌+◌, ◌*◌, ◌/◌, ◌%◌, ◌^◌, ◌<◌, ◌≤◌, zero-le}
use mathlib.Core.List.{List, ◌∷◌}
use mathlib.Core.Path.{◌≡◌, refl, sym, ap, ap₂, ◌∙◌}
use native.Mathlib.Nat.{add-zero, add-suc, add_assoc, pow-zero, pow-suc, pow-le-pow_right, zero-add, mul_comm}
use native.Mathlib.Omega.{arith}
use lib.ListN.{length, get_or, take, drop, get_or-eq_default}
use lib.Seq.{get_or-take, get_or-drop}
use lib.Arith.{mod-mul}
use Rattle.endian.specs.Numbers.{big, little, bytes}

-- a number depends on its own bytes alone
pub big_same : (n : ℕ) (s t : List ℕ) (j k : ℕ) → ((i : ℕ) → i < n → get_or s (j + i) 0 ≡ get_or t (k + i) 0) → big n s j ≡ big n t k
unfolding big
big_same zero s t j k h = refl
big_same (suc n) s t j k h =
    ap₂ (λ (x y : ℕ). x * 256 + y) (big_same n s t j k (λ i l. h i (omega arith))) (h n (omega arith))

pub little_same : (n : ℕ) (s t : List ℕ) (at : ℕ) → ((k : ℕ) → at ≤ k → k < at + n → get_or s k 0 ≡ get_or t k 0) → little n s at ≡ little n t at
unfolding little
little_same zero s t at h = refl
little_same (suc n) s t at h =
    ap₂ (λ (x y : ℕ). x + 256 * y) (h at (omega arith) (omega arith))
    (little_same n s t (at + 1) (λ k l m. h k (omega arith) (omega arith)))

-- a number in a part of a list is the one in the list
pub big_part : (n m o k : ℕ) (s : List ℕ) → k + n ≤ m → big n (take m (drop o s)) k ≡ big n s (o + k)
big_part n m o k s h =
    big_same n (take m (drop o s)) s k (o + k)
    (λ i l. get_or-take m (drop o s) (k + i) 0 (omega arith) ∙ get_or-drop o s (k + i) 0 ∙ ap (λ (x : ℕ). get_or s x 0) (sym (add_assoc o k i)))

-- a number of m + n bytes: the m before, and the n behind them
pub big_add : (m n : ℕ) (s : List ℕ) (at : ℕ) → big (m + n) s at ≡ big m s at * 256 ^ n + big n s (at + m)
unfolding big
big_add m zero s at = rw (add-zero m, pow-zero 256) (omega arith)
big_add m (suc n) s at = rw (add-suc m n, big_add m n s at, pow-suc 256 n, add_assoc at m n) (omega arith)

-- past the end every number is 0
pub big_past : (n : ℕ) (s : List ℕ) (at : ℕ) → length s ≤ at → big n s at ≡ 0
unfolding big
big_past zero s at h = refl
big_past (suc n) s at h =
    let l : length s ≤ at + n = omega arith in
    rw (big_past n s at h, get_or-eq_default s 0 l)

pub length_bytes : (n x : ℕ) → length (bytes n x) ≡ n
unfolding bytes
length_bytes zero x = refl
length_bytes (suc n) x = ap suc (length_bytes n x)

-- the first byte counts the most
big_cons : (n b : ℕ) (s : List ℕ) → big (suc n) (b ∷ s) 0 ≡ b * 256 ^ n + big n s 0
unfolding big
big_cons zero b s = rw (pow-zero 256) (omega arith)
big_cons (suc n) b s =
    let e = big_cons n b s in
    let z : get_or (b ∷ s) (0 + suc n) 0 ≡ get_or s (0 + n) 0 = rw (zero-add (suc n), zero-add n) in
    rw (pow-suc 256 n) (omega arith)

-- the bytes of a number make that number, as far as they have room for it
pub big_bytes : (n x : ℕ) → big n (bytes n x) 0 ≡ x % 256 ^ n
unfolding big bytes
big_bytes zero x = rw (pow-zero 256) (omega arith)
big_bytes (suc n) x =
    big_cons n (x / 256 ^ n % 256) (bytes n x) ∙ ap (λ (y : ℕ). x / 256 ^ n % 256 * 256 ^ n + y) (big_bytes n x)
    ∙ sym (ap (λ (m : ℕ). x % m) (pow-suc 256 n ∙ mul_comm (256 ^ n) 256) ∙ mod-mul x {m = 256} {c = 256 ^ n} (omega arith) (pow-le-pow_right {n = 256} (omega arith) zero-le))
