-- Operations on words of w bits, FIPS 180-4, sections 2.2.2, 3.2 and 4.1. A word is a number below 2 ^ w.
use Rattle.std.specs.Prelude.{ℕ, zero, suc, ◌+◌, ◌-◌, ◌*◌, ◌/◌, ◌%◌, ◌^◌, List, [], ◌∷◌, ◌++◌, get_or}
use Rattle.std.specs.Int.Bits.{bit_and, bit_or, bit_xor}

-- 3.2, 2: x + y modulo 2 ^ w
unfoldable pub plus : ℕ → ℕ → ℕ → ℕ
plus w x y = (x + y) % 2 ^ w

-- 3.2, 4: ROTR^n(x) = (x >> n) ∨ (x << (w - n)). SHR^n(x), 3.2, 3, is x / 2 ^ n
unfoldable pub rotr : ℕ → ℕ → ℕ → ℕ
rotr w n x = bit_or (x / 2 ^ n) (x * 2 ^ (w - n) % 2 ^ w)

-- 3.2, 5: ROTL^n(x) = (x << n) ∨ (x >> (w - n))
unfoldable pub rotl : ℕ → ℕ → ℕ → ℕ
rotl w n x = bit_or (x * 2 ^ n % 2 ^ w) (x / 2 ^ (w - n))

-- (4.1): Parity(x, y, z) = x ⊕ y ⊕ z
unfoldable pub parity : ℕ → ℕ → ℕ → ℕ
parity x y z = bit_xor (bit_xor x y) z

-- (4.1), (4.2), (4.8): Ch(x, y, z) = (x ∧ y) ⊕ (¬x ∧ z)
unfoldable pub ch : ℕ → ℕ → ℕ → ℕ → ℕ
ch w x y z = bit_xor (bit_and x y) (bit_and ((2 ^ w - 1) - x) z)

-- (4.1), (4.3), (4.9): Maj(x, y, z) = (x ∧ y) ⊕ (x ∧ z) ⊕ (y ∧ z)
unfoldable pub maj : ℕ → ℕ → ℕ → ℕ
maj x y z = bit_xor (bit_xor (bit_and x y) (bit_and x z)) (bit_and y z)

-- (4.4), (4.5), (4.10), (4.11): Σ(x) = ROTR^a(x) ⊕ ROTR^b(x) ⊕ ROTR^c(x)
unfoldable pub big_sigma : ℕ → ℕ → ℕ → ℕ → ℕ → ℕ
big_sigma w a b c x = bit_xor (bit_xor (rotr w a x) (rotr w b x)) (rotr w c x)

-- (4.6), (4.7), (4.12), (4.13): σ(x) = ROTR^a(x) ⊕ ROTR^b(x) ⊕ SHR^c(x)
unfoldable pub small_sigma : ℕ → ℕ → ℕ → ℕ → ℕ → ℕ
small_sigma w a b c x = bit_xor (bit_xor (rotr w a x) (rotr w b x)) (x / 2 ^ c)

-- 6.1.2, 6.2.2 and 6.4.2, 4: the sums of the first n words of two lists
unfoldable pub sums : ℕ → ℕ → List ℕ → List ℕ → List ℕ
sums w zero h s = []
sums w (suc n) h s = sums w n h s ++ (plus w (get_or h n 0) (get_or s n 0) ∷ [])
