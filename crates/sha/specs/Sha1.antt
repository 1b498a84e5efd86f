-- SHA-1, FIPS 180-4, sections 4.1.1, 4.2.1, 5.3.1 and 6.1.
use Rattle.std.specs.Prelude.{ℕ, zero, suc, cond, List, [], ◌∷◌, ltb, get_or}
use Rattle.std.specs.Int.Bits.{bit_xor}
use Rattle.sha.specs.Words.{plus, sums, rotl, ch, parity, maj}
use Rattle.sha.specs.Hash.{Hash}
use Rattle.sha.specs.Schedule.{Rule, grown}

-- of four numbers the one for round t: rounds 0 to 19, 20 to 39, 40 to 59, and from 60 on
unfoldable pub by_round : ℕ → ℕ → ℕ → ℕ → ℕ → ℕ
by_round t a b c d = cond (ltb t 20) a (cond (ltb t 40) b (cond (ltb t 60) c d))

-- 4.1.1: the function of round t
unfoldable pub f1 : ℕ → ℕ → ℕ → ℕ → ℕ
f1 t x y z = by_round t (ch 32 x y z) (parity x y z) (maj x y z) (parity x y z)

-- 4.2.1: the constant of round t
unfoldable pub k1 : ℕ → ℕ
k1 t = by_round t 0x5a827999 0x6ed9eba1 0x8f1bbcdc 0xca62c1d6

-- 6.1.2, 1: a word of the schedule, from the words 3, 8, 14 and 16 places before it
unfoldable pub mix1 : ℕ → ℕ → ℕ → ℕ → ℕ
mix1 w3 w8 w14 w16 = rotl 32 1 (bit_xor (bit_xor (bit_xor w3 w8) w14) w16)

-- that word by the words before it
abbrev pub mixed1 : Rule
mixed1 before = mix1 (before 3) (before 8) (before 14) (before 16)

-- the first 16 + n words of the schedule of a block of 16 words
abbrev pub schedule1 : ℕ → List ℕ → List ℕ
schedule1 n ms = grown mixed1 n ms

-- 6.1.2, 3: T of round t, with the schedule's word w
unfoldable pub temp : ℕ → ℕ → ℕ → ℕ → ℕ → ℕ → ℕ → ℕ
temp t a b c d e w = plus 32 (plus 32 (plus 32 (plus 32 (rotl 32 5 a) (f1 t b c d)) e) (k1 t)) w

-- the working words a to e after round t
unfoldable pub round1 : ℕ → List ℕ → ℕ → List ℕ
round1 t s w =
    temp t (get_or s 0 0) (get_or s 1 0) (get_or s 2 0) (get_or s 3 0) (get_or s 4 0) w
    ∷ get_or s 0 0 ∷ rotl 32 30 (get_or s 1 0) ∷ get_or s 2 0 ∷ get_or s 3 0 ∷ []

-- the working words after t rounds from the hash value h
unfoldable pub rounds1 : ℕ → List ℕ → List ℕ → List ℕ
rounds1 zero h ws = h
rounds1 (suc t) h ws = round1 t (rounds1 t h ws) (get_or ws t 0)

-- 6.1.2, 4: the hash value after one more block of 16 words
unfoldable pub compress1 : List ℕ → List ℕ → List ℕ
compress1 h ms = sums 32 5 h (rounds1 80 h (schedule1 64 ms))

-- 5.3.1
unfoldable pub h1 : List ℕ
h1 = 0x67452301 ∷ 0xefcdab89 ∷ 0x98badcfe ∷ 0x10325476 ∷ 0xc3d2e1f0 ∷ []

-- 6.1: words of 4 bytes, a hash value of 5 words, a digest of 20 bytes
abbrev pub sha1 : Hash
sha1 = record { size = 4; block = compress1; start = h1; count = 5; width = 20 }
