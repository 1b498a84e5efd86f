-- Padding and parsing of a message, FIPS 180-4, sections 5.1 and 5.2, over z, the bytes of a word. A message is a list of bytes.
use Rattle.std.specs.Prelude.{ℕ, zero, suc, ◌+◌, ◌-◌, ◌*◌, ◌%◌, ◌^◌, ◌<◌, List, [], ◌∷◌, ◌++◌, ◌≡◌, length, get_or, replicate}
use Rattle.endian.specs.Numbers.{big, bytes}

-- 5.1: what is appended to a message of n bytes: the bit 1, then as few bits 0 as make whole blocks of 16 words, then the message's
-- length in bits as a number of two words
unfoldable pub padding : ℕ → ℕ → List ℕ
padding z n = (128 ∷ replicate ((30 * z - 1 - n % (16 * z)) % (16 * z)) 0) ++ bytes (2 * z) (8 * n)

-- section 1: messages have a length in bits that fits two words, below 2 ^ 64 for SHA-1 and SHA-256, and below 2 ^ 128 for SHA-384. Of those
-- the padding's last two words are that length. Past the bound, which no memory reaches, they are the length modulo 2 to their bits
abbrev pub LengthField : Type 0
LengthField = (z n : ℕ) → 8 * n < 256 ^ (2 * z) → big (2 * z) (padding z n) (length (padding z n) - 2 * z) ≡ 8 * n

unfoldable pub padded : ℕ → List ℕ → List ℕ
padded z m = m ++ padding z (length m)

-- 5.2: the n words of a message from byte j on, each with its most significant byte first
unfoldable pub words : ℕ → ℕ → List ℕ → ℕ → List ℕ
words z zero m j = []
words z (suc n) m j = words z n m j ++ (big z m (j + z * n) ∷ [])

-- the bytes of the first n words of a list
unfoldable pub all_bytes : ℕ → ℕ → List ℕ → List ℕ
all_bytes z zero xs = []
all_bytes z (suc n) xs = all_bytes z n xs ++ bytes z (get_or xs n 0)
