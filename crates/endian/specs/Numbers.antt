-- Numbers in bytes, and bytes of numbers, over the width. Bytes are numbers below 256 in a list; a byte past the list's end counts as 0.
use Rattle.std.specs.Prelude.{ℕ, zero, suc, ◌+◌, ◌*◌, ◌/◌, ◌%◌, ◌^◌, ◌<◌, List, [], ◌∷◌, get_or}

-- every element is a byte
abbrev pub AllBytes : List ℕ → Type 0
AllBytes s = (k : ℕ) → get_or s k 0 < 256

-- big-endian: the n bytes from `at`, the first the most significant
unfoldable pub big : ℕ → List ℕ → ℕ → ℕ
big zero s at = 0
big (suc n) s at = big n s at * 256 + get_or s (at + n) 0

-- little-endian: the n bytes from `at`, the first the least significant
unfoldable pub little : ℕ → List ℕ → ℕ → ℕ
little zero s at = 0
little (suc n) s at = get_or s at 0 + 256 * little n s (at + 1)

-- the n bytes of a number, the most significant first
unfoldable pub bytes : ℕ → ℕ → List ℕ
bytes zero x = []
bytes (suc n) x = x / 256 ^ n % 256 ∷ bytes n x
