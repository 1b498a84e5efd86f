-- The sizes of a hash function, FIPS 180-4, sections 1 and 5.1.
use Rattle.std.specs.Prelude.{ℕ, ◌*◌, ◌≡◌, ◌⊎◌}

-- z, the bytes of a word, and those of a block of 16 words and of a message's length, a number of two words
pub record Sizes (z block length : ℕ) : Type 0 where
  pub four_or_eight : (z ≡ 4) ⊎ (z ≡ 8)
  pub sixteen : block ≡ 16 * z
  pub two : length ≡ 2 * z
