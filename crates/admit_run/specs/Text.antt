-- What the small program prints: `no file`, `too long`, or number, space, place; each with a newline. Bytes are ASCII.
use Rattle.std.specs.Prelude.{ℕ, ◌≡◌, List, [], ◌∷◌, ◌++◌, take, Ok, Err}
use Rattle.io.specs.Digits.{last_digits, IsDigitCount}
use Rattle.admission.specs.declared.Verdict.{Verdict}
use Rattle.admit_run.specs.declared.FileError.TheVariants.{NoFile, TooLong}
use Rattle.admit_run.specs.Small.{Line}

-- the most digits of a number of 64 bits, and the most bytes of a line: two numbers, a space and a newline
abbrev pub most_digits : ℕ
most_digits = 20

abbrev pub longest_line : ℕ
longest_line = 42

-- the bytes are the number's decimal digits, as few as hold it
pub record Decimal (n : ℕ) (bytes : List ℕ) : Type 0 where
  pub places : ℕ
  pub fewest : IsDigitCount 10 1 n places
  pub spelt : bytes ≡ last_digits 10 places n

-- number, space, place, newline
pub record NumberAndPlace (v : Verdict) (bytes : List ℕ) : Type 0 where
  pub number_digits : List ℕ
  pub place_digits : List ℕ
  pub number_is : Decimal v.number number_digits
  pub place_is : Decimal v.place place_digits
  pub joined : bytes ≡ number_digits ++ (32 ∷ []) ++ place_digits ++ (10 ∷ [])

-- `no file` and a newline
abbrev pub no_file_text : List ℕ
no_file_text = 110 ∷ 111 ∷ 32 ∷ 102 ∷ 105 ∷ 108 ∷ 101 ∷ 10 ∷ []

-- `too long` and a newline
abbrev pub too_long_text : List ℕ
too_long_text = 116 ∷ 111 ∷ 111 ∷ 32 ∷ 108 ∷ 111 ∷ 110 ∷ 103 ∷ 10 ∷ []

unfoldable pub Text : Line → List ℕ → Type 0
Text (Err NoFile) bytes = bytes ≡ no_file_text
Text (Err TooLong) bytes = bytes ≡ too_long_text
Text (Ok v) bytes = NumberAndPlace v bytes

-- a number was written behind the first `at` bytes
pub record WroteNumber (n : ℕ) (before : List ℕ) (at : ℕ) (after : List ℕ) (next : ℕ) : Type 0 where
  pub part : List ℕ
  pub decimal : Decimal n part
  pub written : take next after ≡ take at before ++ part
