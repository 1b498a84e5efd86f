-- The flags that a directory may hold, and test 46 bit by bit (document 02, item 8).
use Rattle.std.specs.Prelude.{ℕ, ◌/◌, ◌%◌, ◌^◌, true, false, ◌↔◌, ◌≡◌}
use mathlib.Core.List.{List, [], ◌∷◌, foldr}
use Rattle.std.specs.Int.Bits.{bit_or}
use Rattle.refusals.specs.Refusals.{Says}
use Rattle.layout.specs.CodeDirectory.{allowed_flags, flags}
use Rattle.directory.specs.Rows.{flags_outside}

-- CS_ALLOWED_MACHO of source document 000: nine flags

abbrev pub cs_adhoc : ℕ
cs_adhoc = 0x00000002

abbrev pub cs_hard : ℕ
cs_hard = 0x00000100

abbrev pub cs_kill : ℕ
cs_kill = 0x00000200

abbrev pub cs_check_expiration : ℕ
cs_check_expiration = 0x00000400

abbrev pub cs_restrict : ℕ
cs_restrict = 0x00000800

abbrev pub cs_enforcement : ℕ
cs_enforcement = 0x00001000

abbrev pub cs_require_lv : ℕ
cs_require_lv = 0x00002000

abbrev pub cs_runtime : ℕ
cs_runtime = 0x00010000

abbrev pub cs_linker_signed : ℕ
cs_linker_signed = 0x00020000

-- in the order of the source
abbrev pub cs_allowed_macho : List ℕ
cs_allowed_macho = cs_adhoc ∷ cs_hard ∷ cs_kill ∷ cs_check_expiration ∷ cs_restrict ∷ cs_enforcement ∷ cs_require_lv ∷ cs_runtime ∷ cs_linker_signed ∷ []

-- joined they are the number that test 46 has
abbrev pub FlagsNamed : Type 0
FlagsNamed = foldr bit_or 0 cs_allowed_macho ≡ allowed_flags

-- BIT BY BIT

-- bit i of a number, from 0
abbrev pub bit : ℕ → ℕ → ℕ
bit x i = x / 2 ^ i % 2

-- x holds a bit outside m
abbrev pub BitOutside : ℕ → ℕ → Type 0
BitOutside x m = (i : ℕ) × ((bit x i ≡ 1) × (bit m i ≡ 0))

-- every bit that x holds, m holds
abbrev pub BitsWithin : ℕ → ℕ → Type 0
BitsWithin x m = (i : ℕ) → bit x i ≡ 1 → bit m i ≡ 1

-- test 46 refuses exactly a directory whose flags hold a bit outside the allowed ones, and passes exactly one whose flags hold allowed bits
-- alone
pub record FlagsPlainly : Type 0 where
  pub refuses : (d : List ℕ) → Says true (flags_outside d) ↔ BitOutside (flags d) allowed_flags
  pub passes : (d : List ℕ) → Says false (flags_outside d) ↔ BitsWithin (flags d) allowed_flags
