-- Test 46 bit by bit: a number joined with a mask is the mask exactly when each of its bits is one of the mask's. Assumes nothing.
use Prim.Native.Nat.{ℕ, ◌+◌, ◌*◌, ◌/◌, ◌%◌, ◌^◌, ◌<◌}
use mathlib.Core.Bool.{Bool, true, false}
use mathlib.Core.Logic.{◌⊎◌, ◌↔◌, inl, inr, ⊎_elim}
use mathlib.Core.Path.{◌≡◌, refl, sym, ap, ap₂, ◌∙◌}
use native.Mathlib.Nat.{div-add-mod', div-one, le-max_left, max-eq_right}
use native.Mathlib.Omega.{arith}
use lib.Arith.{bin_ind}
use lib.Bits.{bit_or, or_step, or_shr}
use lib.Dec.{ltb}
use lib.Pow.{shr-shr}
use borrow.Author.Tests.{ltb-true, ltb-false}
use Rattle.layout.specs.CodeDirectory.{allowed_flags, flags}
use Rattle.directory.specs.Flags.{bit, BitsWithin, BitOutside, FlagsPlainly, FlagsNamed}

-- EACH BIT

bit_zero : (x : ℕ) → bit x 0 ≡ x % 2
bit_zero x = ap (λ (y : ℕ). y % 2) (div-one x)

-- the bit above is that of the half
bit_above : (x i : ℕ) → bit x (1 + i) ≡ bit (x / 2) i
bit_above x i = ap (λ (y : ℕ). y % 2) (sym (shr-shr x 1 i))

last_within : (a b : ℕ) → bit_or a b ≡ b → a % 2 ≡ 1 → b % 2 ≡ 1
last_within a b e h = omega (arith, or_step a b, le-max_left (a % 2) (b % 2))

within : (x m : ℕ) → bit_or x m ≡ m → BitsWithin x m
within x m e i h = last_within (x / 2 ^ i) (m / 2 ^ i) (sym (or_shr x m i) ∙ ap (λ (y : ℕ). y / 2 ^ i) e) h

-- THE JOIN IS THE MASK, or there is a bit outside

module _ (n m : ℕ) where
  abbrev Either : Type 0
  Either = (bit_or n m ≡ m) ⊎ BitOutside n m

  -- where the halves join to the mask's half, the last bits decide
  last_decides : bit_or (n / 2) (m / 2) ≡ m / 2 → (t : Bool) → ltb (m % 2) (n % 2) ≡ t → Either
  last_decides e true t =
      let l : m % 2 < n % 2 = ltb-true (m % 2) (n % 2) t in
      inr (0, (bit_zero n ∙ omega arith, bit_zero m ∙ omega arith))
  last_decides e false t =
      inl (or_step n m ∙ ap₂ (λ (y z : ℕ). y * 2 + z) e (max-eq_right (ltb-false (m % 2) (n % 2) t)) ∙ div-add-mod' m 2)

  halves : (bit_or (n / 2) (m / 2) ≡ m / 2) ⊎ BitOutside (n / 2) (m / 2) → Either
  halves (inl e) = last_decides e (ltb (m % 2) (n % 2)) refl
  halves (inr w) = inr (1 + w.0, (bit_above n w.0 ∙ w.1.0, bit_above m w.0 ∙ w.1.1))

within_or_outside : (x m : ℕ) → (bit_or x m ≡ m) ⊎ BitOutside x m
within_or_outside = bin_ind (λ (n : ℕ). (m : ℕ) → (bit_or n m ≡ m) ⊎ BitOutside n m) (λ m. inl refl) (λ n ih m. halves n m (ih (m / 2)))

-- BOTH WAYS

-- a bit outside is none within
apart : (x m : ℕ) → BitsWithin x m → BitOutside x m → ⊥
apart x m h w = omega (arith, h w.0 w.1.0, w.1.1)

within_exactly : (x m : ℕ) → (bit_or x m ≡ m) ↔ BitsWithin x m
within_exactly x m = (within x m, λ h. ⊎_elim (λ e. e) (λ w. absurd (apart x m h w)) (within_or_outside x m))

outside_exactly : (x m : ℕ) → (bit_or x m ≡ m → ⊥) ↔ BitOutside x m
outside_exactly x m =
    ((λ ne. ⊎_elim (λ e. absurd (ne e)) (λ w. w) (within_or_outside x m)), λ w e. apart x m (within x m e) w)

-- TEST 46

pub flags_plainly : FlagsPlainly
flags_plainly = record { refuses = λ d. outside_exactly (flags d) allowed_flags; passes = λ d. within_exactly (flags d) allowed_flags }

pub flags_named : FlagsNamed
flags_named = refl
