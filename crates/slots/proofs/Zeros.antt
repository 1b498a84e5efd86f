-- Bytes that are all zero.
use Prim.Native.Nat.{ℕ, zero, suc, ◌<◌}
use mathlib.Core.Bool.{Bool, true, false, ◌&&◌, false≢true}
use mathlib.Core.List.{List, [], ◌∷◌}
use mathlib.Core.Path.{◌≡◌, refl, sym, ap}
use native.Mathlib.Omega.{arith}
use lib.Dec.{eqb}
use lib.ListN.{length, get_or}
use borrow.Author.Tests.{eqb-true, eqb-false, eq-eqb}
use Rattle.std.specs.List.{list_all}
use Rattle.slots.specs.Slots.{all_zero}

-- each is zero
pub all_zero_at : (l : List ℕ) → all_zero l ≡ true → (i : ℕ) → get_or l i 0 ≡ 0
unfolding all_zero
all_zero_at [] e i = refl
all_zero_at (b ∷ bs) e i = at_first (eqb b 0) refl e i (all_zero_at bs)
  where
    at_first : (t : Bool) → eqb b 0 ≡ t → (t && all_zero bs) ≡ true → (i : ℕ) → (all_zero bs ≡ true → (i : ℕ) → get_or bs i 0 ≡ 0) → get_or (b ∷ bs) i 0 ≡ 0
    at_first true q e zero rest = eqb-true b 0 q
    at_first true q e (suc i) rest = rest e i
    at_first false q e i rest = absurd (false≢true e)

pub every_zero : (l : List ℕ) → ((i : ℕ) → i < length l → get_or l i 0 ≡ 0) → true ≡ all_zero l
unfolding all_zero
every_zero [] h = refl
every_zero (b ∷ bs) h = rw (eq-eqb b 0 (h 0 (omega arith))) (every_zero bs (λ i l. h (suc i) (omega arith)))

-- a byte that is not zero
pub not_all_zero : (l : List ℕ) (i : ℕ) → (get_or l i 0 ≡ 0 → ⊥) → false ≡ all_zero l
not_all_zero l i h = by_test (all_zero l) refl
  where
    by_test : (t : Bool) → t ≡ all_zero l → false ≡ t
    by_test true e = absurd (h (all_zero_at l (sym e) i))
    by_test false e = refl

pub some_not_zero : (l : List ℕ) → all_zero l ≡ false → (i : ℕ) × (get_or l i 0 ≡ 0 → ⊥)
unfolding all_zero
some_not_zero [] e = absurd (false≢true (sym e))
some_not_zero (b ∷ bs) e = at_first (eqb b 0) refl e (some_not_zero bs)
  where
    at_first : (t : Bool) → eqb b 0 ≡ t → (t && all_zero bs) ≡ false → (all_zero bs ≡ false → (i : ℕ) × (get_or bs i 0 ≡ 0 → ⊥)) → (i : ℕ) × (get_or (b ∷ bs) i 0 ≡ 0 → ⊥)
    at_first true q e rest = let w = rest e in (suc w.0, w.1)
    at_first false q e rest = (zero, eqb-false b 0 q)

-- the test of each byte
pub all_zero_list : (l : List ℕ) → list_all (λ x. eqb x 0) l ≡ all_zero l
unfolding all_zero
all_zero_list [] = refl
all_zero_list (b ∷ bs) = ap (λ (t : Bool). eqb b 0 && t) (all_zero_list bs)
