-- The test of equality holds exactly where the lists are equal.
use Prim.Native.Nat.{ℕ, suc, ◌<◌}
use mathlib.Core.Bool.{Bool, true, false, ◌&&◌, false≢true}
use mathlib.Core.List.{List, [], ◌∷◌}
use mathlib.Core.Path.{◌≡◌, refl, sym, ap, ap₂}
use native.Mathlib.Omega.{arith}
use lib.Dec.{eqb}
use lib.ListN.{length, get_or, take}
use borrow.Author.Tests.{eqb-true, eq-eqb}
use Rattle.std.specs.Cmp.Lexicographic.{pointwise}
use Rattle.std.proofs.Common.{Decides, take_all}
use Rattle.std.proofs.lemmas.Slice.Eq.{slice_eq-Decides}
use Rattle.std.proofs.lemmas.Bool.Decides.{same_from_decides}
use Rattle.digest.specs.Same.{same}

both : (a b : Bool) → (a && b) ≡ true → (a ≡ true) × (b ≡ true)
both true b e = (refl, e)
both false b e = absurd (false≢true e)

-- the test holds exactly where the lists are equal
pub same_equal : (xs ys : List ℕ) → same xs ys ≡ true → xs ≡ ys
unfolding same
same_equal [] [] e = refl
same_equal [] (y ∷ ys) e = absurd (false≢true e)
same_equal (x ∷ xs) [] e = absurd (false≢true e)
same_equal (x ∷ xs) (y ∷ ys) e =
    let w = both (eqb x y) (same xs ys) e in
    ap₂ (λ (a : ℕ) (l : List ℕ). a ∷ l) (eqb-true x y w.0) (same_equal xs ys w.1)

pub equal_same : (xs ys : List ℕ) → xs ≡ ys → same xs ys ≡ true
unfolding same
equal_same xs ys e = rw (← e) (itself xs)
  where
    itself : (l : List ℕ) → same l l ≡ true
    itself [] = refl
    itself (x ∷ l) = rw (eq-eqb x x refl) (itself l)

not_same : (xs ys : List ℕ) → (xs ≡ ys → ⊥) → false ≡ same xs ys
not_same xs ys h = by_test (same xs ys) refl
  where
    by_test : (b : Bool) → b ≡ same xs ys → false ≡ b
    by_test true e = absurd (h (same_equal xs ys (sym e)))
    by_test false e = refl

-- lists of two lengths, or with two bytes at one place, are not equal
pub other_length : (xs ys : List ℕ) → (length xs ≡ length ys → ⊥) → false ≡ same xs ys
other_length xs ys h = not_same xs ys (λ e. h (ap length e))

pub other_byte : (xs ys : List ℕ) (i : ℕ) → (get_or xs i 0 ≡ get_or ys i 0 → ⊥) → false ≡ same xs ys
other_byte xs ys i h = not_same xs ys (λ e. h (ap (λ (l : List ℕ). get_or l i 0) e))

-- lists of one length with the same byte at every place are equal
pub every_byte : (xs ys : List ℕ) → length xs ≡ length ys → ((i : ℕ) → i < length xs → get_or xs i 0 ≡ get_or ys i 0) → true ≡ same xs ys
every_byte xs ys e h = sym (equal_same xs ys (equal xs ys e h))
  where
    equal : (xs ys : List ℕ) → length xs ≡ length ys → ((i : ℕ) → i < length xs → get_or xs i 0 ≡ get_or ys i 0) → xs ≡ ys
    equal [] [] e h = refl
    equal [] (y ∷ ys) e h = absurd (omega arith)
    equal (x ∷ xs) [] e h = absurd (omega arith)
    equal (x ∷ xs) (y ∷ ys) e h =
        ap₂ (λ (a : ℕ) (l : List ℕ). a ∷ l) (h 0 (omega arith)) (equal xs ys (omega arith) (λ i l. h (suc i) (omega arith)))

pub same_decides : (xs ys : List ℕ) → Decides (same xs ys) (xs ≡ ys)
same_decides xs ys = (same_equal xs ys, equal_same xs ys)

-- the first n bytes of a digest and the first m of a slot are compared: as many as the kind has, and all
pub held : {E : ℕ → ℕ → Bool} → ((a b : ℕ) → Decides (E a b) (a ≡ b)) → (n m w : ℕ) (d slot : List ℕ) (r : Bool) → n ≡ w → m ≡ length slot
    → r ≡ pointwise E (take n d) (take m slot) → r ≡ same (take w d) slot
held decides n m w d slot r e f h =
    let k = rw (e, f, take_all (length slot) slot (omega arith)) at h in
    same_from_decides _ _ (slice_eq-Decides decides _ _ _ k) (same_decides _ _)
