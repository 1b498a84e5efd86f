-- Laws of the slots' widths, by the hash kind, and of where slots lie, over any width.
use Prim.Native.Nat.{ℕ, suc, ◌+◌, ◌-◌, ◌*◌, ◌<◌, ◌≤◌}
use mathlib.Core.Logic.{inl, inr}
use mathlib.Core.Path.{◌≡◌, refl, sym, ap, ◌∙◌}
use mathlib.Core.Bool.{Bool, true, false}
use native.Mathlib.Nat.{mul-one, mul-suc, mul-le-mul_left, mul-le-mul_right}
use native.Mathlib.Omega.{arith}
use lib.Dec.{eqb}
use borrow.Author.Tests.{eqb-false, eqb-true}
use Rattle.refusals.proofs.Ranges.{value_at, Hits, hits, misses, lookup_most}
use Rattle.layout.specs.CodeDirectory.{sha1_type, sha256_type, truncated_type, sha384_type, KnownKind, slot_widths, width_of}

-- the width of a kind is in its line of the table
pub width_at : (line kind : ℕ) → Hits line slot_widths kind → width_of kind ≡ value_at line slot_widths
unfolding width_of
width_at line kind h = sym (hits line slot_widths 0 kind h)

-- a known kind has slots of 20 bytes or more
pub known_width : (kind : ℕ) → KnownKind kind → 20 ≤ width_of kind
unfolding slot_widths
known_width kind (inl e) = omega (arith, width_at 0 kind (omega arith))
known_width kind (inr (inl e)) = omega (arith, width_at 1 kind (omega arith))
known_width kind (inr (inr (inl e))) = omega (arith, width_at 2 kind (omega arith))
known_width kind (inr (inr (inr e))) = omega (arith, width_at 3 kind (omega arith))

-- so a kind whose slots have no bytes is none of the four
pub no_width : (kind : ℕ) → width_of kind ≡ 0 → KnownKind kind → ⊥
no_width kind e k = omega (arith, known_width kind k)

-- and the others have bytes
pub some_width : (kind : ℕ) → (width_of kind ≡ 0 → ⊥) → (kind ≡ sha1_type → ⊥) → (kind ≡ sha256_type → ⊥) → (kind ≡ truncated_type → ⊥) → kind ≡ sha384_type
unfolding width_of slot_widths
some_width kind h a b c = by_test (eqb kind sha384_type) refl
  where
    by_test : (t : Bool) → eqb kind sha384_type ≡ t → kind ≡ sha384_type
    by_test true e = eqb-true kind sha384_type e
    by_test false e =
        let d = eqb-false kind sha384_type e in
        absurd (h (sym (misses slot_widths 0 kind (omega arith))))

width_most : (kind : ℕ) → width_of kind ≤ 48
unfolding width_of slot_widths
width_most kind = lookup_most 48 slot_widths 0 kind (omega arith) (omega arith)

-- the bytes of as many slots as a field of 32 bits can state
pub slots_below : (kind n : ℕ) → n < 4294967296 → width_of kind * n < 206158430208
slots_below kind n h = omega (arith, mul-le-mul_right {m = width_of kind} {n = 48} n (width_most kind))

-- WHERE SLOTS LIE, over their width w

module _ (w : ℕ) where
  -- slot i ends where slot i + 1 starts, and so no later than the last of n slots
  pub slot_end : (i n : ℕ) → i < n → w * i + w ≤ w * n
  slot_end i n h =
      let e : w * suc i ≡ w * i + w = mul-suc w i in
      omega (arith, mul-le-mul_left {m = suc i} {n = n} w (omega arith))

  -- and slot k from the end on, counted from 1, ends where the slot before it starts
  pub slot_back : (k n : ℕ) → 0 < k → k ≤ n → (w ≤ w * k) × (w * k ≤ w * n)
  slot_back k n p q =
      (omega (arith, mul-le-mul_left {m = 1} {n = k} w p, mul-one w), mul-le-mul_left {m = k} {n = n} w q)

  -- all n of them end where the last ends
  pub last_end : (n : ℕ) → 0 < n → w * (n - 1) + w ≡ w * n
  last_end n p =
      let e : suc (n - 1) ≡ n = omega arith in
      sym (mul-suc w (n - 1)) ∙ ap (λ (k : ℕ). w * k) e
