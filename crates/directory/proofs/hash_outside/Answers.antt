-- A kind without a width is none of the four. Each return is one part of the condition.
use Prim.Native.Nat.{ℕ}
use mathlib.Core.Bool.{true, false}
use mathlib.Core.List.{List}
use mathlib.Core.Logic.{inl, inr}
use mathlib.Core.Path.{◌≡◌, sym, ◌∙◌}
use native.Mathlib.Omega.{arith}
use Rattle.refusals.specs.Refusals.{holds}
use Rattle.refusals.proofs.Conditions.{says}
use Rattle.layout.specs.CodeDirectory.{hash_type, hash_size, slot_width}
use Rattle.layout.proofs.Widths.{no_width, some_width}
use Rattle.directory.specs.Rows.{hash_outside}
use Rattle.directory.proofs.hash_outside.Goals as goal

module _ (d : List ℕ) (size width : ℕ) (s : size ≡ hash_size d) (w : width ≡ slot_width d) where
  kind_outside : width ≡ 0 → true ≡ holds (hash_outside d)
  unfolding hash_outside slot_width
  kind_outside z =
      let n = no_width (hash_type d) (sym w ∙ z) in
      says true (hash_outside d)
      (λ known. absurd (n (inr (inr (inr (known (λ e. n (inl e)) (λ e. n (inr (inl e))) (λ e. n (inr (inr (inl e))))))))))

  size_outside : (size ≡ width → ⊥) → true ≡ holds (hash_outside d)
  unfolding hash_outside
  size_outside ne = says true (hash_outside d) (λ known. λ e. ne (s ∙ e ∙ sym w))

  inside : (width ≡ 0 → ⊥) → size ≡ width → false ≡ holds (hash_outside d)
  unfolding hash_outside slot_width
  inside n e = says false (hash_outside d) (some_width (hash_type d) (λ z. n (w ∙ z)), sym s ∙ e ∙ w)

pub returns-then-width-eq0 : goal.returns-then-width-eq0
returns-then-width-eq0 c = kind_outside _ _ _ c.read-head.ensures.hash_size_is c.slot_width-width.ensures.0 (omega arith)

pub returns-then-head-width : goal.returns-then-head-width
returns-then-head-width c = size_outside _ _ _ c.read-head.ensures.hash_size_is c.slot_width-width.ensures.0 (omega arith)

pub returns : goal.returns
returns c = inside _ _ _ c.read-head.ensures.hash_size_is c.slot_width-width.ensures.0 (omega arith) (omega arith)
