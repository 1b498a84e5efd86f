-- The longest side file is short exactly where each that is there is. Assumes nothing.
use Prim.Native.Nat.{ℕ, ◌≤◌}
use mathlib.Core.Bool.{Bool, true, false, cond, false≢true}
use mathlib.Core.Logic.{◌↔◌}
use mathlib.Core.Path.{◌≡◌, refl}
use native.Mathlib.Omega.{arith}
use lib.Dec.{ltb}
use lib.ListN.{length}
use borrow.Author.Tests.{ltb-true, ltb-false}
use Rattle.refusals.specs.Refusals.{◌<?◌, pick}
use Rattle.refusals.proofs.Conditions.{pick_yes, pick_no}
use Rattle.slots.specs.Slots.{Sides}
use Rattle.admission.specs.Input.{longest}

-- of two numbers the larger is as large as each, and no larger than what limits both
module _ (a b : ℕ) where
  abbrev larger : ℕ
  larger = pick (a <? b) b a

  as_large : (a ≤ larger) × (b ≤ larger)
  as_large = by_test (ltb a b) refl
    where
      by_test : (t : Bool) → ltb a b ≡ t → (a ≤ larger) × (b ≤ larger)
      by_test true e = let l = ltb-true a b e in let q = pick_yes (a <? b) b a b l refl in (omega arith, omega arith)
      by_test false e = let l = ltb-false a b e in let q = pick_no (a <? b) b a a l refl in (omega arith, omega arith)

  no_larger : (n : ℕ) → a ≤ n → b ≤ n → larger ≤ n
  no_larger n p q = by_test (ltb a b) refl
    where
      by_test : (t : Bool) → ltb a b ≡ t → larger ≤ n
      by_test true e = omega (arith, pick_yes (a <? b) b a b (ltb-true a b e) refl)
      by_test false e = omega (arith, pick_no (a <? b) b a a (ltb-false a b e) refl)

-- a file counts where it is there
counted : (there : Bool) (size n : ℕ) → cond there size 0 ≤ n → there ≡ true → size ≤ n
counted true size n h e = h
counted false size n h e = absurd (false≢true e)

counts : (there : Bool) (size n : ℕ) → (there ≡ true → size ≤ n) → cond there size 0 ≤ n
counts true size n h = h refl
counts false size n h = omega arith

-- the longest side file is short exactly where each that is there is
pub sides_short : (x : Sides) (n : ℕ)
    → (longest x ≤ n) ↔ ((x.info_there ≡ true → length x.info ≤ n) × (x.resources_there ≡ true → length x.resources ≤ n))
unfolding longest
sides_short x n =
    let a = cond x.info_there (length x.info) 0 in
    let b = cond x.resources_there (length x.resources) 0 in
    let w = as_large a b in (
      (λ h. (counted x.info_there (length x.info) n (omega arith), counted x.resources_there (length x.resources) n (omega arith))),
      λ h. no_larger a b n (counts x.info_there (length x.info) n h.0) (counts x.resources_there (length x.resources) n h.1),
    )
