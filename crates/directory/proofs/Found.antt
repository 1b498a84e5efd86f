-- Test 10 behind tests 1 to 9, by whether the index has the directory's type; and behind it tests 11 to 18.
use Prim.Native.Nat.{ℕ}
use mathlib.Core.Bool.{Bool, true, false}
use mathlib.Core.List.{List}
use mathlib.Core.Path.{◌≡◌, refl, sym, ◌∙◌}
use Rattle.refusals.specs.declared.Answer.{Answer}
use Rattle.refusals.specs.Refusals.{◌≤?◌, holds, refuse, accepted, first}
use Rattle.refusals.proofs.Conditions.{says, said}
use Rattle.refusals.proofs.Exact.{decides}
use Rattle.refusals.proofs.Joined.{goes}
use Rattle.layout.specs.SuperBlob.{count}
use Rattle.layout.specs.CodeDirectory.{directory_type}
use Rattle.superblob.specs.Rows.{rows, position, has}
use Rattle.superblob.proofs.Numbers.{rows_unused}
use Rattle.directory.specs.Rows.{directory, blob_rows, directory_rows, signature_rows}

module _ (s : List ℕ) (there : Bool) (h : there ≡ holds (has s directory_type)) where
  tenth : there ≡ false → refuse 10 0 ≡ first (directory_rows s) accepted
  unfolding directory_rows has
  tenth e = decides (directory_rows s) accepted 10 0 (said false (has s directory_type) (sym e ∙ h), refl)

  later : there ≡ true → (a : Answer) → a ≡ first (blob_rows (directory s)) accepted → a ≡ first (directory_rows s) accepted
  unfolding directory_rows first has
  later e a f = rw (← says false (count s ≤? position s directory_type) (said true (has s directory_type) (sym e ∙ h))) f

  module _ (side : ℕ) (a b : Answer) (e : a ≡ first (rows side s) accepted) (z : a.number ≡ 0) where
    -- test 10
    pub found_none : there ≡ false → b ≡ refuse 10 0 → b ≡ first (signature_rows side s) accepted
    unfolding signature_rows
    found_none f t = goes (rows side s) (directory_rows s) accepted a b (rows_unused side s) e z (t ∙ tenth f)

    -- and the tests behind it
    pub found_some : there ≡ true → b ≡ first (blob_rows (directory s)) accepted → b ≡ first (signature_rows side s) accepted
    unfolding signature_rows
    found_some f t = goes (rows side s) (directory_rows s) accepted a b (rows_unused side s) e z (later f b t)
