-- What is printed: how many digits a number has, and the text of each line from the parts that were put one behind the other. Assumes
-- nothing.
use Prim.Native.Nat.{ℕ, ◌-◌, ◌^◌, ◌<◌, ◌≤◌}
use mathlib.Core.Bool.{Bool, true, false}
use mathlib.Core.List.{List, [], ◌∷◌, ◌++◌}
use mathlib.Core.Path.{◌≡◌, refl, sym, ap, ◌∙◌, subst}
use native.Mathlib.Omega.{arith}
use native.Mathlib.Nat.{pow-le-pow_right}
use lib.Dec.{ltb}
use lib.ListN.{take}
use borrow.Author.Tests.{ltb-true, ltb-false}
use Rattle.io.specs.Digits.{IsDigitCount}
use Rattle.admission.specs.declared.Verdict.{Verdict}
use Rattle.std.specs.Prelude.{Ok, Err}
use Rattle.admit_run.specs.declared.FileError.TheVariants.{NoFile, TooLong}
use Rattle.admit_run.specs.Small.{Line}
use Rattle.admit_run.specs.Text.{Text, NumberAndPlace, WroteNumber, no_file_text, too_long_text}

-- a number below 2^64 has at most 20 decimal digits
pub few_digits : (n k : ℕ) → n < 18446744073709551616 → IsDigitCount 10 1 n k → k ≤ 20
few_digits n k h f = by_test (ltb 20 k) refl
  where
    by_test : (t : Bool) → ltb 20 k ≡ t → k ≤ 20
    by_test false e = ltb-false 20 k e
    by_test true e =
        let more = ltb-true 20 k e in
        let power : 100000000000000000000 ≤ 10 ^ (k - 1) = pow-le-pow_right {n = 10} (omega arith) {i = 20} {j = k - 1} (omega arith) in
        let below = f.2 (omega arith) in
        absurd (omega (arith, power, below, h))

module _ (line : Line) (bytes : List ℕ) where
  pub text_missing : line ≡ Err NoFile → bytes ≡ no_file_text → Text line bytes
  unfolding Text
  text_missing e h = subst (λ (l : Line). Text l bytes) (sym e) h

  pub text_long : line ≡ Err TooLong → bytes ≡ too_long_text → Text line bytes
  unfolding Text
  text_long e h = subst (λ (l : Line). Text l bytes) (sym e) h

  pub text_answered : (v : Verdict) → line ≡ Ok v → NumberAndPlace v bytes → Text line bytes
  unfolding Text
  text_answered v e h = subst (λ (l : Line). Text l bytes) (sym e) h

pub number_and_place : (v : Verdict) (m0 m1 m2 m3 bytes : List ℕ) (a b c : ℕ) → WroteNumber v.number m0 0 m1 a → take b m2 ≡ take a m1 ++ (32 ∷ [])
    → WroteNumber v.place m2 b m3 c → bytes ≡ take c m3 ++ (10 ∷ []) → NumberAndPlace v bytes
number_and_place v m0 m1 m2 m3 bytes a b c number space place end =
    record {
      number_digits = number.part;
      place_digits = place.part;
      number_is = number.decimal;
      place_is = place.decimal;
      joined =
          end
          ∙ ap (λ (l : List ℕ). l ++ (10 ∷ [])) (place.written ∙ ap (λ (l : List ℕ). l ++ place.part) (space ∙ ap (λ (l : List ℕ). l ++ (32 ∷ [])) number.written));
    }
