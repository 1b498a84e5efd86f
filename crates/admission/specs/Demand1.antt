-- Demand 1: a call answers 0 or a number of its own list, and leaves the marks unless it answers 0 or 31.
-- (That every call ends, on any bytes and any numbers, is what a proved function without a `requires` says.)
use Rattle.std.specs.Prelude.{ℕ, List, [], ◌∷◌, ◌≡◌}
use Rattle.refusals.specs.declared.Answer.{Answer}
use Rattle.refusals.specs.Refusals.{OneOf}
use Rattle.admission.specs.declared.Verdict.{Verdict}
use Rattle.admission.specs.Input.{Lent}
use Rattle.admission.specs.Check.{Checked}
use Rattle.admission.specs.Recheck.{Call, Rechecked}

-- what a whole check refuses with
abbrev pub check_numbers : List ℕ
check_numbers =
    1 ∷ 2 ∷ 3 ∷ 4 ∷ 5 ∷ 6 ∷ 7 ∷ 8 ∷ 9 ∷ 10 ∷ 11 ∷ 12 ∷ 13 ∷ 14 ∷ 46 ∷ 15 ∷ 35 ∷ 16 ∷ 17 ∷ 18 ∷ 19 ∷ 20
    ∷ 21 ∷ 22 ∷ 23 ∷ 24 ∷ 25 ∷ 26 ∷ 27 ∷ 28 ∷ 29 ∷ 30 ∷ 31 ∷ []

-- what a recheck refuses with
abbrev pub recheck_numbers : List ℕ
recheck_numbers =
    1 ∷ 2 ∷ 3 ∷ 4 ∷ 5 ∷ 6 ∷ 7 ∷ 8 ∷ 9 ∷ 10 ∷ 11 ∷ 12 ∷ 13 ∷ 14 ∷ 46 ∷ 15 ∷ 35 ∷ 16 ∷ 17 ∷ 18 ∷ 20
    ∷ 32 ∷ 33 ∷ 34 ∷ 31 ∷ []

pub record Demand1 : Type 0 where
  pub check_number : (x : Lent) (marks : List ℕ) (v : Verdict) (after : List ℕ) → Checked x marks v after → OneOf check_numbers v.number
  pub check_leaves : (x : Lent) (marks : List ℕ) (v : Verdict) (after : List ℕ) → Checked x marks v after
      → (v.number ≡ 0 → ⊥) → (v.number ≡ 31 → ⊥) → after ≡ marks
  pub recheck_number : (s : List ℕ) (c : Call) (marks : List ℕ) (a : Answer) (after : List ℕ) → Rechecked s c marks a after
      → OneOf recheck_numbers a.number
  pub recheck_leaves : (s : List ℕ) (c : Call) (marks : List ℕ) (a : Answer) (after : List ℕ) → Rechecked s c marks a after
      → (a.number ≡ 0 → ⊥) → (a.number ≡ 31 → ⊥) → after ≡ marks
