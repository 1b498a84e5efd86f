-- What the answers of test 31 say, both ways.
use Prim.Native.Nat.{ℕ, ◌<◌}
use mathlib.Core.Bool.{false}
use mathlib.Core.Path.{◌≡◌}
use mathlib.Core.List.{List}
use native.Mathlib.Omega.{arith}
use lib.ListN.{length, get_or}
use Rattle.refusals.specs.Refusals.{LowestAt, refuse}
use Rattle.refusals.proofs.Conditions.{said}
use Rattle.refusals.proofs.Plain.{over_plainly}
use Rattle.refusals.proofs.Exact.{decides, decided, passes, passed}
use Rattle.refusals.proofs.Positions.{lowest_below, none_fails}
use Rattle.marks.specs.Marks.{differs, bad_rows, judged}

-- 31 is given exactly with the lowest page that is marked 1 ...
pub judged_bad : (marks : List ℕ) (place i : ℕ) → LowestAt (differs marks) (length marks) i → refuse 31 i ≡ judged marks place
unfolding judged bad_rows
judged_bad marks place i h = decides _ (refuse 0 place) 31 i ((over_plainly (length marks) (differs marks) i).1 h)

pub bad_judged : (marks : List ℕ) (place i : ℕ) → refuse 31 i ≡ judged marks place → LowestAt (differs marks) (length marks) i
unfolding judged bad_rows
bad_judged marks place i e =
    (over_plainly (length marks) (differs marks) i).0 (decided _ (refuse 0 place) 31 i tt (λ z. absurd (omega arith)) e)

-- ... and 0 exactly where no page is marked 1
pub judged_good : (marks : List ℕ) (place : ℕ) → ((k : ℕ) → k < length marks → get_or marks k 0 ≡ 1 → ⊥) → refuse 0 place ≡ judged marks place
unfolding judged bad_rows differs
judged_good marks place h =
    let q = none_fails (differs marks) (length marks) h in
    passes _ (refuse 0 place) (omega arith, tt)

pub good_judged : (marks : List ℕ) (place : ℕ) → (judged marks place).number ≡ 0 → (k : ℕ) → k < length marks → get_or marks k 0 ≡ 1 → ⊥
unfolding judged bad_rows differs
good_judged marks place e k l =
    let d = passed _ (refuse 0 place) 0 tt e in
    said false (differs marks k) (lowest_below (differs marks) (length marks) d.0 k l)
