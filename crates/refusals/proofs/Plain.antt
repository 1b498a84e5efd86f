-- What a test over positions says, in plain words and both ways: the search ends at the lowest position that fails, and nowhere else.
use Prim.Native.Nat.{ℕ, ◌<◌}
use mathlib.Core.Bool.{true, false}
use mathlib.Core.Path.{sym, ap, subst, ◌∙◌}
use native.Mathlib.Omega.{arith}
use Rattle.refusals.specs.Refusals.{Cond, lowest, faulty, LowestAt, OverPlainly, AmongPlainly}
use Rattle.refusals.proofs.Conditions.{said}
use Rattle.refusals.proofs.Positions.{lowest_before, lowest_fails, first_fails}

lowest_at : (f : ℕ → Cond) (b : ℕ) → lowest f b < b → LowestAt f b (lowest f b)
lowest_at f b h =
    record {
      below = h;
      here = said true (f (lowest f b)) (lowest_fails f b h);
      not_before = λ k l. said false (f k) (lowest_before f b k l);
    }

pub over_plainly : OverPlainly
over_plainly b f p = (
  (λ h. subst (LowestAt f b) (sym h.1) (lowest_at f b h.0)),
  λ w.
      let e = first_fails f b p w.below w.not_before w.here in
      (omega (arith, w.below), sym e),
)

pub among_plainly : AmongPlainly
among_plainly b fault n p ne = (
  (λ h.
      let w = subst (LowestAt (faulty fault) b) (sym h.1) (lowest_at (faulty fault) b h.0.0) in
      record { below = w.below; here = ap fault h.1 ∙ h.0.1; not_before = w.not_before }),
  λ w.
      let e = first_fails (faulty fault) b p w.below w.not_before (λ z. ne (sym w.here ∙ z)) in
      ((omega (arith, w.below), ap fault e ∙ w.here), sym e),
)
