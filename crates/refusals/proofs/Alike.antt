-- Laws of two tables: where they answer the same. What stands behind a table matters only where that table
-- passes, and a search depends only on the tests below its bound.
use Prim.Native.Nat.{ℕ, zero, suc, ◌<◌, ◌≤◌}
use mathlib.Core.Bool.{Bool, true, false, cond}
use mathlib.Core.List.{List, [], ◌∷◌, ◌++◌}
use mathlib.Core.Path.{◌≡◌, refl, ap, ◌∙◌}
use native.Mathlib.Omega.{arith}
use Rattle.refusals.specs.declared.Answer.{Answer}
use Rattle.refusals.specs.Refusals.{Cond, ◌≢?◌, ◌or◌, holds, Says, lowest, Row, row, over, faulty, among, refuse, first, Passes}
use Rattle.refusals.proofs.Conditions.{said}
use Rattle.refusals.proofs.Positions.{lowest_most}

-- TABLES THAT ANSWER THE SAME

-- behind one table, two that answer the same where it passes
pub first_behind : (rows more other : List Row) (d e : Answer) → (Passes rows → first more d ≡ first other e)
    → first (rows ++ more) d ≡ first (rows ++ other) e
unfolding first
first_behind [] more other d e h = h tt
first_behind (row m c q ∷ rows) more other d e h = at_row (holds c) refl (λ p. first_behind rows more other d e (λ w. h (p, w)))
  where
    at_row : (b : Bool) → b ≡ holds c → (Says false c → first (rows ++ more) d ≡ first (rows ++ other) e)
        → cond b (refuse m q) (first (rows ++ more) d) ≡ cond b (refuse m q) (first (rows ++ other) e)
    at_row true g f = refl
    at_row false g f = f (said false c g)

-- behind a condition, two that hold together where it does not
pub or_behind : (c d e : Cond) → (Says false c → holds d ≡ holds e) → holds (c or d) ≡ holds (c or e)
unfolding holds
or_behind c d e h = by_test (holds c) refl
  where
    by_test : (b : Bool) → b ≡ holds c → holds (c or d) ≡ holds (c or e)
    by_test true q = rw (← q)
    by_test false q = rw (← q) (h (said false c q))

-- SEARCHES THAT FIND THE SAME

-- a search depends on the tests below its bound alone
pub lowest_same : (f g : ℕ → Cond) (n : ℕ) → ((i : ℕ) → i < n → holds (f i) ≡ holds (g i)) → lowest f n ≡ lowest g n
unfolding lowest
lowest_same f g zero h = refl
lowest_same f g (suc n) h =
    let e : lowest f n ≡ lowest g n = lowest_same f g n (λ i l. h i (omega arith)) in
    rw (e, h n (omega arith))

-- so does a test over positions
pub over_same : (m n k : ℕ) (f g : ℕ → Cond) → n ≡ k → ((i : ℕ) → i < n → holds (f i) ≡ holds (g i)) → over m n f ≡ over m k g
over_same m n k f g e h = rw (lowest_same f g n h, e)

-- and one that gives several numbers, which reads the fault where the search ends
pub among_same : (b : ℕ) (f g : ℕ → ℕ) (ns : List ℕ) → ((i : ℕ) → i ≤ b → f i ≡ g i) → among b f ns ≡ among b g ns
among_same b f g [] h = refl
among_same b f g (n ∷ ns) h =
    let e : lowest (faulty f) b ≡ lowest (faulty g) b =
    lowest_same (faulty f) (faulty g) b (λ i l. ap (λ (v : ℕ). holds (v ≢? 0)) (h i (omega arith))) in
    let v : f (lowest (faulty f) b) ≡ g (lowest (faulty g) b) = h (lowest (faulty f) b) (lowest_most (faulty f) b) ∙ ap g e in
    rw (v, e, among_same b f g ns h)
