-- Exactness: the answer is n at p exactly when row n holds with place p and no row before it holds (`decides`, `decided`), and the
-- check's own answer exactly when no row holds (`passes`, `passed`).
use Prim.Native.Nat.{ℕ}
use mathlib.Core.List.{List, [], ◌∷◌}
use mathlib.Core.Bool.{Bool, true, false, not, cond, ◌&&◌}
use mathlib.Core.Path.{◌≡◌, refl, sym, ap, subst, ◌∙◌}
use lib.Dec.{T, eqb}
use borrow.Author.Tests.{eqb-true, eqb-false, eq-eqb}
use Rattle.refusals.specs.declared.Answer.{Answer}
use Rattle.refusals.specs.Refusals.{Cond, holds, Says, Row, row, refuse, first, either, Decides, Passes, Exact}
use Rattle.refusals.proofs.Conditions.{says, said}

by_number : (c : Cond) (m q n p : ℕ) (rest : Answer) (D : Type 0) (b : Bool) → b ≡ eqb m n → (D → refuse n p ≡ rest)
    → either b (Says true c × (p ≡ q)) (Says false c × D) → refuse n p ≡ cond (holds c) (refuse m q) rest
by_number c m q n p rest D true e f h = rw (← says true c h.0, eqb-true m n (sym e), h.1)
by_number c m q n p rest D false e f h = rw (← says false c h.0) (f h.1)

-- the answer is n at p where row n decides ...
pub decides : (rows : List Row) (done : Answer) (n p : ℕ) → Decides rows n p → refuse n p ≡ first rows done
unfolding first
decides [] done n p h = absurd h
decides (row m c q ∷ rows) done n p h =
    by_number c m q n p (first rows done) (Decides rows n p) (eqb m n) refl (decides rows done n p) h

pub passes : (rows : List Row) (done : Answer) → Passes rows → done ≡ first rows done
unfolding first
passes [] done h = refl
passes (row m c q ∷ rows) done h = rw (← says false c h.0) (passes rows done h.1)

-- NUMBERS

-- no row has the number n, and no number stands at two rows: tests that compute
abbrev pub unused_in : List Row → ℕ → Bool
unused_in [] n = true
unused_in (row m c q ∷ rows) n = not (eqb m n) && unused_in rows n

abbrev pub distinct_in : List Row → Bool
distinct_in [] = true
distinct_in (row m c q ∷ rows) = unused_in rows m && distinct_in rows

abbrev pub Unused : List Row → ℕ → Type 0
Unused rows n = T (unused_in rows n)

unused_head : (m n : ℕ) (r : Bool) → T (not (eqb m n) && r) → m ≡ n → ⊥
unused_head m n r u e = subst (λ (b : Bool). T (not b && r)) (eq-eqb m n e) u

and_t : (a b : Bool) → T (a && b) → T b
and_t true b h = h
and_t false b h = absurd h

passed_row : (c : Cond) (m q : ℕ) (rest : Answer) (n : ℕ) (b : Bool) → b ≡ holds c → (m ≡ n → ⊥) → (cond b (refuse m q) rest).number ≡ n → Says false c × (rest.number ≡ n)
passed_row c m q rest n true e ne h = absurd (ne h)
passed_row c m q rest n false e ne h = (said false c e, h)

-- where the answer has a number that no row has, no row holds
pub passed : (rows : List Row) (done : Answer) (n : ℕ) → Unused rows n → (first rows done).number ≡ n → Passes rows
unfolding first
passed [] done n u e = tt
passed (row m c q ∷ rows) done n u e =
    let w = passed_row c m q (first rows done) n (holds c) refl (unused_head m n (unused_in rows n) u) e in
    (w.0, passed rows done n (and_t (not (eqb m n)) (unused_in rows n) u) w.1)

abbrev pub Distinct : List Row → Type 0
Distinct rows = T (distinct_in rows)

T_and : (a b : Bool) → T (a && b) → T a
T_and true b h = tt
T_and false b h = absurd h

unused : (rows : List Row) (done : Answer) (n p : ℕ) → Unused rows n → (done.number ≡ n → ⊥) → refuse n p ≡ first rows done → ⊥
unfolding first
unused [] done n p u ne e = ne (sym (ap (λ (a : Answer). a.number) e))
unused (row m c q ∷ rows) done n p u ne e = at_row (unused rows done n p (and_t (not (eqb m n)) (unused_in rows n) u) ne) (holds c) e
  where
    at_row : (refuse n p ≡ first rows done → ⊥) → (b : Bool) → refuse n p ≡ cond b (refuse m q) (first rows done) → ⊥
    at_row f true e = unused_head m n (unused_in rows n) u (sym (ap (λ (a : Answer). a.number) e))
    at_row f false e = f e

-- ... and only there
pub decided : (rows : List Row) (done : Answer) (n p : ℕ) → Distinct rows → (done.number ≡ n → ⊥) → refuse n p ≡ first rows done → Decides rows n p
unfolding first
decided [] done n p d ne e = absurd (ne (sym (ap (λ (a : Answer). a.number) e)))
decided (row m c q ∷ rows) done n p d ne e = at_row (decided rows done n p (and_t (unused_in rows m) (distinct_in rows) d) ne) (holds c) refl (eqb m n) refl e
  where
    at_row : (refuse n p ≡ first rows done → Decides rows n p) → (b : Bool) → b ≡ holds c → (t : Bool) → t ≡ eqb m n → refuse n p ≡ cond b (refuse m q) (first rows done)
        → either t (Says true c × (p ≡ q)) (Says false c × Decides rows n p)
    at_row f true eb true et e = (said true c eb, ap (λ (a : Answer). a.place) e)
    at_row f true eb false et e = absurd (eqb-false m n (sym et) (sym (ap (λ (a : Answer). a.number) e)))
    at_row f false eb true et e =
        absurd (unused rows done n p (subst (Unused rows) (eqb-true m n (sym et)) (T_and (unused_in rows m) (distinct_in rows) d)) ne e)
    at_row f false eb false et e = (said false c eb, f e)

-- where no row holds, the number is that of the check's own answer
pub passes_zero : (rows : List Row) (done : Answer) → done.number ≡ 0 → Passes rows → (first rows done).number ≡ 0
passes_zero rows done z p = sym (ap (λ (a : Answer). a.number) (passes rows done p)) ∙ z

-- so a table whose numbers are distinct and not 0, and whose own answer has number 0, is exact
pub exact : (rows : List Row) (done : Answer) → Unused rows 0 → Distinct rows → done.number ≡ 0 → Exact rows done
exact rows done unused distinct z =
    record {
      refuses = λ n p ne. ((λ e. decided rows done n p distinct (λ q. ne (sym q ∙ z)) (sym e)), λ d. sym (decides rows done n p d));
      accepts = (passed rows done 0 unused, passes_zero rows done z);
    }
