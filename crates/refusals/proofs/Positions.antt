-- Laws of the lowest position, for a loop that looks for it, for a reader of its answer, and for one who shows that a test passes.
use Prim.Native.Nat.{ℕ, zero, suc, ◌+◌, ◌<◌, ◌≤◌}
use mathlib.Core.Bool.{Bool, true, false, true≢false}
use mathlib.Core.Path.{◌≡◌, refl, sym, subst, ◌∙◌}
use mathlib.Core.Logic.{⊎_elim}
use lib.Dec.{ltb}
use borrow.Author.Tests.{lt-ltb, le-ltb, ltb-true, ltb-false}
use native.Mathlib.Nat.{eq-or-lt_of_le, le_of_suc-le-suc}
use native.Mathlib.Numerals.{add-one}
use native.Mathlib.Omega.{arith}
use Rattle.refusals.specs.Refusals.{Cond, holds, Says, or_at, lowest}
use Rattle.refusals.proofs.Conditions.{says, said}

-- a search that has passed every position below i, and what it finds at i
module _ (f : ℕ → Cond) where
  pub lowest_none : lowest f 0 ≡ 0
  unfolding lowest
  lowest_none = refl

  pub lowest_more : (i : ℕ) → lowest f i ≡ i → false ≡ holds (f i) → lowest f (i + 1) ≡ i + 1
  unfolding lowest
  lowest_more i e t = rw (add-one i, e, le-ltb i i (omega arith), ← t)

  lowest_here : (i : ℕ) → lowest f i ≡ i → true ≡ holds (f i) → lowest f (suc i) ≡ i
  unfolding lowest
  lowest_here i e t = rw (e, le-ltb i i (omega arith), ← t)

  lowest_stays : (n p : ℕ) → p < n → lowest f n ≡ p → lowest f (suc n) ≡ p
  unfolding lowest
  lowest_stays n p h e = rw (e, lt-ltb p n h)

  at_lowest : (n i : ℕ) → i < n → lowest f i ≡ i → true ≡ holds (f i) → lowest f n ≡ i
  at_lowest zero i h e t = absurd (omega arith)
  at_lowest (suc n) i h e t =
      ⊎_elim (λ q. subst (λ (k : ℕ). lowest f (suc k) ≡ i) q (lowest_here i e t))
      (λ l. lowest_stays n i l (at_lowest n i l e t))
      (eq-or-lt_of_le (le_of_suc-le-suc h))

  -- the search stops at i
  pub lowest_stop : (n i : ℕ) → i < n → lowest f i ≡ i → true ≡ holds (f i) → i ≡ lowest f n
  lowest_stop n i h e t = sym (at_lowest n i h e t)

  -- the search ends
  pub lowest_end : (n i : ℕ) → i ≡ n → lowest f i ≡ i → i ≡ lowest f n
  lowest_end n i q e = rw (← q) (sym e)

at_or_below : (f : ℕ → Cond) (n : ℕ) (b : Bool) → b ≡ ltb (lowest f n) n → (c : Bool) → c ≡ holds (f n) → suc n ≤ or_at b (lowest f n) (or_at c n (suc n)) → (n ≤ lowest f n) × (false ≡ holds (f n))
at_or_below f n true e c d h = absurd (let l = ltb-true (lowest f n) n (sym e) in omega arith)
at_or_below f n false e true d h = absurd (omega arith)
at_or_below f n false e false d h = (ltb-false (lowest f n) n (sym e), d)

-- where the search finds nothing below n, no position below n fails
pub lowest_below : (f : ℕ → Cond) (n : ℕ) → n ≤ lowest f n → (k : ℕ) → k < n → false ≡ holds (f k)
unfolding lowest
lowest_below f zero h k l = absurd (omega arith)
lowest_below f (suc n) h k l =
    let w = at_or_below f n (ltb (lowest f n) n) refl (holds (f n)) refl h in
    ⊎_elim (λ q. rw q w.1) (λ m. lowest_below f n w.0 k m) (eq-or-lt_of_le (le_of_suc-le-suc l))

before_step : (f : ℕ → Cond) (n k : ℕ) (b : Bool) → b ≡ ltb (lowest f n) n → (c : Bool) → c ≡ holds (f n)
    → ((k : ℕ) → k < lowest f n → false ≡ holds (f k)) → k < or_at b (lowest f n) (or_at c n (suc n)) → false ≡ holds (f k)
before_step f n k true e c d ih h = ih k h
before_step f n k false e true d ih h = let l = ltb-false (lowest f n) n (sym e) in ih k (omega arith)
before_step f n k false e false d ih h =
    let l = ltb-false (lowest f n) n (sym e) in
    ⊎_elim (λ q. rw q d) (λ m. ih k (omega arith)) (eq-or-lt_of_le (le_of_suc-le-suc h))

-- no position below the lowest fails
pub lowest_before : (f : ℕ → Cond) (n k : ℕ) → k < lowest f n → false ≡ holds (f k)
unfolding lowest
lowest_before f zero k h = absurd (omega arith)
lowest_before f (suc n) k h =
    before_step f n k (ltb (lowest f n) n) refl (holds (f n)) refl (lowest_before f n) h

at_step : (f : ℕ → Cond) (n : ℕ) (b : Bool) → b ≡ ltb (lowest f n) n → (c : Bool) → c ≡ holds (f n)
    → (lowest f n < n → true ≡ holds (f (lowest f n))) → or_at b (lowest f n) (or_at c n (suc n)) < suc n
    → true ≡ holds (f (or_at b (lowest f n) (or_at c n (suc n))))
at_step f n true e c d ih h = ih (ltb-true (lowest f n) n (sym e))
at_step f n false e true d ih h = d
at_step f n false e false d ih h = absurd (omega arith)

-- and it fails itself
pub lowest_fails : (f : ℕ → Cond) (n : ℕ) → lowest f n < n → true ≡ holds (f (lowest f n))
unfolding lowest
lowest_fails f zero h = absurd (omega arith)
lowest_fails f (suc n) h = at_step f n (ltb (lowest f n) n) refl (holds (f n)) refl (lowest_fails f n) h

-- no position fails: there is no lowest
pub none_fails : (f : ℕ → Cond) (n : ℕ) → ((k : ℕ) → k < n → Says false (f k)) → lowest f n ≡ n
none_fails f zero h = lowest_none f
none_fails f (suc n) h =
    rw (← add-one n) (lowest_more f n (none_fails f n (λ k l. h k (omega arith))) (says false (f n) (h n (omega arith))))

-- the first that fails is the lowest
pub first_fails : (f : ℕ → Cond) (n i : ℕ) → i < n → ((k : ℕ) → k < i → Says false (f k)) → Says true (f i) → lowest f n ≡ i
first_fails f n i h before here = sym (lowest_stop f n i h (none_fails f i before) (says true (f i) here))

-- where a position fails, there is a lowest
pub some_fails : (f : ℕ → Cond) (n i : ℕ) → i < n → Says true (f i) → lowest f n < n
some_fails f n i h here = by_test (ltb (lowest f n) n) refl
  where
    by_test : (b : Bool) → ltb (lowest f n) n ≡ b → lowest f n < n
    by_test true e = ltb-true (lowest f n) n e
    by_test false e = absurd (true≢false (says true (f i) here ∙ sym (lowest_below f n (ltb-false (lowest f n) n e) i h)))

-- a search ends at its bound
pub lowest_most : (f : ℕ → Cond) (n : ℕ) → lowest f n ≤ n
lowest_most f n = by_test (ltb (lowest f n) n) refl
  where
    by_test : (b : Bool) → ltb (lowest f n) n ≡ b → lowest f n ≤ n
    by_test true e = omega (arith, ltb-true (lowest f n) n e)
    by_test false e =
        omega (arith, none_fails f n (λ k l. said false (f k) (lowest_below f n (ltb-false (lowest f n) n e) k l)))
