-- A search by `find` through a range, or by `position` through a list: it stops at the lowest position at which the test holds.
use Prim.Native.Nat.{ℕ, ◌<◌, ◌≤◌}
use mathlib.Core.Bool.{Bool, true, false}
use mathlib.Core.Path.{◌≡◌, sym, ap, subst}
use Rattle.std.specs.declared.ops.Range.{Range}
use Rattle.std.specs.Option.{MatchOption, unwrap_or}
use Rattle.std.specs.Prelude.{Option, None, Some}
use native.Mathlib.Omega.{arith}
use denote.Param.Members.{Mut}
use denote.Ref.{Bor}
use lib.ListN.{length, get_or}
use mathlib.Core.List.{List}
use Rattle.std.proofs.lemmas.Iterator.{YieldsList, YieldsList-from_range, IsFirst-from_position, cases_from_any, first_from_Range}
use Rattle.std.proofs.lemmas.List.FromFn.{length-range_with_len, get_or-range_with_len}
use Rattle.std.proofs.iter.Yields.{nat_range_steps}
use Rattle.std.specs.Bool.{⊤, MatchBool}
use Rattle.std.specs.Fn.{Called, CalledAt}
use Rattle.std.specs.Iterator.{YieldsThen}
use Rattle.std.specs.List.{FoldsTo, AllWithin, HoldsAt, range_with_len}
use Rattle.refusals.specs.Refusals.{◌<?◌, Cond, holds, lowest}
use Rattle.refusals.proofs.Conditions.{says, said}
use Rattle.refusals.proofs.Positions.{none_fails, some_fails, lowest_stop}

-- what such a search found, of a test that answers as f holds
abbrev Found : (ℕ → Cond) → ℕ → Option ℕ → Type 0
Found f n r = MatchOption r ((k : ℕ) → 0 ≤ k → k < n → false ≡ holds (f k)) (λ i. (0 ≤ i) × (i < n) × (true ≡ holds (f i)) × ((k : ℕ) → 0 ≤ k → k < i → false ≡ holds (f k)))

found_lowest : (f : ℕ → Cond) (n : ℕ) (r : Option ℕ) → Found f n r → unwrap_or r n ≡ lowest f n
found_lowest f n None h = sym (none_fails f n (λ k l. said false (f k) (h k (omega arith) l)))
found_lowest f n (Some i) h =
    lowest_stop f n i h.1 (none_fails f i (λ k l. said false (f k) (h.3 k (omega arith) l))) h.2

-- the same of a call of `find`, by what it says of its run, where each call of the closure leaves it as it was and answers as f holds
searched : {F : Type 0} {g : Mut F (Bor ℕ × Unit {0}) Bool} (f : ℕ → Cond) (s u : Range ℕ) (p : F) (r : Option ℕ)
    → (xs : List ℕ) × (j : F) × YieldsThen nat_range_steps s xs r u × FoldsTo (λ p x q. CalledAt g p x false q) p xs j × MatchOption r ⊤ (λ x. (h : F) × CalledAt g j x true h)
    → ((x : ℕ) (q : F) → CalledAt g p x true q → true ≡ holds (f x))
    → ((x : ℕ) (q : F) → CalledAt g p x false q → (q ≡ p) × (false ≡ holds (f x)))
    → s.start ≡ 0 → Found f s.end r
searched f s u p r ran held failed z =
    subst (λ (a : ℕ). MatchOption r ((k : ℕ) → a ≤ k → k < s.end → false ≡ holds (f k)) (λ i. (a ≤ i) × (i < s.end) × (true ≡ holds (f i)) × ((k : ℕ) → a ≤ k → k < i → false ≡ holds (f k)))) z
    (first_from_Range s u p r (λ k. true ≡ holds (f k)) (λ k. false ≡ holds (f k)) ran held failed)

-- the lowest position, by what was found
abbrev pub Lowest : (ℕ → Cond) → ℕ → Option ℕ → Type 0
Lowest f n r = MatchOption r (lowest f n ≡ n) (λ i. (i < n) × (i ≡ lowest f n))

search_lowest : (f : ℕ → Cond) (n : ℕ) (r : Option ℕ) → Found f n r → Lowest f n r
search_lowest f n None h = sym (found_lowest f n None h)
search_lowest f n (Some i) h = (h.1, found_lowest f n (Some i) h)

-- .. or the number of positions where there is none
pub lowest_or : (f : ℕ → Cond) (n : ℕ) (r : Option ℕ) → Lowest f n r → unwrap_or r n ≡ lowest f n
lowest_or f n None h = sym h
lowest_or f n (Some i) h = h.1

-- what a call of `find` over a range says of the lowest position
pub finds : {F : Type 0} {g : Mut F (Bor ℕ × Unit {0}) Bool} (f : ℕ → Cond) (n : ℕ) (s u : Range ℕ) (p : F) (r : Option ℕ)
    → (xs : List ℕ) × (j : F) × YieldsThen nat_range_steps s xs r u × FoldsTo (λ p x q. CalledAt g p x false q) p xs j × MatchOption r ⊤ (λ x. (h : F) × CalledAt g j x true h)
    → ((x : ℕ) (b : Bool) (q : F) → CalledAt g p x b q → (q ≡ p) × (b ≡ holds (f x)))
    → s.start ≡ 0 → s.end ≡ n → Lowest f n r
finds f n s u p r ran answers z e =
    subst (λ (n : ℕ). Lowest f n r) e (search_lowest f s.end r (searched f s u p r ran (λ x q k. (answers x true q k).1) (λ x q k. answers x false q k) z))

-- what `any` says of a range: that a search for the lowest position finds one
pub any_lowest : {F : Type 0} {g : Mut F (ℕ × Unit {0}) Bool} (f : ℕ → Cond) (s u : Range ℕ) (p : F) (r : Bool)
    → (xs : List ℕ) × (o : Option ℕ) × (j : F) × YieldsThen nat_range_steps s xs o u × FoldsTo (λ p x q. Called g p (x, tt) false q) p xs j × MatchOption o (r ≡ false) (λ x. (r ≡ true) × ((h : F) × Called g j (x, tt) true h))
    → ((x : ℕ) (b : Bool) (q : F) → Called g p (x, tt) b q → (q ≡ p) × (b ≡ holds (f x)))
    → s.start ≡ 0 → r ≡ holds (lowest f s.end <? s.end)
any_lowest f s u p r ran answers z =
    by r (cases_from_any u p r (λ k. true ≡ holds (f k)) (λ k. false ≡ holds (f k)) ran (YieldsList-from_range 0 s.end s.end (ap (λ (a : ℕ). record { start = a; end = s.end }) z) (omega arith)) (λ x q k. (answers x true q k).1) (λ x q k. answers x false q k))
  where
    all : List ℕ
    all = range_with_len 0 s.end

    at : (k : ℕ) → k < s.end → get_or all k 0 ≡ k
    at k l = omega (arith, get_or-range_with_len 0 s.end k 0 l)

    by : (b : Bool) → MatchBool b ((k : ℕ) × (k < length all) × HoldsAt (λ k. true ≡ holds (f k)) all k) (AllWithin (λ k. false ≡ holds (f k)) all 0 (length all))
        → b ≡ holds (lowest f s.end <? s.end)
    by true h =
        let l : h.0 < s.end = omega (arith, length-range_with_len 0 s.end, h.1) in
        says true (lowest f s.end <? s.end) (some_fails f s.end h.0 l (said true (f h.0) (subst (λ (k : ℕ). true ≡ holds (f k)) (at h.0 l) (h.2 0))))
    by false h =
        says false (lowest f s.end <? s.end)
        (omega (arith, none_fails f s.end (λ k l. said false (f k) (subst (λ (k : ℕ). false ≡ holds (f k)) (at k l) (h k 0 (omega arith) (omega (arith, length-range_with_len 0 s.end)))))))

-- a search through a list
stopped : (t : ℕ → Cond) (all : List ℕ) (r : Option ℕ)
    → MatchOption r (AllWithin (λ x. false ≡ holds (t x)) all 0 (length all)) (λ i. (i < length all) × HoldsAt (λ x. true ≡ holds (t x)) all i × AllWithin (λ x. false ≡ holds (t x)) all 0 i)
    → Lowest (λ k. t (get_or all k 0)) (length all) r
stopped t all None h = none_fails (λ k. t (get_or all k 0)) (length all) (λ k l. said false _ (h k 0 (omega arith) l))
stopped t all (Some i) h =
    let f = λ (k : ℕ). t (get_or all k 0) in
    (h.0, lowest_stop f (length all) i h.0 (none_fails f i (λ k l. said false (f k) (h.2 k 0 (omega arith) l))) (h.1 0))

-- a call of `position`, by what it says of its run, where each call of the closure leaves it as it was and answers as t holds of the element
pub positioned : {S A F : Type 0} {steps : S → Option A → S → Type 0} {v : A → ℕ} {g : Mut F (A × Unit {0}) Bool} {s : S} {all : List ℕ} (t : ℕ → Cond) (u : S) (p : F) (r : Option ℕ)
    → (xs : List A) × (o : Option A) × (j : F) × YieldsThen steps s xs o u × FoldsTo (λ p x q. Called g p (x, tt) false q) p xs j × MatchOption o (r ≡ None) (λ x. (r ≡ Some (length xs)) × ((h : F) × Called g j (x, tt) true h))
    → YieldsList steps v s all → ((x : A) (q : F) → Called g p (x, tt) true q → true ≡ holds (t (v x)))
    → ((x : A) (q : F) → Called g p (x, tt) false q → (q ≡ p) × (false ≡ holds (t (v x))))
    → Lowest (λ k. t (get_or all k 0)) (length all) r
positioned {all = all} t u p r ran yields held failed =
    stopped t all r (IsFirst-from_position u p r (λ x. true ≡ holds (t x)) (λ x. false ≡ holds (t x)) ran yields held failed)
