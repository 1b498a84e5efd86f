-- Which numbers a table can give: those of its rows, and that of its own answer.
use Prim.Native.Nat.{ℕ}
use mathlib.Core.Bool.{Bool, true, false, cond, ◌&&◌, ◌||◌}
use mathlib.Core.List.{List, [], ◌∷◌}
use mathlib.Core.Logic.{inl, inr}
use mathlib.Core.Path.{◌≡◌, refl}
use lib.Dec.{T, eqb}
use borrow.Author.Tests.{eqb-true}
use Rattle.refusals.specs.declared.Answer.{Answer}
use Rattle.refusals.specs.Refusals.{holds, Row, row, refuse, first, OneOf}

-- x is one of the numbers, or 0, as a test
abbrev pub one_of : List ℕ → ℕ → Bool
one_of [] x = eqb x 0
one_of (n ∷ ns) x = eqb x n || one_of ns x

-- every row has such a number: this computes
abbrev pub all_in : List ℕ → List Row → Bool
all_in ns [] = true
all_in ns (row n c p ∷ rows) = one_of ns n && all_in ns rows

and_both : (a b : Bool) → T (a && b) → T a × T b
and_both true b h = (tt, h)
and_both false b h = absurd h

is_one : (ns : List ℕ) (x : ℕ) → T (one_of ns x) → OneOf ns x
is_one [] x h = by_test (eqb x 0) refl h
  where
    by_test : (b : Bool) → eqb x 0 ≡ b → T b → x ≡ 0
    by_test true e h = eqb-true x 0 e
    by_test false e h = absurd h
is_one (n ∷ ns) x h = by_test (eqb x n) refl h (is_one ns x)
  where
    by_test : (b : Bool) → eqb x n ≡ b → T (b || one_of ns x) → (T (one_of ns x) → OneOf ns x) → OneOf (n ∷ ns) x
    by_test true e h rest = inl (eqb-true x n e)
    by_test false e h rest = inr (rest h)

number_in : (ns : List ℕ) (rows : List Row) (done : Answer) → T (all_in ns rows) → T (one_of ns done.number) → T (one_of ns (first rows done).number)
unfolding first
number_in ns [] done h d = d
number_in ns (row n c p ∷ rows) done h d =
    let w = and_both (one_of ns n) (all_in ns rows) h in
    at_row (holds c) w.0 (number_in ns rows done w.1 d)
  where
    at_row : (b : Bool) → T (one_of ns n) → T (one_of ns (first rows done).number) → T (one_of ns (cond b (refuse n p) (first rows done)).number)
    at_row true here rest = here
    at_row false here rest = rest

-- then the answer has such a number
pub answer_in : (ns : List ℕ) (rows : List Row) (done : Answer) → T (all_in ns rows) → T (one_of ns done.number) → OneOf ns (first rows done).number
answer_in ns rows done h d = is_one ns (first rows done).number (number_in ns rows done h d)
