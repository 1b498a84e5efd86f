-- Laws of a table by ranges. What is asked is all of orders of numbers, so that one `omega arith` answers it.
use Prim.Native.Nat.{ℕ, zero, suc, ◌≤◌}
use mathlib.Core.List.{List, [], ◌∷◌}
use mathlib.Core.Bool.{Bool, true, false, cond, ◌&&◌}
use mathlib.Core.Path.{◌≡◌, refl}
use lib.Dec.{leb}
use borrow.Author.Tests.{le-leb, leb-true}
use Rattle.refusals.specs.Ranges.{Range, range, lookup}

abbrev pub value_at : ℕ → List Range → ℕ
value_at k [] = 0
value_at zero (range lo hi v ∷ rs) = v
value_at (suc k) (range lo hi v ∷ rs) = value_at k rs

-- t is in range k, and in none before it
abbrev pub Hits : ℕ → List Range → ℕ → Type 0
Hits k [] t = ⊥
Hits zero (range lo hi v ∷ rs) t = (lo ≤ t) × (t ≤ hi)
Hits (suc k) (range lo hi v ∷ rs) t = (lo ≤ t → t ≤ hi → ⊥) × Hits k rs t

-- t is in no range
abbrev pub Misses : List Range → ℕ → Type 0
Misses [] t = Unit
Misses (range lo hi v ∷ rs) t = (lo ≤ t → t ≤ hi → ⊥) × Misses rs t

missed : {lo hi t : ℕ} (a b : Bool) → leb lo t ≡ a → leb t hi ≡ b → (lo ≤ t → t ≤ hi → ⊥) → (a && b) ≡ false
missed {lo} {hi} {t} true true e f h = absurd (h (leb-true lo t e) (leb-true t hi f))
missed true false e f h = refl
missed false b e f h = refl

pub hits : (k : ℕ) (rs : List Range) (other t : ℕ) → Hits k rs t → value_at k rs ≡ lookup rs other t
unfolding lookup
hits k [] other t h = absurd h
hits zero (range lo hi v ∷ rs) other t h = rw (le-leb lo t h.0, le-leb t hi h.1)
hits (suc k) (range lo hi v ∷ rs) other t h = rw (missed (leb lo t) (leb t hi) refl refl h.0) (hits k rs other t h.1)

pub misses : (rs : List Range) (other t : ℕ) → Misses rs t → other ≡ lookup rs other t
unfolding lookup
misses [] other t h = refl
misses (range lo hi v ∷ rs) other t h = rw (missed (leb lo t) (leb t hi) refl refl h.0) (misses rs other t h.1)

-- each value is at most a number
abbrev pub AtMost : ℕ → List Range → Type 0
AtMost most [] = Unit
AtMost most (range lo hi v ∷ rs) = (v ≤ most) × AtMost most rs

either : (b : Bool) (x y most : ℕ) → x ≤ most → y ≤ most → cond b x y ≤ most
either true x y most h k = h
either false x y most h k = k

-- and so is what is looked up
pub lookup_most : (most : ℕ) (rs : List Range) (other t : ℕ) → AtMost most rs → other ≤ most → lookup rs other t ≤ most
unfolding lookup
lookup_most most [] other t h o = o
lookup_most most (range lo hi v ∷ rs) other t h o = either (leb lo t && leb t hi) v (lookup rs other t) most h.0 (lookup_most most rs other t h.1 o)
