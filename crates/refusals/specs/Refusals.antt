-- The table of refusals. A check is a list of numbered tests in order: the first that fails gives its number and its place, and
-- where none fails the check's own answer stands. Order is the order of the list, and nothing else.
--
-- A row is a number, a condition that refuses, and a place. A condition compares numbers. Rows are written in three ways:
--   row n c p       a test with a place that is known, 0 where the paper states none;
--   over n b f      a test over the positions below b, which names the lowest at which f holds;
--   among b f ns    a test over the positions below b that gives several numbers: the lowest position with a fault decides, whichever
--                   of the numbers ns its fault is.
-- The answer is n at p exactly when row n holds with place p and no row before it holds (`Exact` below).
use Rattle.std.specs.Prelude.{ℕ, zero, suc, ◌<◌, ◌≤◌, Bool, true, false, not, cond, ◌&&◌, ◌||◌, List, [], ◌∷◌, ◌⊎◌, ◌↔◌, ◌≡◌, ltb, leb, eqb}
use Rattle.refusals.specs.declared.Answer.{Answer}

-- CONDITIONS

infix 50 ◌<?◌ ◌≤?◌ ◌≡?◌ ◌≢?◌
infixr 25 ◌and◌
infixr 20 ◌or◌
pub data Cond : Type 0 where
  ◌<?◌ : ℕ → ℕ → Cond
  ◌≤?◌ : ℕ → ℕ → Cond
  ◌≡?◌ : ℕ → ℕ → Cond
  ◌≢?◌ : ℕ → ℕ → Cond
  ◌and◌ : Cond → Cond → Cond
  ◌or◌ : Cond → Cond → Cond

unfoldable pub holds : Cond → Bool
holds (a <? b) = ltb a b
holds (a ≤? b) = leb a b
holds (a ≡? b) = eqb a b
holds (a ≢? b) = not (eqb a b)
holds (c and d) = holds c && holds d
holds (c or d) = holds c || holds d

-- what it says of numbers that a condition holds (true), or does not (false)
abbrev pub Says : Bool → Cond → Type 0
Says true (a <? b) = a < b
Says false (a <? b) = b ≤ a
Says true (a ≤? b) = a ≤ b
Says false (a ≤? b) = b < a
Says true (a ≡? b) = a ≡ b
Says false (a ≡? b) = a ≡ b → ⊥
Says true (a ≢? b) = a ≡ b → ⊥
Says false (a ≢? b) = a ≡ b
Says true (c and d) = Says true c × Says true d
Says false (c and d) = Says true c → Says false d
Says true (c or d) = Says false c → Says true d
Says false (c or d) = Says false c × Says false d

-- one of two numbers
unfoldable pub pick : Cond → ℕ → ℕ → ℕ
pick c x y = cond (holds c) x y

-- POSITIONS

-- the one number where the test holds, else the other
abbrev pub or_at : Bool → ℕ → ℕ → ℕ
or_at true p n = p
or_at false p n = n

-- the lowest position below n at which f holds; n where there is none
unfoldable pub lowest : (ℕ → Cond) → ℕ → ℕ
lowest f zero = zero
lowest f (suc n) = or_at (ltb (lowest f n) n) (lowest f n) (or_at (holds (f n)) n (suc n))

-- ROWS

pub data Row : Type 0 where
  row : ℕ → Cond → ℕ → Row

-- a test over the positions below b
abbrev pub over : ℕ → ℕ → (ℕ → Cond) → Row
over n b f = row n (lowest f b <? b) (lowest f b)

-- position i has a fault: `fault` gives the number of what is wrong at a position, 0 where nothing is
abbrev pub faulty : (ℕ → ℕ) → ℕ → Cond
faulty fault i = fault i ≢? 0

-- a test over the positions below b that gives several numbers, a row for each
abbrev pub among : ℕ → (ℕ → ℕ) → List ℕ → List Row
among b fault [] = []
among b fault (n ∷ ns) =
    row n (lowest (faulty fault) b <? b and fault (lowest (faulty fault) b) ≡? n) (lowest (faulty fault) b) ∷ among b fault ns

-- THE TABLE

abbrev pub refuse : ℕ → ℕ → Answer
refuse n p = record { number = n; place = p }

-- nothing is refused
abbrev pub accepted : Answer
accepted = refuse 0 0

-- the first row that holds decides; where none does, the answer is `done`
unfoldable pub first : List Row → Answer → Answer
first [] done = done
first (row n c p ∷ rows) done = cond (holds c) (refuse n p) (first rows done)

-- WHAT A TABLE SAYS

-- the one statement where the test holds, else the other
abbrev pub either : Bool → Type 0 → Type 0 → Type 0
either true A B = A
either false A B = B

-- row n holds with place p, and no row before it holds
abbrev pub Decides : List Row → ℕ → ℕ → Type 0
Decides [] n p = ⊥
Decides (row m c q ∷ rows) n p = either (eqb m n) (Says true c × (p ≡ q)) (Says false c × Decides rows n p)

-- no row holds
abbrev pub Passes : List Row → Type 0
Passes [] = Unit
Passes (row m c q ∷ rows) = Says false c × Passes rows

-- the answer is n at p exactly when row n is the first to hold, with place p; and of number 0 exactly when none holds
pub record Exact (rows : List Row) (done : Answer) : Type 0 where
  pub refuses : (n p : ℕ) → (n ≡ 0 → ⊥) → (first rows done ≡ refuse n p) ↔ Decides rows n p
  pub accepts : ((first rows done).number ≡ 0) ↔ Passes rows

-- x is one of the numbers, or 0
abbrev pub OneOf : List ℕ → ℕ → Type 0
OneOf [] x = x ≡ 0
OneOf (n ∷ ns) x = (x ≡ n) ⊎ OneOf ns x

-- WHAT A TEST OVER POSITIONS SAYS

-- f holds at p, below b, and at no lower position
pub record LowestAt (f : ℕ → Cond) (b p : ℕ) : Type 0 where
  pub below : p < b
  pub here : Says true (f p)
  pub not_before : (k : ℕ) → k < p → Says false (f k)

-- p is below b and has the fault n, and no lower position has a fault
pub record FaultAt (fault : ℕ → ℕ) (b n p : ℕ) : Type 0 where
  pub below : p < b
  pub here : fault p ≡ n
  pub not_before : (k : ℕ) → k < p → fault k ≡ 0

-- the row of a test over positions holds with place p exactly when p is the lowest position at which f holds
abbrev pub OverPlainly : Type 0
OverPlainly = (b : ℕ) (f : ℕ → Cond) (p : ℕ) → (Says true (lowest f b <? b) × (p ≡ lowest f b)) ↔ LowestAt f b p

-- and a row of one that gives several numbers exactly when p is the lowest position with a fault, and that fault is its number
abbrev pub AmongPlainly : Type 0
AmongPlainly = (b : ℕ) (fault : ℕ → ℕ) (n p : ℕ) → (n ≡ 0 → ⊥)
    → (Says true (lowest (faulty fault) b <? b and fault (lowest (faulty fault) b) ≡? n) × (p ≡ lowest (faulty fault) b)) ↔ FaultAt fault b n p
