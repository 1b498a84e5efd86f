-- The order of hashes by their 20 bytes, the first byte first. A byte past a list's end counts as 0.
use Rattle.std.specs.Prelude.{ℕ, ◌<◌, List, ◌↔◌, ◌≡◌, length, get_or}
use Rattle.std.specs.declared.cmp.Ordering.{Ordering}
use Rattle.std.specs.declared.cmp.Ordering.TheVariants.{Less, Equal, Greater}
use Rattle.layout.specs.TrustCache.{cdhash_length}
use Rattle.refusals.specs.Refusals.{Cond, ◌<?◌, ◌≡?◌, ◌≢?◌, pick, lowest}

-- byte k differs
abbrev pub differs_at : List ℕ → List ℕ → ℕ → Cond
differs_at x y k = get_or x k 0 ≢? get_or y k 0

-- the first byte that differs; 20 where none does
unfoldable pub first_differing : List ℕ → List ℕ → ℕ
first_differing x y = lowest (differs_at x y) cdhash_length

-- how one hash stands to another
abbrev pub below : ℕ
below = 0

abbrev pub equal : ℕ
equal = 1

abbrev pub above : ℕ
above = 2

-- .. as the code says it
abbrev pub order_number : Ordering → ℕ
order_number Less = below
order_number Equal = equal
order_number Greater = above

-- the first byte that differs decides
unfoldable pub order : List ℕ → List ℕ → ℕ
order x y =
    pick (first_differing x y ≡? cdhash_length) equal (pick (get_or x (first_differing x y) 0 <? get_or y (first_differing x y) 0) below above)

-- IN PLAIN WORDS

-- byte k is the first that differs, and x's is smaller
pub record FirstLess (x y : List ℕ) (k : ℕ) : Type 0 where
  pub inside : k < cdhash_length
  pub same : (m : ℕ) → m < k → get_or x m 0 ≡ get_or y m 0
  pub less : get_or x k 0 < get_or y k 0

-- x is below y
abbrev pub Below : List ℕ → List ℕ → Type 0
Below x y = (k : ℕ) × FirstLess x y k

-- what the order says of any two hashes
pub record OrderPlainly : Type 0 where
  pub is_below : (x y : List ℕ) → (order x y ≡ below) ↔ Below x y
  pub is_above : (x y : List ℕ) → (order x y ≡ above) ↔ Below y x
  pub is_equal : (x y : List ℕ) → length x ≡ cdhash_length → length y ≡ cdhash_length → (order x y ≡ equal) ↔ (x ≡ y)
