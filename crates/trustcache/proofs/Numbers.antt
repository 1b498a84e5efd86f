-- Numbers that bytes make are ordered as the bytes are, where the first byte is the most significant; and how a comparison of two entries
-- by such numbers finds their order.
use Prim.Native.Nat.{ℕ, zero, suc, ◌+◌, ◌*◌, ◌<◌, ◌≤◌}
use mathlib.Core.Bool.{Bool, true, false, true≢false, false≢true}
use mathlib.Core.List.{List}
use mathlib.Core.Path.{◌≡◌, refl, sym, subst, ◌∙◌}
use native.Mathlib.Nat.{add-zero, add-suc}
use native.Mathlib.Numerals.{add-one}
use native.Mathlib.Omega.{arith}
use lib.Dec.{ltb}
use lib.ListN.{get_or, drop}
use lib.Seq.{get_or-take, get_or-drop}
use borrow.Author.Tests.{ltb-true, ltb-false}
use Rattle.endian.specs.Numbers.{AllBytes, big}
use Rattle.endian.proofs.Numbers.{big_part}
use Rattle.layout.specs.TrustCache.{cache_head, entry_size, cdhash_length, hash_at}
use Rattle.std.specs.declared.cmp.Ordering.{Ordering}
use Rattle.std.specs.declared.cmp.Ordering.TheVariants.{Less, Equal, Greater}
use Rattle.std.specs.Ordering.{is_ne, nat_cmp}
use Rattle.std.proofs.lemmas.Cmp.{ranked}
use Rattle.trustcache.specs.Order.{order_number, below, above, order, Below}
use Rattle.trustcache.proofs.Order.{SameTo, same_back, same_more, less_at, order_below, order_above}

-- the bytes of a hash are below 256
abbrev HashBytes : List ℕ → Type 0
HashBytes x = (m : ℕ) → m < cdhash_length → get_or x m 0 < 256

-- OF ANY WIDTH: the number of the n bytes behind the first i, which are the same

module _ (x y : List ℕ) (f : HashBytes x) (g : HashBytes y) (i : ℕ) (s : SameTo i x y) where
  -- equal numbers have the same bytes
  number_same : (n : ℕ) → i + n ≤ cdhash_length → big n x i ≡ big n y i → SameTo (i + n) x y
  unfolding big
  number_same zero l e = rw (add-zero i) s
  number_same (suc n) l e =
      let a = f (i + n) (omega arith) in
      let b = g (i + n) (omega arith) in
      rw (add-suc i n, ← add-one (i + n)) (same_more x y (i + n) (number_same n (omega arith) (omega arith)) (omega arith))

  -- the last byte decides where the numbers before it are equal
  last_decides : (n : ℕ) → i + suc n ≤ cdhash_length → big (suc n) x i < big (suc n) y i → (big n x i < big n y i → Below x y) → Below x y
  unfolding big
  last_decides n l h before = by_test (ltb (big n x i) (big n y i)) refl
    where
      by_test : (t : Bool) → ltb (big n x i) (big n y i) ≡ t → Below x y
      by_test true e = before (ltb-true _ _ e)
      by_test false e =
          let u = ltb-false (big n x i) (big n y i) e in
          let a = f (i + n) (omega arith) in
          let b = g (i + n) (omega arith) in
          less_at x y (i + n) (number_same n (omega arith) (omega arith)) (omega arith) (omega arith)

  -- the hash with the smaller number is below the other
  number_less : (n : ℕ) → i + n ≤ cdhash_length → big n x i < big n y i → Below x y
  unfolding big
  number_less zero l h = absurd (omega arith)
  number_less (suc n) l h = last_decides n l h (number_less n (omega arith))

-- A COMPARISON of two entries by numbers of four bytes

-- a number in an entry's hash is one in the cache
hash_number : (c : List ℕ) (i n k : ℕ) → k + n ≤ cdhash_length → big n c (cache_head + entry_size * i + k) ≡ big n (hash_at c i) k
unfolding hash_at
hash_number c i n k l = sym (big_part n cdhash_length (cache_head + entry_size * i) k c l)

hash_bytes : (c : List ℕ) (i : ℕ) → AllBytes c → HashBytes (hash_at c i)
unfolding hash_at
hash_bytes c i f m l =
    let start = cache_head + entry_size * i in
    rw (get_or-take cdhash_length (drop start c) m 0 l, get_or-drop start c m 0) (f (start + m))

-- it has found the first k numbers the same, and reads the next of each
module _ (c : List ℕ) (f : AllBytes c) (i j k a b : ℕ) (s : SameTo (4 * k) (hash_at c i) (hash_at c j)) (l : k < 5)
    (p : a ≡ big 4 c (cache_head + entry_size * i + 4 * k)) (q : b ≡ big 4 c (cache_head + entry_size * j + 4 * k)) where
  left : a ≡ big 4 (hash_at c i) (4 * k)
  left = p ∙ hash_number c i 4 (4 * k) (omega arith)

  right : b ≡ big 4 (hash_at c j) (4 * k)
  right = q ∙ hash_number c j 4 (4 * k) (omega arith)

  pub numbers_below : a < b → below ≡ order (hash_at c i) (hash_at c j)
  numbers_below h =
      order_below (hash_at c i) (hash_at c j)
      (number_less (hash_at c i) (hash_at c j) (hash_bytes c i f) (hash_bytes c j f) (4 * k) s 4 (omega arith) (omega (arith, left, right)))

  pub numbers_above : b < a → above ≡ order (hash_at c i) (hash_at c j)
  numbers_above h =
      order_above (hash_at c i) (hash_at c j)
      (number_less (hash_at c j) (hash_at c i) (hash_bytes c j f) (hash_bytes c i f) (4 * k) (same_back (hash_at c i) (hash_at c j) (4 * k) s) 4 (omega arith) (omega (arith, left, right)))

  pub numbers_more : a ≡ b → SameTo (4 * (k + 1)) (hash_at c i) (hash_at c j)
  numbers_more h =
      subst (λ (n : ℕ). SameTo n (hash_at c i) (hash_at c j)) (omega arith)
      (number_same (hash_at c i) (hash_at c j) (hash_bytes c i f) (hash_bytes c j f) (4 * k) s 4 (omega arith) (omega (arith, left, right)))

  pub numbers_stop : (o : Ordering) → o ≡ nat_cmp a b → is_ne o ≡ true → order_number o ≡ order (hash_at c i) (hash_at c j)
  numbers_stop Less e n = numbers_below (ranked a b Less e)
  numbers_stop Equal e n = absurd (false≢true n)
  numbers_stop Greater e n = numbers_above (ranked a b Greater e)

  pub numbers_go : (o : Ordering) → o ≡ nat_cmp a b → is_ne o ≡ false → SameTo (4 * (k + 1)) (hash_at c i) (hash_at c j)
  numbers_go Less e n = absurd (true≢false n)
  numbers_go Equal e n = numbers_more (ranked a b Equal e)
  numbers_go Greater e n = absurd (true≢false n)
