-- The order of hashes, and how a comparison byte by byte finds it. Two hashes are equal, or one is below the other.
use Prim.Native.Nat.{ℕ, ◌+◌, ◌-◌, ◌<◌, ◌≤◌}
use mathlib.Core.Bool.{Bool, true, false, true≢false, false≢true}
use mathlib.Core.List.{List}
use mathlib.Core.Logic.{◌⊎◌, inl, inr, ⊎_elim}
use mathlib.Core.Path.{◌≡◌, refl, sym, ap, subst, ◌∙◌}
use native.Mathlib.Nat.{zero-add, eq-or-lt_of_le}
use native.Mathlib.Omega.{arith}
use lib.Dec.{ltb}
use lib.ListN.{length, get_or}
use lib.Seq.{ext_get_or}
use borrow.Author.Tests.{ltb-true, ltb-false}
use Rattle.layout.specs.TrustCache.{cdhash_length, hash_at}
use Rattle.refusals.specs.Refusals.{holds, lowest}
use Rattle.refusals.proofs.Conditions.{says, said, pick_yes, pick_no}
use Rattle.refusals.proofs.Positions.{lowest_before, lowest_fails, none_fails, first_fails}
use Rattle.std.specs.declared.cmp.Ordering.{Ordering}
use Rattle.std.specs.declared.cmp.Ordering.TheVariants.{Less, Equal, Greater}
use Rattle.std.specs.Ordering.{is_le, is_ne, nat_cmp}
use Rattle.std.proofs.lemmas.Cmp.{ranked}
use Rattle.trustcache.specs.Order.{order_number, differs_at, first_differing, below, equal, above, order, FirstLess, Below, OrderPlainly}
use Rattle.trustcache.specs.Rows.{not_above}

-- the first n bytes are the same
pub record SameTo (n : ℕ) (x y : List ℕ) : Type 0 where
  pub byte : (m : ℕ) → m < n → get_or x m 0 ≡ get_or y m 0

-- all are
abbrev pub Same : List ℕ → List ℕ → Type 0
Same x y = SameTo cdhash_length x y

-- THE RELATION

pub below_trans : (x y z : List ℕ) → Below x y → Below y z → Below x z
below_trans x y z (a, f) (b, g) = by_places (ltb a b) refl (ltb b a) refl
  where
    by_places : (s : Bool) → ltb a b ≡ s → (t : Bool) → ltb b a ≡ t → Below x z
    by_places true e t h =
        let l = ltb-true a b e in
        let q = g.same a l in
        (a, record { inside = f.inside; same = λ m u. f.same m u ∙ g.same m (omega arith); less = omega (arith, f.less) })
    by_places false e true h =
        let l = ltb-true b a h in
        let q = f.same b l in
        (b, record { inside = g.inside; same = λ m u. f.same m (omega arith) ∙ g.same m u; less = omega (arith, g.less) })
    by_places false e false h =
        let k = ltb-false a b e in
        let l = ltb-false b a h in
        let q : b ≡ a = omega arith in
        let v = subst (FirstLess y z) q g in
        (a, record { inside = f.inside; same = λ m u. f.same m u ∙ v.same m u; less = omega (arith, f.less, v.less) })

pub below_differs : (x y : List ℕ) → Below x y → Same x y → ⊥
below_differs x y (k, f) s = let e = s.byte k f.inside in omega (arith, f.less)

-- THE ORDER

first_at : (x y : List ℕ) (k : ℕ) → k < cdhash_length → ((m : ℕ) → m < k → get_or x m 0 ≡ get_or y m 0) → (get_or x k 0 ≡ get_or y k 0 → ⊥) → first_differing x y ≡ k
unfolding first_differing
first_at x y k l s d = first_fails (differs_at x y) cdhash_length k l s d

order_same : (x y : List ℕ) → Same x y → equal ≡ order x y
unfolding order first_differing
order_same x y s = pick_yes _ _ _ _ (none_fails (differs_at x y) cdhash_length s.byte) refl

pub order_below : (x y : List ℕ) → Below x y → below ≡ order x y
unfolding order
order_below x y (k, f) =
    let e = first_at x y k f.inside f.same (λ q. omega (arith, f.less)) in
    pick_no _ _ _ _ (omega (arith, f.inside)) (pick_yes _ _ _ _ (rw e f.less) refl)

pub order_above : (x y : List ℕ) → Below y x → above ≡ order x y
unfolding order
order_above x y (k, f) =
    let e = first_at x y k f.inside (λ m l. sym (f.same m l)) (λ q. omega (arith, f.less)) in
    let l : get_or y k 0 ≤ get_or x k 0 = omega (arith, f.less) in
    pick_no _ _ _ _ (omega (arith, f.inside)) (pick_no _ _ _ _ (rw e l) refl)

module _ (x y : List ℕ) where
  same_before : (m : ℕ) → m < first_differing x y → get_or x m 0 ≡ get_or y m 0
  unfolding first_differing
  same_before m l = said false (differs_at x y m) (lowest_before (differs_at x y) cdhash_length m l)

  differs_there : first_differing x y < cdhash_length → get_or x (first_differing x y) 0 ≡ get_or y (first_differing x y) 0 → ⊥
  unfolding first_differing
  differs_there l = said true (differs_at x y (lowest (differs_at x y) cdhash_length)) (lowest_fails (differs_at x y) cdhash_length l)

  -- one of the three
  stand : Below x y ⊎ (Same x y ⊎ Below y x)
  stand =
      by_test (ltb (first_differing x y) cdhash_length) refl
      (ltb (get_or x (first_differing x y) 0) (get_or y (first_differing x y) 0)) refl
    where
      by_test : (s : Bool) → ltb (first_differing x y) cdhash_length ≡ s
          → (t : Bool) → ltb (get_or x (first_differing x y) 0) (get_or y (first_differing x y) 0) ≡ t → Below x y ⊎ (Same x y ⊎ Below y x)
      by_test true e true h =
          inl (first_differing x y, record { inside = ltb-true _ _ e; same = same_before; less = ltb-true _ _ h })
      by_test true e false h =
          let l = ltb-true (first_differing x y) cdhash_length e in
          let d = differs_there l in
          let g = ltb-false (get_or x (first_differing x y) 0) (get_or y (first_differing x y) 0) h in
          inr (inr (first_differing x y, record { inside = l; same = λ m u. sym (same_before m u); less = omega arith }))
      by_test false e t h =
          let l = ltb-false (first_differing x y) cdhash_length e in
          inr (inl (record { byte = λ m u. same_before m (omega arith) }))

-- what a comparison's result says
pub record Ordered (x y : List ℕ) (r : ℕ) : Type 0 where
  pub if_below : r ≡ below → Below x y
  pub if_equal : r ≡ equal → Same x y
  pub if_above : r ≡ above → Below y x
  pub small : r ≤ above

pub ordered : (x y : List ℕ) (r : ℕ) → r ≡ order x y → Ordered x y r
ordered x y r e = by_stand (stand x y)
  where
    by_stand : Below x y ⊎ (Same x y ⊎ Below y x) → Ordered x y r
    by_stand (inl b) =
        let o = order_below x y b in
        record { if_below = λ q. b; if_equal = λ q. absurd (omega arith); if_above = λ q. absurd (omega arith); small = omega arith }
    by_stand (inr (inl s)) =
        let o = order_same x y s in
        record { if_below = λ q. absurd (omega arith); if_equal = λ q. s; if_above = λ q. absurd (omega arith); small = omega arith }
    by_stand (inr (inr b)) =
        let o = order_above x y b in
        record { if_below = λ q. absurd (omega arith); if_equal = λ q. absurd (omega arith); if_above = λ q. b; small = omega arith }

-- two hashes of 20 bytes each that are equal are the same bytes
pub equal_bytes : (x y : List ℕ) → length x ≡ cdhash_length → length y ≡ cdhash_length → order x y ≡ equal → x ≡ y
equal_bytes x y n m e = ext_get_or 0 x y (n ∙ sym m) (λ k l. ((ordered x y equal (sym e)).if_equal refl).byte k (omega arith))

-- and a hash is equal to itself
pub bytes_equal : (x y : List ℕ) → x ≡ y → order x y ≡ equal
bytes_equal x y e = sym (order_same x y (record { byte = λ m l. ap (λ (b : List ℕ). get_or b m 0) e }))

pub order_plainly : OrderPlainly
order_plainly =
    record {
      is_below = λ x y. ((λ e. (ordered x y below (sym e)).if_below refl), λ b. sym (order_below x y b));
      is_above = λ x y. ((λ e. (ordered x y above (sym e)).if_above refl), λ b. sym (order_above x y b));
      is_equal = λ x y n m. (equal_bytes x y n m, bytes_equal x y);
    }

-- A COMPARISON of two hashes that has found the first i bytes the same

pub compare_none : (x y : List ℕ) → SameTo 0 x y
compare_none x y = record { byte = λ m l. absurd (omega arith) }

pub same_back : (x y : List ℕ) (i : ℕ) → SameTo i x y → SameTo i y x
same_back x y i s = record { byte = λ m l. sym (s.byte m l) }

-- the next byte is the same too
pub same_more : (x y : List ℕ) (i : ℕ) → SameTo i x y → get_or x i 0 ≡ get_or y i 0 → SameTo (i + 1) x y
same_more x y i s h =
    record {
      byte =
          λ m l.
          ⊎_elim (λ e. subst (λ (k : ℕ). get_or x k 0 ≡ get_or y k 0) (sym e) h) (s.byte m)
          (eq-or-lt_of_le (let u : m ≤ i = omega arith in u));
    }

-- the next byte is smaller
pub less_at : (x y : List ℕ) (i : ℕ) → SameTo i x y → i < cdhash_length → get_or x i 0 < get_or y i 0 → Below x y
less_at x y i s l h = (i, record { inside = l; same = s.byte; less = h })

-- .. and reads the next byte of each
module _ (x y : List ℕ) (i a b : ℕ) (s : SameTo i x y) (p : a ≡ get_or x (0 + i) 0) (q : b ≡ get_or y (0 + i) 0) where
  left : a ≡ get_or x i 0
  left = p ∙ ap (λ (k : ℕ). get_or x k 0) (zero-add i)

  right : b ≡ get_or y i 0
  right = q ∙ ap (λ (k : ℕ). get_or y k 0) (zero-add i)

  pub compare_below : i < cdhash_length → a < b → below ≡ order x y
  compare_below l h = order_below x y (less_at x y i s l (omega (arith, left, right)))

  pub compare_above : i < cdhash_length → b < a → above ≡ order x y
  compare_above l h = order_above x y (less_at y x i (same_back x y i s) l (omega (arith, left, right)))

  pub compare_more : a ≡ b → SameTo (i + 1) x y
  compare_more h = same_more x y i s (sym left ∙ h ∙ right)

  -- .. by one comparison of the two
  pub compare_stops : i < cdhash_length → (o : Ordering) → o ≡ nat_cmp a b → is_ne o ≡ true → order_number o ≡ order x y
  compare_stops l Less e n = compare_below l (ranked a b Less e)
  compare_stops l Equal e n = absurd (false≢true n)
  compare_stops l Greater e n = compare_above l (ranked a b Greater e)

  pub compare_goes : (o : Ordering) → o ≡ nat_cmp a b → is_ne o ≡ false → SameTo (i + 1) x y
  compare_goes Less e n = absurd (true≢false n)
  compare_goes Equal e n = compare_more (ranked a b Equal e)
  compare_goes Greater e n = absurd (true≢false n)

pub compare_equal : (x y : List ℕ) (i : ℕ) → i ≡ cdhash_length → SameTo i x y → equal ≡ order x y
compare_equal x y i n s = order_same x y (subst (λ (k : ℕ). SameTo k x y) n s)

-- THE ORDER TEST of entry i

pub first_is_above : (c : List ℕ) (i : ℕ) → i ≡ 0 → false ≡ holds (not_above c i)
unfolding not_above
first_is_above c i e = says false (not_above c i) (λ z. absurd (omega arith))

-- what a comparison says of the hashes that it is lent it says of the entries
pub compared : (c x y : List ℕ) (i j r : ℕ) → x ≡ hash_at c i → y ≡ hash_at c j → r ≡ order x y → r ≡ order (hash_at c i) (hash_at c j)
compared c x y i j r e f o = o ∙ ap (λ (l : List ℕ). order l y) e ∙ ap (order (hash_at c i)) f

module _ (c : List ℕ) (i r : ℕ) (o : r ≡ order (hash_at c i) (hash_at c (i - 1))) where
  pub is_above : r ≡ above → false ≡ holds (not_above c i)
  unfolding not_above
  is_above q = says false (not_above c i) (λ z. sym o ∙ q)

  pub is_not_above : (i ≡ 0 → ⊥) → (r ≡ above → ⊥) → true ≡ holds (not_above c i)
  unfolding not_above
  is_not_above n q = says true (not_above c i) (omega arith, λ z. q (o ∙ z))

pub not_above_is : (c : List ℕ) (i : ℕ) (o : Ordering) → order_number o ≡ order (hash_at c i) (hash_at c (i - 1)) → (i ≡ 0 → ⊥) → is_le o ≡ holds (not_above c i)
unfolding not_above
not_above_is c i Less e n = says true (not_above c i) (omega arith, λ z. omega (arith, e, z))
not_above_is c i Equal e n = says true (not_above c i) (omega arith, λ z. omega (arith, e, z))
not_above_is c i Greater e n = says false (not_above c i) (λ z. sym e)
