-- The search for a hash among increasing entries: the entry that has it, if there is one, is never left out.
use Prim.Native.Nat.{ℕ, ◌+◌, ◌-◌, ◌/◌, ◌<◌, ◌≤◌}
use mathlib.Core.Bool.{Bool, true, false}
use mathlib.Core.List.{List}
use mathlib.Core.Logic.{⊎_elim}
use mathlib.Core.Path.{◌≡◌, refl, sym, ap, ◌∙◌}
use native.Mathlib.Nat.{eq-or-lt_of_le}
use native.Mathlib.Omega.{arith}
use lib.Dec.{ltb}
use borrow.Author.Tests.{ltb-true, ltb-false}
use Rattle.layout.specs.TrustCache.{entry_count, hash_at}
use Rattle.refusals.specs.Refusals.{lowest}
use Rattle.refusals.proofs.Conditions.{said}
use Rattle.refusals.proofs.Positions.{lowest_fails, none_fails, first_fails}
use Rattle.trustcache.specs.Order.{below, equal, above, order, Below}
use Rattle.trustcache.specs.Rows.{has_hash, entry_of}
use Rattle.trustcache.specs.Lookup.{EntryFound}
use Rattle.trustcache.specs.Rules.{CacheFormed}
use Rattle.trustcache.proofs.Order.{Same, Ordered, below_trans, below_differs, ordered}
use Rattle.trustcache.proofs.Form.{cache_formed}

-- THE ENTRY

-- the entry found has the hash
pub entry_has : (c h : List ℕ) → entry_of c h < entry_count c → order (hash_at c (entry_of c h)) h ≡ equal
unfolding entry_of has_hash
entry_has c h l = said true (has_hash c h (lowest (has_hash c h) (entry_count c))) (lowest_fails (has_hash c h) (entry_count c) l)

-- it then has all its bytes
has_bytes : (x h : List ℕ) → order x h ≡ equal → Same x h
has_bytes x h e = (ordered x h equal (sym e)).if_equal refl

-- in a well-formed cache the entry that has the hash is the one found
pub entry_at : (c h : List ℕ) (i : ℕ) → CacheFormed c → i < entry_count c → order (hash_at c i) h ≡ equal → i ≡ entry_of c h
unfolding entry_of has_hash
entry_at c h i f l e =
    sym (first_fails (has_hash c h) (entry_count c) i l (λ k u q.
    below_differs (hash_at c k) (hash_at c i) (f.increasing k i u l)
    (record { byte = λ m v. (has_bytes (hash_at c k) h q).byte m v ∙ sym ((has_bytes (hash_at c i) h e).byte m v) })) e)

-- THE LOOP: what is left is the entries from `low` to before `high`; those below `low` have smaller hashes, and those from `high` on greater ones
pub record Searching (c h : List ℕ) (low high : ℕ) : Type 0 where
  pub ordered : low ≤ high
  pub inside : high ≤ entry_count c
  pub left : CacheFormed c → (k : ℕ) → k < low → Below (hash_at c k) h
  pub right : CacheFormed c → (k : ℕ) → high ≤ k → k < entry_count c → Below h (hash_at c k)

abbrev middle : ℕ → ℕ → ℕ
middle low high = low + (high - low) / 2

pub search_all : (c h : List ℕ) (n : ℕ) → n ≡ entry_count c → Searching c h 0 n
search_all c h n e =
    record {
      ordered = omega arith;
      inside = omega arith;
      left = λ f k l. absurd (omega arith);
      right = λ f k u l. absurd (omega arith);
    }

module _ (c h : List ℕ) (low high : ℕ) (s : Searching c h low high) (l : low < high) where
  abbrev mid : ℕ
  mid = middle low high

  -- its entry's hash, as the code lends it, and how that stands to h
  module _ (x : List ℕ) (r : ℕ) (e : x ≡ hash_at c mid) (o : r ≡ order x h) where
    compared : r ≡ order (hash_at c mid) h
    compared = o ∙ ap (λ (l : List ℕ). order l h) e

    stands : Ordered (hash_at c mid) h r
    stands = ordered (hash_at c mid) h r compared

    pub search_below : r ≡ below → Searching c h (mid + 1) high
    search_below q =
        let b = stands.if_below q in
        record {
          ordered = omega arith;
          inside = s.inside;
          left =
              λ f k u.
              ⊎_elim (λ p. rw p b) (λ v. below_trans (hash_at c k) (hash_at c mid) h (f.increasing k mid v (omega (arith, s.inside))) b)
              (eq-or-lt_of_le (let w : k ≤ mid = omega arith in w));
          right = s.right;
        }

    pub search_above : r ≡ above → Searching c h low mid
    search_above q =
        let b = stands.if_above q in
        record {
          ordered = omega arith;
          inside = omega (arith, s.inside);
          left = s.left;
          right =
              λ f k u v.
              ⊎_elim (λ p. rw (← p) b) (λ w. below_trans h (hash_at c mid) (hash_at c k) b (f.increasing mid k w v)) (eq-or-lt_of_le u);
        }

    pub search_else : (r ≡ equal → ⊥) → (r ≡ below → ⊥) → Searching c h low mid
    search_else n q = search_above (omega (arith, stands.small))

    pub search_found : r ≡ equal → EntryFound c h mid
    search_found q =
        let b : mid < entry_count c = omega (arith, s.inside) in
        record { found = λ p. entry_at c h mid (cache_formed c p) b (sym compared ∙ q); within = omega arith }

-- nothing is left
no_entry : (c h : List ℕ) (low high : ℕ) → Searching c h low high → high ≤ low → CacheFormed c → entry_count c ≡ entry_of c h
unfolding entry_of has_hash
no_entry c h low high s u f = sym (none_fails (has_hash c h) (entry_count c) (λ k l q. by_side k l q (ltb k low) refl))
  where
    by_side : (k : ℕ) → k < entry_count c → order (hash_at c k) h ≡ equal → (t : Bool) → ltb k low ≡ t → ⊥
    by_side k l q true e = below_differs (hash_at c k) h (s.left f k (ltb-true k low e)) (has_bytes (hash_at c k) h q)
    by_side k l q false e =
        let g = ltb-false k low e in
        below_differs h (hash_at c k) (s.right f k (omega arith) l) (record { byte = λ m v. sym ((has_bytes (hash_at c k) h q).byte m v) })

pub search_none : (c h : List ℕ) (n low high : ℕ) → Searching c h low high → high ≤ low → n ≡ entry_count c → EntryFound c h n
search_none c h n low high s u e =
    record { found = λ p. e ∙ no_entry c h low high s u (cache_formed c p); within = omega arith }
