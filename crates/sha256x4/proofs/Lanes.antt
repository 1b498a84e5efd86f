-- Laws of words that stand side by side: a word of a message, and four words written in a row, one for each message. Assumes nothing.
use Prim.Native.Nat.{ℕ, zero, suc, ◌+◌, ◌-◌, ◌*◌, ◌<◌}
use mathlib.Core.Path.{◌≡◌, refl, sym, ap, ◌∙◌}
use mathlib.Core.List.{List, [], ◌∷◌, ◌++◌, append-nil}
use mathlib.Core.Bool.{Bool, true, false}
use mathlib.Core.Logic.{⊎_elim}
use native.Mathlib.Nat.{add-zero, zero-add, eq-or-lt_of_le}
use native.Mathlib.Numerals.{add-one}
use native.Mathlib.Omega.{arith}
use lib.Dec.{eqb}
use borrow.Author.Tests.{eqb-true, eqb-false}
use lib.ListN.{length, get_or, take, set, replicate, length-append, length-set, get_or-append}
use lib.Seq.{take_all, ext_get_or, get_or_at, get_or-set_same, get_or-set_other}
use Rattle.sha.specs.Words.{plus, sums}
use Rattle.sha.proofs.Blocks.{copy_more}
use Rattle.sha256x4.specs.Lanes.{lane, Four}

-- lists that grow by one element at their end: their length, and their elements
module _ (f : ℕ → List ℕ) (x : ℕ → ℕ) (none : f 0 ≡ []) (more : (n : ℕ) → f (suc n) ≡ f n ++ (x n ∷ [])) where
  length_grows : (n : ℕ) → length (f n) ≡ n
  length_grows zero = ap (λ (l : List ℕ). length l) none
  length_grows (suc n) = ap (λ (l : List ℕ). length l) (more n) ∙ length-append (f n) (x n ∷ []) ∙ ap (λ (k : ℕ). k + 1) (length_grows n) ∙ omega arith

  get_or_grows : (n k : ℕ) → k < n → get_or (f n) k 0 ≡ x k
  get_or_grows zero k h = absurd (omega arith)
  get_or_grows (suc n) k h =
      ap (λ (l : List ℕ). get_or l k 0) (more n)
      ∙ ⊎_elim
      (λ (e : k ≡ n). get_or_at (f n) (x n) [] 0 k (length_grows n ∙ sym e) ∙ ap x (sym e))
      (λ (l : k < n). get_or-append (f n) (x n ∷ []) 0 k (omega (arith, length_grows n)) ∙ get_or_grows n k l)
      (eq-or-lt_of_le {n = k} {m = n} (omega arith))

pub length_lane : (n j : ℕ) (xs : List ℕ) → length (lane n j xs) ≡ n
unfolding lane
length_lane n j xs = length_grows (λ m. lane m j xs) (λ k. get_or xs (4 * k + j) 0) refl (λ m. refl) n

pub get_or_lane : (n j : ℕ) (xs : List ℕ) (k : ℕ) → k < n → get_or (lane n j xs) k 0 ≡ get_or xs (4 * k + j) 0
unfolding lane
get_or_lane n j xs k h = get_or_grows (λ m. lane m j xs) (λ i. get_or xs (4 * i + j) 0) refl (λ m. refl) n k h

pub length_sums : (w n : ℕ) (h s : List ℕ) → length (sums w n h s) ≡ n
unfolding sums
length_sums w n h s = length_grows (λ m. sums w m h s) (λ k. plus w (get_or h k 0) (get_or s k 0)) refl (λ m. refl) n

pub get_or_sums : (w n : ℕ) (h s : List ℕ) (k : ℕ) → k < n → get_or (sums w n h s) k 0 ≡ plus w (get_or h k 0) (get_or s k 0)
unfolding sums
get_or_sums w n h s k l = get_or_grows (λ m. sums w m h s) (λ i. plus w (get_or h i 0) (get_or s i 0)) refl (λ m. refl) n k l

pub lane_same : (n j : ℕ) (z w : List ℕ) → ((k : ℕ) → k < n → get_or z (4 * k + j) 0 ≡ get_or w (4 * k + j) 0) → lane n j z ≡ lane n j w
unfolding lane
lane_same zero j z w h = refl
lane_same (suc n) j z w h =
    let e = lane_same n j z w (λ k l. h k (omega arith)) in
    let f = h n (omega arith) in
    cc

lane_next : (n j : ℕ) (xs : List ℕ) → lane (n + 1) j xs ≡ lane n j xs ++ (get_or xs (4 * n + j) 0 ∷ [])
unfolding lane
lane_next n j xs = ap (λ (m : ℕ). lane m j xs) (add-one n)

-- what holds of each message and its word
abbrev Four4 : (ℕ → ℕ → Type 0) → ℕ → ℕ → ℕ → ℕ → Type 0
Four4 p a b c d = p 0 a × p 1 b × p 2 c × p 3 d

-- one word of a message written, as its words see it
lane_set : (n j i v : ℕ) (z w : List ℕ) → i < n → get_or z (4 * i + j) 0 ≡ v
    → ((k : ℕ) → k < n → (k ≡ i → ⊥) → get_or z (4 * k + j) 0 ≡ get_or w (4 * k + j) 0) → lane n j z ≡ set (lane n j w) i v
lane_set n j i v z w h e f =
    ext_get_or 0 (lane n j z) (set (lane n j w) i v) (length_lane n j z ∙ sym (length-set (lane n j w) i v ∙ length_lane n j w))
    (λ k l. at k (omega (arith, length_lane n j z)) (eqb k i) refl)
  where
    at : (k : ℕ) → k < n → (b : Bool) → eqb k i ≡ b → get_or (lane n j z) k 0 ≡ get_or (set (lane n j w) i v) k 0
    at k l true q =
        let same : k ≡ i = eqb-true k i q in
        get_or_lane n j z k l ∙ ap (λ (m : ℕ). get_or z (4 * m + j) 0) same ∙ e
        ∙ sym (ap (λ (m : ℕ). get_or (set (lane n j w) i v) m 0) same ∙ get_or-set_same (lane n j w) i v 0 (omega (arith, length_lane n j w)))
    at k l false q =
        let other : k ≡ i → ⊥ = eqb-false k i q in
        get_or_lane n j z k l ∙ f k l other ∙ sym (get_or-set_other (lane n j w) i k v 0 other ∙ get_or_lane n j w k l)

-- FOUR WORDS WRITTEN IN A ROW, from place o on

abbrev pub put : List ℕ → ℕ → ℕ → ℕ → ℕ → ℕ → List ℕ
put w o a b c d = set (set (set (set w o a) (o + 1) b) (o + 2) c) (o + 3) d

module _ (w : List ℕ) (o a b c d : ℕ) where
  put_other : (p : ℕ) → (p ≡ o → ⊥) → (p ≡ o + 1 → ⊥) → (p ≡ o + 2 → ⊥) → (p ≡ o + 3 → ⊥) → get_or (put w o a b c d) p 0 ≡ get_or w p 0
  put_other p na nb nc nd =
      get_or-set_other (set (set (set w o a) (o + 1) b) (o + 2) c) (o + 3) p d 0 nd
      ∙ get_or-set_other (set (set w o a) (o + 1) b) (o + 2) p c 0 nc
      ∙ get_or-set_other (set w o a) (o + 1) p b 0 nb
      ∙ get_or-set_other w o p a 0 na

  put_a : o + 3 < length w → get_or (put w o a b c d) (o + 0) 0 ≡ a
  put_a h =
      ap (λ (p : ℕ). get_or (put w o a b c d) p 0) (add-zero o)
      ∙ get_or-set_other (set (set (set w o a) (o + 1) b) (o + 2) c) (o + 3) o d 0 (λ p. omega arith)
      ∙ get_or-set_other (set (set w o a) (o + 1) b) (o + 2) o c 0 (λ p. omega arith)
      ∙ get_or-set_other (set w o a) (o + 1) o b 0 (λ p. omega arith)
      ∙ get_or-set_same w o a 0 (omega arith)

  put_b : o + 3 < length w → get_or (put w o a b c d) (o + 1) 0 ≡ b
  put_b h =
      get_or-set_other (set (set (set w o a) (o + 1) b) (o + 2) c) (o + 3) (o + 1) d 0 (λ p. omega arith)
      ∙ get_or-set_other (set (set w o a) (o + 1) b) (o + 2) (o + 1) c 0 (λ p. omega arith)
      ∙ get_or-set_same (set w o a) (o + 1) b 0 (omega (arith, length-set w o a))

  put_c : o + 3 < length w → get_or (put w o a b c d) (o + 2) 0 ≡ c
  put_c h =
      get_or-set_other (set (set (set w o a) (o + 1) b) (o + 2) c) (o + 3) (o + 2) d 0 (λ p. omega arith)
      ∙ get_or-set_same (set (set w o a) (o + 1) b) (o + 2) c 0 (omega (arith, length-set w o a, length-set (set w o a) (o + 1) b))

  put_d : o + 3 < length w → get_or (put w o a b c d) (o + 3) 0 ≡ d
  put_d h =
      get_or-set_same (set (set (set w o a) (o + 1) b) (o + 2) c) (o + 3) d 0
      (omega (arith, length-set w o a, length-set (set w o a) (o + 1) b, length-set (set (set w o a) (o + 1) b) (o + 2) c))

  pub length_put : length (put w o a b c d) ≡ length w
  length_put =
      length-set (set (set (set w o a) (o + 1) b) (o + 2) c) (o + 3) d
      ∙ length-set (set (set w o a) (o + 1) b) (o + 2) c
      ∙ length-set (set w o a) (o + 1) b
      ∙ length-set w o a

-- the four words at place 4 * i on are word i of each message
module _ (n i a b c d : ℕ) (w : List ℕ) (h : i < n) (l : length w ≡ 4 * n) where
  other : (j k : ℕ) → j < 4 → (k ≡ i → ⊥) → get_or (put w (4 * i) a b c d) (4 * k + j) 0 ≡ get_or w (4 * k + j) 0
  other j k hj ne =
      put_other w (4 * i) a b c d (4 * k + j) (λ p. ne (omega arith)) (λ p. ne (omega arith)) (λ p. ne (omega arith)) (λ p. ne (omega arith))

  room : 4 * i + 3 < length w
  room = omega arith

  pub put_lanes : Four4 (λ j v. lane n j (put w (4 * i) a b c d) ≡ set (lane n j w) i v) a b c d
  put_lanes = (
    lane_set n 0 i a (put w (4 * i) a b c d) w h (put_a w (4 * i) a b c d room) (λ k u ne. other 0 k (omega arith) ne),
    lane_set n 1 i b (put w (4 * i) a b c d) w h (put_b w (4 * i) a b c d room) (λ k u ne. other 1 k (omega arith) ne),
    lane_set n 2 i c (put w (4 * i) a b c d) w h (put_c w (4 * i) a b c d room) (λ k u ne. other 2 k (omega arith) ne),
    lane_set n 3 i d (put w (4 * i) a b c d) w h (put_d w (4 * i) a b c d room) (λ k u ne. other 3 k (omega arith) ne),
  )

  -- the first i + 1 words of a message, where the first i are there
  pub put_more : Four4 (λ j v. lane (i + 1) j (put w (4 * i) a b c d) ≡ lane i j w ++ (v ∷ [])) a b c d
  put_more = (
    more 0 a (omega arith) (put_a w (4 * i) a b c d room),
    more 1 b (omega arith) (put_b w (4 * i) a b c d room),
    more 2 c (omega arith) (put_c w (4 * i) a b c d room),
    more 3 d (omega arith) (put_d w (4 * i) a b c d room),
  )
    where
      more : (j v : ℕ) → j < 4 → get_or (put w (4 * i) a b c d) (4 * i + j) 0 ≡ v → lane (i + 1) j (put w (4 * i) a b c d) ≡ lane i j w ++ (v ∷ [])
      more j v hj e =
          lane_next i j (put w (4 * i) a b c d)
          ∙ ap (λ (x : ℕ). lane i j (put w (4 * i) a b c d) ++ (x ∷ [])) e
          ∙ ap (λ (x : List ℕ). x ++ (v ∷ [])) (lane_same i j (put w (4 * i) a b c d) w (λ k u. other j k hj (λ p. omega arith)))

-- a message's words gathered
pub gathered : (j : ℕ) (v : List ℕ)
    → get_or v j 0 ∷ get_or v (4 + j) 0 ∷ get_or v (8 + j) 0 ∷ get_or v (12 + j) 0
    ∷ get_or v (16 + j) 0 ∷ get_or v (20 + j) 0 ∷ get_or v (24 + j) 0 ∷ get_or v (28 + j) 0 ∷ []
    ≡ lane 8 j v
unfolding lane
gathered j v = rw (zero-add j)

-- the closing sums, one after the other over zeros
pub sums_more : (h s r : List ℕ) (i v : ℕ) → i < 32 → r ≡ take i (sums 32 32 h s) ++ replicate (32 - i) 0 → v ≡ plus 32 (get_or h i 0) (get_or s i 0)
    → set r i v ≡ take (i + 1) (sums 32 32 h s) ++ replicate (32 - (i + 1)) 0
sums_more h s r i v l er ev =
    let e : v ≡ get_or (sums 32 32 h s) i 0 = ev ∙ sym (get_or_sums 32 32 h s i l) in
    rw (er, e) (copy_more (sums 32 32 h s) 32 i (omega (arith, length_sums 32 32 h s)) l)

pub sums_all : (h s r : List ℕ) (i : ℕ) → i ≡ 32 → r ≡ take i (sums 32 32 h s) ++ replicate (32 - i) 0 → r ≡ sums 32 32 h s
sums_all h s r i e er = (rw e at er) ∙ append-nil (take 32 (sums 32 32 h s)) ∙ take_all 32 (sums 32 32 h s) (omega (arith, length_sums 32 32 h s))

-- the closing sums of each message
pub lane_sums : (h s : List ℕ) → Four (λ j. lane 8 j (sums 32 32 h s) ≡ sums 32 8 (lane 8 j h) (lane 8 j s))
unfolding lane sums
lane_sums h s = (refl, refl, refl, refl)
