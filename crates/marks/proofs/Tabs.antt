-- Laws of `tab`: numbers in a row.
use Prim.Native.Nat.{ℕ, zero, suc, ◌+◌, ◌-◌, ◌≤◌, ◌<◌}
use mathlib.Core.Path.{◌≡◌, refl, sym, ap, subst, ◌∙◌}
use mathlib.Core.List.{List, [], ◌∷◌, ◌++◌, append_assoc, append-nil}
use native.Mathlib.Nat.{add-zero, zero-add, suc-add, not-suc-le-zero, le_of_suc-le-suc, add-sub_of_le}
use native.Mathlib.Numerals.{add-one}
use native.Mathlib.Omega.{arith}
use lib.ListN.{length, get_or, take, drop, set}
use borrow.Rule.Slice.PartMut.{put_mid}
use lib.Seq.{drop-drop, drop-cons, set_at, drop-length, take_at, drop_at}
use Rattle.marks.specs.Marks.{tab}

pub tab_length : (i n : ℕ) (f : ℕ → ℕ) → length (tab i n f) ≡ n
unfolding tab
tab_length i zero f = refl
tab_length i (suc n) f = ap suc (tab_length (suc i) n f)

pub tab_at : (i n : ℕ) (f : ℕ → ℕ) (k d : ℕ) → k < n → get_or (tab i n f) k d ≡ f (i + k)
unfolding tab
tab_at i zero f k d h = absurd (not-suc-le-zero h)
tab_at i (suc n) f zero d h = rw add-zero
tab_at i (suc n) f (suc k) d h = tab_at (suc i) n f k d (le_of_suc-le-suc h) ∙ ap f (omega arith)

tab_join : (i n m : ℕ) (f : ℕ → ℕ) → tab i (n + m) f ≡ tab i n f ++ tab (i + n) m f
unfolding tab
tab_join i zero m f = rw (zero-add, add-zero)
tab_join i (suc n) m f =
    rw (suc-add n m)
    (ap {B = List ℕ} (λ (l : List ℕ). f i ∷ l) (tab_join (suc i) n m f ∙ ap (λ (k : ℕ). tab (suc i) n f ++ tab k m f) (omega arith)))

pub tab_same : (i n : ℕ) (f g : ℕ → ℕ) → ((k : ℕ) → i ≤ k → k < i + n → f k ≡ g k) → tab i n f ≡ tab i n g
unfolding tab
tab_same i zero f g h = refl
tab_same i (suc n) f g h =
    let q : f i ≡ g i = h i (omega arith) (omega arith) in
    let t : tab (suc i) n f ≡ tab (suc i) n g = tab_same (suc i) n f g (λ k l u. h k (omega arith) (omega arith)) in
    cc

tab_take : (i n m : ℕ) (f : ℕ → ℕ) → n ≤ m → take n (tab i m f) ≡ tab i n f
tab_take i n m f h =
    let q : n + (m - n) ≡ m = add-sub_of_le h in
    subst (λ (k : ℕ). take n (tab i k f) ≡ tab i n f) q
    (ap (take n) (tab_join i n (m - n) f) ∙ take_at (tab i n f) (tab (i + n) (m - n) f) n (tab_length i n f))

tab_drop : (i n m : ℕ) (f : ℕ → ℕ) → n ≤ m → drop n (tab i m f) ≡ tab (i + n) (m - n) f
tab_drop i n m f h =
    let q : n + (m - n) ≡ m = add-sub_of_le h in
    subst (λ (k : ℕ). drop n (tab i k f) ≡ tab (i + n) (m - n) f) q
    (ap (drop n) (tab_join i n (m - n) f) ∙ drop_at (tab i n f) (tab (i + n) (m - n) f) n (tab_length i n f))

-- the numbers at first to before end put in anew
pub tab_splice : (n first end : ℕ) (f g h : ℕ → ℕ) → first ≤ end → end ≤ n
    → ((k : ℕ) → k < first → f k ≡ g k) → ((k : ℕ) → first ≤ k → k < end → h k ≡ g k) → ((k : ℕ) → end ≤ k → k < n → f k ≡ g k)
    → take first (tab 0 n f) ++ tab first (end - first) h ++ drop end (tab 0 n f) ≡ tab 0 n g
tab_splice n first end f g h u v before inside after =
    let a : take first (tab 0 n f) ≡ tab 0 first g =
    tab_take 0 first n f (omega arith) ∙ tab_same 0 first f g (λ k l m. before k (omega arith)) in
    let b : tab first (end - first) h ≡ tab first (end - first) g = tab_same first (end - first) h g (λ k l m. inside k l (omega arith)) in
    let d : drop end (tab 0 n f) ≡ tab (0 + end) (n - end) g =
    tab_drop 0 end n f v ∙ tab_same (0 + end) (n - end) f g (λ k l m. after k (omega arith) (omega arith)) in
    let x : first + (end - first) ≡ end = omega arith in
    let y : end + (n - end) ≡ n = omega arith in
    let j : tab 0 end g ≡ tab 0 first g ++ tab first (end - first) g =
    subst (λ (k : ℕ). tab 0 k g ≡ tab 0 first g ++ tab first (end - first) g) x
    (tab_join 0 first (end - first) g ∙ ap (λ (k : ℕ). tab 0 first g ++ tab k (end - first) g) (zero-add first)) in
    let w : tab 0 n g ≡ tab 0 end g ++ tab (0 + end) (n - end) g =
    subst (λ (k : ℕ). tab 0 k g ≡ tab 0 end g ++ tab (0 + end) (n - end) g) y (tab_join 0 end (n - end) g) in
    cc

-- A LIST FILLED FROM THE FRONT WITH f'S NUMBERS, one store a turn

pub tab_none : (first : ℕ) (f : ℕ → ℕ) (l : List ℕ) → l ≡ tab first 0 f ++ drop 0 l
unfolding tab
tab_none first f l = refl

tab_one : (k : ℕ) (f : ℕ → ℕ) (l m : List ℕ) → l ++ f k ∷ m ≡ l ++ (tab k 1 f ++ m)
unfolding tab
tab_one k f l m = refl

pub tab_more : (first i : ℕ) (f : ℕ → ℕ) (l : List ℕ) (v : ℕ) → i < length l → v ≡ f (first + i)
    → set (tab first i f ++ drop i l) i v ≡ tab first (i + 1) f ++ drop (i + 1) l
tab_more first i f l v h e =
    let a : drop i l ≡ get_or l i 0 ∷ drop (i + 1) l = rw (add-one) (drop-cons l i 0 h) in
    rw (a, set_at (tab first i f) (get_or l i 0) (drop (i + 1) l) v i (tab_length first i f), tab_join first i 1 f, e, append_assoc) (tab_one (first + i) f (tab first i f) (drop (i + 1) l))

-- four stores a turn
module _ (first i : ℕ) (f : ℕ → ℕ) (l : List ℕ) where
  next : (j k v : ℕ) → k ≡ j + 1 → j < length l → v ≡ f (first + j) → set (tab first j f ++ drop j l) j v ≡ tab first k f ++ drop k l
  next j k v e h q = rw e (tab_more first j f l v h q)

  pub tab_more_four : (m : List ℕ) → m ≡ tab first i f ++ drop i l → i + 3 < length l → {a b c d : ℕ}
      → a ≡ f (first + i) → b ≡ f (first + (i + 1)) → c ≡ f (first + (i + 2)) → d ≡ f (first + (i + 3))
      → set (set (set (set m i a) (i + 1) b) (i + 2) c) (i + 3) d ≡ tab first (i + 4) f ++ drop (i + 4) l
  tab_more_four m e h {a} {b} {c} {d} ea eb ec ed =
      rw (e, next i (i + 1) a (omega arith) (omega arith) ea, next (i + 1) (i + 2) b (omega arith) (omega arith) eb, next (i + 2) (i + 3) c (omega arith) (omega arith) ec)
      (next (i + 3) (i + 4) d (omega arith) (omega arith) ed)

-- n numbers a turn, from i to j
pub tab_put : (first i j n k : ℕ) (f : ℕ → ℕ) (l m v : List ℕ) → m ≡ tab first i f ++ drop i l → v ≡ tab (first + i) n f → i + n ≡ j → k ≡ n
    → put_mid i k m v ≡ tab first j f ++ drop j l
tab_put first i j n k f l m v d e q r =
    rw (d, e, r, ← q, take_at (tab first i f) (drop i l) i (tab_length first i f), drop_at (tab first i f) (drop i l) i (tab_length first i f), drop-drop n i l, tab_join first i n f)
    (sym (append_assoc (tab first i f) _ _))

-- four numbers in a row
pub tab_four : (n : ℕ) (f : ℕ → ℕ) {a b c d : ℕ} → a ≡ f n → b ≡ f (n + 1) → c ≡ f (n + 2) → d ≡ f (n + 3) → a ∷ b ∷ c ∷ d ∷ [] ≡ tab n 4 f
unfolding tab
tab_four n f ea eb ec ed =
    let x : n + 1 ≡ suc n = omega arith in
    let y : n + 2 ≡ suc (suc n) = omega arith in
    let z : n + 3 ≡ suc (suc (suc n)) = omega arith in
    rw (ea, eb, ec, ed, x, y, z) refl

pub four_at : (first i : ℕ) (f : ℕ → ℕ) (four : List ℕ) (k j : ℕ) → k < 4 → j ≡ i + k → four ≡ tab (first + i) 4 f → get_or four k 0 ≡ f (first + j)
four_at first i f four k j h u e = rw e (tab_at (first + i) 4 f k 0 h ∙ ap f (omega arith))

-- a list that was filled so far, as who goes on finds it
pub tab_kept : (first i : ℕ) (f : ℕ → ℕ) (l m : List ℕ) → l ≡ tab first i f ++ drop i m → l ≡ tab first i f ++ drop i l
tab_kept first i f l m e =
    let k : drop i l ≡ drop i m = rw e (drop_at (tab first i f) (drop i m) i (tab_length first i f)) in
    rw k e

pub tab_all : (first i : ℕ) (f : ℕ → ℕ) (l : List ℕ) (n : ℕ) → i ≡ length l → length l ≡ n → tab first i f ++ drop i l ≡ tab first n f
tab_all first i f l n e q = rw (e, drop-length, append-nil, q)
