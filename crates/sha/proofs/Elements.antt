-- A list whose elements are given by an equation each: the closing sum, the words of a block, a part of a table. Assumes nothing.
use mathlib.Core.Path.{◌≡◌, refl, sym, ap, ◌∙◌}
use mathlib.Core.List.{List, [], ◌∷◌, ◌++◌, append-nil}
use Prim.Native.Nat.{ℕ, suc, ◌+◌, ◌*◌, ◌<◌, ◌≤◌}
use native.Mathlib.Nat.{add-zero, zero-add}
use native.Mathlib.Omega.{arith}
use lib.ListN.{length, get_or, take, drop, length-drop}
use lib.Seq.{append_snoc, take-suc, get_or-drop}
use Rattle.endian.specs.Numbers.{big}
use Rattle.sha.specs.Words.{plus, sums}
use Rattle.sha.specs.Message.{words}

-- the elements of r are those of x, from n on
abbrev pub Each : (ℕ → ℕ) → ℕ → List ℕ → Type 0
Each x n [] = Unit
Each x n (y ∷ r) = (y ≡ x n) × Each x (suc n) r

-- lists that grow by the elements of x at their end
module _ (f : ℕ → List ℕ) (x : ℕ → ℕ) where
  abbrev Grows : ℕ → Type 0
  Grows n = (i : ℕ) → i < n → f (suc i) ≡ f i ++ (x i ∷ [])

  joined : (n : ℕ) (r : List ℕ) → Grows (n + length r) → Each x n r → f n ++ r ≡ f (n + length r)
  joined n [] more a = append-nil (f n) ∙ ap f (sym (add-zero n))
  joined n (y ∷ r) more a =
      let e : suc n + length r ≡ n + suc (length r) = omega arith in
      sym (append_snoc (f n) y r)
      ∙ ap (λ (v : ℕ). f n ++ (v ∷ []) ++ r) a.0
      ∙ ap (λ (l : List ℕ). l ++ r) (sym (more n (omega arith)))
      ∙ joined (suc n) r (λ i h. more i (omega arith)) a.1
      ∙ ap f e

  each : (r : List ℕ) → f 0 ≡ [] → Grows (length r) → Each x 0 r → r ≡ f (length r)
  each r none more a =
      ap (λ (l : List ℕ). l ++ r) (sym none) ∙ joined 0 r (λ i h. more i (omega arith)) a ∙ ap f (zero-add (length r))

pub sums_of : (w : ℕ) (h s r : List ℕ) → Each (λ i. plus w (get_or h i 0) (get_or s i 0)) 0 r → r ≡ sums w (length r) h s
unfolding sums
sums_of w h s r a = each (λ n. sums w n h s) (λ i. plus w (get_or h i 0) (get_or s i 0)) r refl (λ i b. refl) a

pub words_of : (z : ℕ) (m : List ℕ) (j : ℕ) (r : List ℕ) → Each (λ i. big z m (j + z * i)) 0 r → r ≡ words z (length r) m j
unfolding words
words_of z m j r a = each (λ n. words z n m j) (λ i. big z m (j + z * i)) r refl (λ i b. refl) a

pub part_of : (l : List ℕ) (t : ℕ) (r : List ℕ) → t + length r ≤ length l → Each (λ i. get_or l (t + i) 0) 0 r → r ≡ take (length r) (drop t l)
part_of l t r h a =
    each (λ n. take n (drop t l)) (λ i. get_or l (t + i) 0) r refl
    (λ i b. take-suc (drop t l) i 0 (omega (arith, length-drop t l)) ∙ ap (λ (v : ℕ). take i (drop t l) ++ (v ∷ [])) (get_or-drop t l i 0)) a
