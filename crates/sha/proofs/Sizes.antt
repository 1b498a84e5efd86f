-- What follows from the two sizes that a word has. Assumes nothing.
use Rattle.std.proofs.Common.{◌≡◌, ℕ, ◌+◌, ◌-◌, ◌*◌, ◌/◌, ◌%◌, ◌<◌, ◌≤◌, List, ◌∷◌, ◌++◌, length, take, replicate, inl, inr, ⊎_elim, refl, sym, mod-lt, ap, ◌∙◌, arith}
use Rattle.endian.specs.Numbers.{bytes}
use Rattle.sha.specs.Message.{words, padding}
use Rattle.sha.specs.Hash.{Hash, chained}
use Rattle.sha.specs.Sizes.{Sizes}
use Rattle.sha.proofs.Padding.{one_block, two_blocks}

by_size : (P : ℕ → ℕ → ℕ → Type 0) → P 4 64 8 → P 8 128 16 → (z block width : ℕ) → Sizes z block width → P z block width
by_size P a b z block width s =
    ⊎_elim
    (λ (e : z ≡ 4).
    let eb : block ≡ 64 = s.sixteen ∙ ap (λ (x : ℕ). 16 * x) e in
    let ew : width ≡ 8 = s.two ∙ ap (λ (x : ℕ). 2 * x) e in
    rw (e, eb, ew) a)
    (λ (e : z ≡ 8).
    let eb : block ≡ 128 = s.sixteen ∙ ap (λ (x : ℕ). 16 * x) e in
    let ew : width ≡ 16 = s.two ∙ ap (λ (x : ℕ). 2 * x) e in
    rw (e, eb, ew) b)
    s.four_or_eight

pub positive : (z block width : ℕ) → Sizes z block width → 0 < z
positive = by_size (λ z block width. 0 < z) (omega arith) (omega arith)

-- after r bytes of the last block the bit 1 and the length end within it, or within the next one
within_one : (z block width : ℕ) → Sizes z block width → (r : ℕ) → block * ((r + width) / block + 1) ≡ block → r + 1 + 2 * z ≤ 16 * z
within_one =
    by_size (λ z block width. (r : ℕ) → block * ((r + width) / block + 1) ≡ block → r + 1 + 2 * z ≤ 16 * z) (λ r h. omega arith) (λ r h. omega arith)

abbrev Second : ℕ → ℕ → ℕ → Type 0
Second z block width =
    (r : ℕ) → r < 16 * z → (block * ((r + width) / block + 1) ≡ block → ⊥) → (16 * z < r + 1 + 2 * z) × (block * ((r + width) / block + 1) ≡ 32 * z)

within_two : (z block width : ℕ) → Sizes z block width → Second z block width
within_two = by_size Second (λ r h n. (omega arith, omega arith)) (λ r h n. (omega arith, omega arith))

-- the hash value of a message, from the steps that the code takes after its whole blocks
module _ (f : Hash) (block width : ℕ) (s : Sizes f.size block width) (h rest t : List ℕ) (n end : ℕ) (el : length rest ≡ n % (16 * f.size))
    (ee : end ≡ block * ((length rest + width) / block + 1))
    (et : take end t ≡ rest ++ (128 ∷ replicate (end - (1 + 2 * (width / 2)) - length rest) 0) ++ bytes (2 * (width / 2)) (8 * n)) where
  z : ℕ
  z = f.size

  tail : take end t ≡ rest ++ (128 ∷ replicate (end - (1 + 2 * z) - length rest) 0) ++ bytes (2 * z) (8 * n)
  unfolding z
  tail = let e : width / 2 ≡ f.size = omega (arith, s.two) in
      rw e at et

  pub finished_one : (v : List ℕ) → end ≡ block → v ≡ f.block h (words f.size 16 t 0) → v ≡ chained f h (rest ++ padding f.size n)
  unfolding z
  finished_one v e ev =
      one_block f (positive _ _ _ s) h rest t v n end el (within_one _ _ _ s (length rest) (sym ee ∙ e)) tail (e ∙ s.sixteen) ev

  pub finished_two : (u v : List ℕ) → (end ≡ block → ⊥) → u ≡ f.block h (words f.size 16 t 0) → v ≡ f.block u (words f.size 16 t block)
      → v ≡ chained f h (rest ++ padding f.size n)
  unfolding z
  finished_two u v e eu ev =
      let lt : length rest < 16 * f.size = rw el (mod-lt n (omega (arith, positive _ _ _ s))) in
      let w = within_two _ _ _ s (length rest) lt (λ q. e (ee ∙ q)) in
      two_blocks f (positive _ _ _ s) h rest t u v n end el lt w.0 tail (ee ∙ w.1) eu (rw s.sixteen at ev)

pub sizes32 : Sizes 4 64 8
sizes32 = record { four_or_eight = inl refl; sixteen = refl; two = refl }

pub sizes64 : Sizes 8 128 16
sizes64 = record { four_or_eight = inr refl; sixteen = refl; two = refl }
