-- Padding and block cutting, once over the bytes of a word. Assumes nothing.
use mathlib.Core.Path.{◌≡◌, refl, sym, ap, ap₂, subst, ◌∙◌}
use mathlib.Core.List.{List, [], ◌∷◌, ◌++◌, append_assoc}
use Prim.Native.Nat.{ℕ, zero, suc, ◌+◌, ◌-◌, ◌*◌, ◌/◌, ◌%◌, ◌^◌, ◌<◌, ◌≤◌}
use native.Mathlib.Nat.{mul_comm, zero-add, div-add-mod', mul-add-div, mul-add-mod_self_left, mod-eq_of_lt, div_self, mul-div_cancel, div-div-eq-div-mul, suc-add, le_refl}
use lib.Pow.{pow-add}
use native.Mathlib.Omega.{arith}
use lib.ListN.{length, get_or, take, drop, set, replicate, length-append, length-replicate, length-drop}
use lib.Seq.{take_all, take_at, take-append-add, take-suc-set}
use Rattle.sha.specs.Message.{words, padding, padded, LengthField}
use Rattle.endian.specs.Numbers.{big, bytes}
use Rattle.endian.proofs.Numbers.{length_bytes, big_same, big_bytes}
use Rattle.sha.specs.Hash.{Hash, chain, chained}
use Rattle.sha.proofs.Blocks.{chain_one, chain_two, chain_split, words_take, part_replicate}

length_padding_of : (z n : ℕ) → length (padding z n) ≡ (30 * z - 1 - n % (16 * z)) % (16 * z) + 1 + 2 * z
unfolding padding
length_padding_of z n = simp (length-append, length-replicate, length_bytes) (omega arith)

-- its last two words are the length
behind : (x y : List ℕ) (n : ℕ) → length y ≡ n → big n (x ++ y) (length (x ++ y) - n) ≡ big n y 0
behind x y n e =
    let l = length-append x y in
    let o : length (x ++ y) - n ≡ length x = omega arith in
    rw o (big_same n (x ++ y) y (length x) 0 (λ i h. rw (zero-add i) (past x i)))
  where
    past : (x : List ℕ) (i : ℕ) → get_or (x ++ y) (length x + i) 0 ≡ get_or y i 0
    past [] i = rw (zero-add i)
    past (b ∷ x) i = rw (suc-add (length x) i) (past x i)

pub length_field : LengthField
unfolding padding
length_field z n h =
    behind (128 ∷ replicate ((30 * z - 1 - n % (16 * z)) % (16 * z)) 0) (bytes (2 * z) (8 * n)) (2 * z) (length_bytes (2 * z) (8 * n))
    ∙ big_bytes (2 * z) (8 * n) ∙ mod-eq_of_lt h

-- how many bytes 0 the padding has, after r bytes of the last block: where one block is left, and where two are
zeros_one : (z r : ℕ) → r + 1 + 2 * z ≤ 16 * z → (30 * z - 1 - r) % (16 * z) ≡ 16 * z - (1 + 2 * z) - r
zeros_one z r h =
    let e : 30 * z - 1 - r ≡ 16 * z * 1 + (16 * z - (1 + 2 * z) - r) = omega arith in
    rw e (mul-add-mod_self_left (16 * z) 1 (16 * z - (1 + 2 * z) - r)) ∙ mod-eq_of_lt {m = 16 * z} (omega arith)

zeros_two : (z r : ℕ) → 16 * z < r + 1 + 2 * z → r < 16 * z → (30 * z - 1 - r) % (16 * z) ≡ 32 * z - (1 + 2 * z) - r
zeros_two z r h b = let e : 30 * z - 1 - r ≡ 32 * z - (1 + 2 * z) - r = omega arith in rw e (mod-eq_of_lt (omega arith))

-- the whole message's hash value: its whole blocks, then what is left with the padding
chained_all : (f : Hash) (h m p : List ℕ) → 0 < f.size
    → chained f (chain f h m (length m / (16 * f.size))) (drop (16 * f.size * (length m / (16 * f.size))) m ++ p) ≡ chained f h (m ++ p)
unfolding chained
chained_all f h m p pos =
    let b = 16 * f.size in
    let n = length m / b in
    let s : b * n + length m % b ≡ length m = ap (λ (x : ℕ). x + length m % b) (mul_comm b n) ∙ div-add-mod' (length m) b in
    let a : length (drop (b * n) m ++ p) ≡ length m % b + length p =
    length-append (drop (b * n) m) p ∙ rw length-drop (omega arith) in
    let c : length (m ++ p) / b ≡ n + length (drop (b * n) m ++ p) / b =
    rw (a, length-append m p)
    (ap (λ (x : ℕ). x / b) (let t : length m + length p ≡ b * n + (length m % b + length p) = omega arith in t)
    ∙ mul-add-div {m = b} (omega arith) n (length m % b + length p)) in
    sym (ap (chain f h (m ++ p)) c ∙ chain_split f h m p n (length (drop (b * n) m ++ p) / b) (omega arith))

-- one block or two, at the start of a longer list
module _ (f : Hash) (h l t : List ℕ) (pos : 0 < f.size) where
  chained_1 : take (16 * f.size) t ≡ l → length l ≡ 16 * f.size → chained f h l ≡ f.block h (words f.size 16 t 0)
  unfolding chained
  chained_1 e n =
      let d : length l / (16 * f.size) ≡ 1 = rw n (div_self {n = 16 * f.size} (omega arith)) in
      ap (chain f h l) d ∙ chain_one f h l ∙ ap (f.block h) (rw (← e) (words_take f.size 16 (16 * f.size) t 0 (omega arith)))

  chained_2 : take (32 * f.size) t ≡ l → length l ≡ 32 * f.size
      → chained f h l ≡ f.block (f.block h (words f.size 16 t 0)) (words f.size 16 t (16 * f.size))
  unfolding chained
  chained_2 e n =
      let d : length l / (16 * f.size) ≡ 2 =
      ap (λ (x : ℕ). x / (16 * f.size)) (n ∙ omega arith) ∙ mul-div_cancel 2 {n = 16 * f.size} (omega arith) in
      ap (chain f h l) d ∙ chain_two f h l
      ∙ ap₂ (λ (x y : List ℕ). f.block (f.block h x) y)
      (rw (← e) (words_take f.size 16 (32 * f.size) t 0 (omega arith)))
      (rw (← e) (words_take f.size 16 (32 * f.size) t (16 * f.size) (omega arith)))

-- the bytes of a number: those above, then those below
bytes_append : (a b x : ℕ) → bytes (a + b) x ≡ bytes a (x / 256 ^ b) ++ bytes b x
unfolding bytes
bytes_append zero b x = rw zero-add
bytes_append (suc a) b x =
    ap (λ (k : ℕ). bytes k x) (suc-add a b)
    ∙ ap₂ (λ (y : ℕ) (l : List ℕ). y % 256 ∷ l)
    (ap (λ (y : ℕ). x / y) (pow-add 256 a b ∙ mul_comm (256 ^ a) (256 ^ b)) ∙ sym (div-div-eq-div-mul x (256 ^ b) (256 ^ a)))
    (bytes_append a b x)

-- 8 * n without a product that may exceed a machine word: its last byte, and the bytes before it
bytes_length : (w n : ℕ) → bytes w (n / 32) ++ (n % 32 * 8 ∷ []) ≡ bytes (w + 1) (8 * n)
unfolding bytes
bytes_length w n =
    let a : n / 32 ≡ 8 * n / 256 ^ 1 = omega arith in
    let b : n % 32 * 8 ≡ 8 * n / 256 ^ 0 % 256 = omega arith in
    rw (a, b) (sym (bytes_append w 1 (8 * n)))

-- the last blocks, from stores over zeros (o): of a message's last bytes and the bit 1 (t), of the length's bytes but the last (u, hi), and of
-- that (lo)
module _ (width : ℕ) (rest o t u : List ℕ) (n e hi lo : ℕ) (pos : 0 < width) (le : length rest + 1 + width ≤ e) (ge : e ≤ length o) (gu : e ≤ length u)
    (eo : o ≡ replicate (length o) 0) (et : t ≡ rest ++ 128 ∷ drop (length rest + 1) o)
    (eu : u ≡ take (e - width) t ++ bytes (width - 1) hi ++ drop (e - width + (width - 1)) t) (ehi : hi ≡ n / 32) (elo : lo ≡ n % 32 * 8) where
  zs : ℕ
  zs = e - (1 + width) - length rest

  front : take (e - width) t ≡ rest ++ 128 ∷ replicate zs 0
  unfolding zs
  front =
      let i : e - width ≡ length rest + suc zs = omega arith in
      let d : List ℕ = drop (length rest + 1) o in
      let f : take zs d ≡ replicate zs 0 =
      ap (λ (l : List ℕ). take zs (drop (length rest + 1) l)) eo ∙ part_replicate (length rest + 1) (length o) zs 0 (omega arith) in
      rw (et, i, take-append-add rest (128 ∷ d) (suc zs), f)

  long : length (rest ++ 128 ∷ replicate zs 0) ≡ e - width
  unfolding zs
  long = simp (length-append, length-replicate) (omega arith)

  pub closed_of : take e (set u (e - 1) lo) ≡ rest ++ (128 ∷ replicate (e - (1 + width) - length rest) 0) ++ bytes (width) (8 * n)
  unfolding zs
  closed_of =
      let p : List ℕ = rest ++ 128 ∷ replicate zs 0 in
      let q : List ℕ = bytes (width - 1) hi in
      let d : List ℕ = drop (e - width + (width - 1)) t in
      let fu : u ≡ p ++ q ++ d = eu ∙ ap (λ (l : List ℕ). l ++ q ++ d) front in
      let lp : length (p ++ q) ≡ e - 1 = length-append p q ∙ omega (arith, long, length_bytes (width - 1) hi) in
      let s : e ≡ suc (e - 1) = omega arith in
      let w : width ≡ width - 1 + 1 = omega arith in
      ap (λ (x : ℕ). take x (set u (e - 1) lo)) s
      ∙ take-suc-set u (e - 1) lo (omega arith)
      ∙ ap (λ (l : List ℕ). l ++ (lo ∷ [])) (ap (take (e - 1)) fu ∙ take_at (p ++ q) d (e - 1) lp)
      ∙ append_assoc p q (lo ∷ [])
      ∙ ap (λ (l : List ℕ). p ++ l) (rw (ehi, elo) (bytes_length (width - 1) n) ∙ ap (λ (x : ℕ). bytes x (8 * n)) (sym w))

-- the same over z, the bytes of a word, of which the length has two
module _ (z : ℕ) (rest o t u : List ℕ) (n e hi lo : ℕ) (pos : 0 < z) (le : length rest + 1 + 2 * z ≤ e) (ge : e ≤ length o) (gu : e ≤ length u)
    (eo : o ≡ replicate (length o) 0) (et : t ≡ rest ++ 128 ∷ drop (length rest + 1) o)
    (eu : u ≡ take (e - 2 * z) t ++ bytes (2 * z - 1) hi ++ drop (e - 2 * z + (2 * z - 1)) t) (ehi : hi ≡ n / 32) (elo : lo ≡ n % 32 * 8) where
  pub closed_words : take e (set u (e - 1) lo) ≡ rest ++ (128 ∷ replicate (e - (1 + 2 * z) - length rest) 0) ++ bytes (2 * z) (8 * n)
  closed_words = closed_of (2 * z) rest o t u n e hi lo (omega (arith, pos)) le ge gu eo et eu ehi elo

-- the last blocks are the last bytes and the padding
padded_tail : (z : ℕ) (rest : List ℕ) (n j : ℕ) → j ≡ (30 * z - 1 - n % (16 * z)) % (16 * z)
    → rest ++ (128 ∷ replicate j 0) ++ bytes (2 * z) (8 * n) ≡ rest ++ padding z n
unfolding padding
padded_tail z rest n j h = append_assoc rest (128 ∷ replicate j 0) (bytes (2 * z) (8 * n)) ∙ rw h

-- THE HASH VALUE OF A MESSAGE, by the code's steps

-- rest and the padding, in one block: t starts with it, up to `end`
abbrev pub OneBlock : Hash → ℕ → Type 0
OneBlock f z =
    (h rest t v : List ℕ) (n end : ℕ) → length rest ≡ n % (16 * z) → length rest + 1 + 2 * z ≤ 16 * z
    → take end t ≡ rest ++ (128 ∷ replicate (end - (1 + 2 * z) - length rest) 0) ++ bytes (2 * z) (8 * n) → end ≡ 16 * z
    → v ≡ f.block h (words z 16 t 0) → v ≡ chained f h (rest ++ padding z n)

-- .. and in two
abbrev pub TwoBlocks : Hash → ℕ → Type 0
TwoBlocks f z =
    (h rest t u v : List ℕ) (n end : ℕ) → length rest ≡ n % (16 * z) → length rest < 16 * z → 16 * z < length rest + 1 + 2 * z
    → take end t ≡ rest ++ (128 ∷ replicate (end - (1 + 2 * z) - length rest) 0) ++ bytes (2 * z) (8 * n) → end ≡ 32 * z
    → u ≡ f.block h (words z 16 t 0) → v ≡ f.block u (words z 16 t (16 * z)) → v ≡ chained f h (rest ++ padding z n)

-- whole blocks, then what is left with the padding
abbrev pub Whole : Hash → ℕ → Type 0
Whole f z =
    (h m u v : List ℕ) (at : ℕ) → at ≡ 16 * z * (length m / (16 * z)) → u ≡ chain f h m (length m / (16 * z))
    → v ≡ chained f u (take (length m - at) (drop at m) ++ padding z (length m)) → v ≡ chained f h (padded z m)

module _ (f : Hash) (pos : 0 < f.size) where
  pub one_block : OneBlock f f.size
  one_block h rest t v n end el le et ee ev =
      let z = f.size in
      let j : 16 * z - (1 + 2 * z) - length rest ≡ (30 * z - 1 - n % (16 * z)) % (16 * z) =
      sym (zeros_one z (length rest) le) ∙ ap (λ (x : ℕ). (30 * z - 1 - x) % (16 * z)) el in
      let l : length (rest ++ padding z n) ≡ 16 * z = length-append rest (padding z n) ∙ omega (arith, length_padding_of z n) in
      ev ∙ sym (chained_1 f h (rest ++ padding z n) t pos ((rw ee at et) ∙ padded_tail z rest n (16 * z - (1 + 2 * z) - length rest) j) l)

  pub two_blocks : TwoBlocks f f.size
  two_blocks h rest t u v n end el lt gt et ee eu ev =
      let z = f.size in
      let j : 32 * z - (1 + 2 * z) - length rest ≡ (30 * z - 1 - n % (16 * z)) % (16 * z) =
      sym (zeros_two z (length rest) gt lt) ∙ ap (λ (x : ℕ). (30 * z - 1 - x) % (16 * z)) el in
      let l : length (rest ++ padding z n) ≡ 32 * z = length-append rest (padding z n) ∙ omega (arith, length_padding_of z n) in
      ev ∙ rw eu (sym (chained_2 f h (rest ++ padding z n) t pos ((rw ee at et) ∙ padded_tail z rest n (32 * z - (1 + 2 * z) - length rest) j) l))

  pub whole : Whole f f.size
  unfolding padded
  whole h m u v at ea eu ev =
      let k : take (length m - at) (drop at m) ≡ drop at m = take_all (length m - at) (drop at m) (rw length-drop (le_refl (length m - at))) in
      ev ∙ rw (eu, k, ea) (chained_all f h m (padding f.size (length m)) pos)

-- the same over any z that is the bytes of a word
module _ (f : Hash) (z : ℕ) (e : f.size ≡ z) (pos : 0 < z) where
  pos_at : 0 < f.size
  pos_at = rw e pos

  pub one_block_of : OneBlock f z
  one_block_of = subst (OneBlock f) e (one_block f pos_at)

  pub two_blocks_of : TwoBlocks f z
  two_blocks_of = subst (TwoBlocks f) e (two_blocks f pos_at)

  pub whole_of : (h m u v : List ℕ) → u ≡ chain f h m (length m / (16 * z))
      → v ≡ chained f u (take (length m - 16 * z * (length m / (16 * z))) (drop (16 * z * (length m / (16 * z))) m) ++ padding z (length m))
      → v ≡ chained f h (padded z m)
  whole_of h m u v = subst (Whole f) e (whole f pos_at) h m u v _ refl
