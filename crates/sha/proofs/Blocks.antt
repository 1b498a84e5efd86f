-- Laws of words, blocks and stores, over the hash function. Assumes nothing.
use mathlib.Core.Path.{◌≡◌, refl, sym, ap, ap₂, ◌∙◌}
use mathlib.Core.List.{List, [], ◌∷◌, ◌++◌, append_assoc, append-nil}
use Prim.Native.Nat.{ℕ, zero, suc, ◌+◌, ◌-◌, ◌*◌, ◌/◌, ◌%◌, ◌^◌, ◌<◌, ◌≤◌}
use native.Mathlib.Nat.{add_assoc, mul-add, mul-suc, mul_comm, add-zero, add-suc, mul-one, mul-zero, pow-zero, pow-suc, div-one, div-div-eq-div-mul}
use native.Mathlib.Numerals.{add-one}
use native.Mathlib.Omega.{arith}
use lib.ListN.{length, get_or, take, drop, set, replicate, length-append, take-append-drop, get_or-append}
use lib.Seq.{take-suc, take-suc-set, take_at, set_at, drop-cons, append_snoc, get_or-take, get_or-drop, drop-append-le, length-take-le, take_all, take-append-le}
use Rattle.endian.specs.Numbers.{bytes}
use Rattle.endian.proofs.Numbers.{big_same, length_bytes}
use Rattle.sha.specs.Message.{words, all_bytes}
use Rattle.sha.specs.Hash.{Hash, chain}

-- WORDS are read by their bytes alone

words_ext : (z n : ℕ) (a b : List ℕ) (j k : ℕ) → ((i : ℕ) → i < z * n → get_or a (j + i) 0 ≡ get_or b (k + i) 0) → words z n a j ≡ words z n b k
unfolding words
words_ext z zero a b j k h = refl
words_ext z (suc n) a b j k h =
    ap₂ (λ (x : List ℕ) (y : ℕ). x ++ (y ∷ []))
    (words_ext z n a b j k (λ i l. h i (omega (arith, mul-suc z n))))
    (big_same z a b (j + z * n) (k + z * n)
    (λ i l. rw (add_assoc j, add_assoc k) (h (z * n + i) (omega (arith, mul-suc z n)))))

pub words_take : (z n e : ℕ) (l : List ℕ) (j : ℕ) → j + z * n ≤ e → words z n (take e l) j ≡ words z n l j
words_take z n e l j h = words_ext z n (take e l) l j j (λ i b. get_or-take e l (j + i) 0 (omega arith))

words_append : (z n : ℕ) (l p : List ℕ) (j : ℕ) → j + z * n ≤ length l → words z n (l ++ p) j ≡ words z n l j
words_append z n l p j h = words_ext z n (l ++ p) l j j (λ i b. get_or-append l p 0 (j + i) (omega arith))

words_drop : (z n d : ℕ) (l : List ℕ) (j : ℕ) → words z n (drop d l) j ≡ words z n l (d + j)
words_drop z n d l j = words_ext z n (drop d l) l j (d + j) (λ i b. get_or-drop d l (j + i) 0 ∙ ap (λ (x : ℕ). get_or l x 0) (sym (add_assoc d j i)))

-- BLOCKS

-- the first block, and the first two
pub chain_one : (f : Hash) (h m : List ℕ) → chain f h m 1 ≡ f.block h (words f.size 16 m 0)
unfolding chain
chain_one f h m = ap (λ (x : ℕ). f.block h (words f.size 16 m x)) (mul-zero (16 * f.size))

pub chain_two : (f : Hash) (h m : List ℕ) → chain f h m 2 ≡ f.block (f.block h (words f.size 16 m 0)) (words f.size 16 m (16 * f.size))
unfolding chain
chain_two f h m = ap₂ (λ (x : List ℕ) (y : ℕ). f.block x (words f.size 16 m y)) (chain_one f h m) (mul-one (16 * f.size))

-- blocks that lie inside a list are the same where more follows it
chain_append : (f : Hash) (h l p : List ℕ) (n : ℕ) → 16 * f.size * n ≤ length l → chain f h (l ++ p) n ≡ chain f h l n
unfolding chain
chain_append f h l p zero le = refl
chain_append f h l p (suc n) le =
    let e : 16 * f.size * suc n ≡ 16 * f.size * n + f.size * 16 = mul-suc (16 * f.size) n ∙ ap (λ (x : ℕ). 16 * f.size * n + x) (mul_comm 16 f.size) in
    ap₂ f.block (chain_append f h l p n (omega arith)) (words_append f.size 16 l p (16 * f.size * n) (omega arith))

-- the blocks of a list with more after it: those inside the list, then those of what is left of it with what follows
pub chain_split : (f : Hash) (h l p : List ℕ) (n k : ℕ) → 16 * f.size * n ≤ length l
    → chain f h (l ++ p) (n + k) ≡ chain f (chain f h l n) (drop (16 * f.size * n) l ++ p) k
unfolding chain
chain_split f h l p n zero le = ap (chain f h (l ++ p)) (add-zero n) ∙ chain_append f h l p n le
chain_split f h l p n (suc k) le =
    ap (chain f h (l ++ p)) (add-suc n k)
    ∙ ap₂ f.block (chain_split f h l p n k le)
    (ap (words f.size 16 (l ++ p)) (mul-add (16 * f.size) n k)
    ∙ sym (words_drop f.size 16 (16 * f.size * n) (l ++ p) (16 * f.size * k))
    ∙ ap (λ (x : List ℕ). words f.size 16 x (16 * f.size * k)) (drop-append-le (16 * f.size * n) l p le))

-- one block more
pub chain_more : (f : Hash) (h m : List ℕ) (i at : ℕ) {v r : List ℕ} → at ≡ 16 * f.size * i → v ≡ chain f h m i → r ≡ f.block v (words f.size 16 m at)
    → r ≡ chain f h m (i + 1)
unfolding chain
chain_more f h m i at ea ev er = rw (add-one i, er, ev, ea)

-- STORES

-- one more element of an array that is filled from its start
pub take_copy : (s w : List ℕ) (i : ℕ) → i < length s → i < length w → take i w ≡ take i s → take (i + 1) (set w i (get_or s i 0)) ≡ take (i + 1) s
take_copy s w i h b e = rw (add-one i, take-suc-set w i (get_or s i 0) b, e, take-suc s i 0 h)

store_zero : (p : List ℕ) (k i v : ℕ) → length p ≡ i → set (p ++ replicate (k + 1) 0) i v ≡ p ++ v ∷ replicate k 0
store_zero p k i v e = rw (add-one k) (set_at p 0 (replicate k 0) v i e)

-- a number that is stored from its last byte on: a byte more, and the number without it
pub put_more : (o : List ℕ) (at w i x : ℕ) → i < w → at + w ≤ length o
    → set (take (at + (w - i)) o ++ bytes i x ++ drop (at + w) o) (at + (w - 1 - i)) (x / 256 ^ i % 256)
    ≡ take (at + (w - (i + 1))) o ++ bytes (i + 1) x ++ drop (at + w) o
unfolding bytes
put_more o at w i x lt h =
    let k : ℕ = at + (w - (i + 1)) in
    let p : List ℕ = take k o in
    let g : ℕ = get_or o k 0 in
    let b : ℕ = x / 256 ^ i % 256 in
    let q : List ℕ = bytes i x in
    let d : List ℕ = drop (at + w) o in
    let a : at + (w - i) ≡ suc k = omega arith in
    let j : at + (w - 1 - i) ≡ k = omega arith in
    let f : take (at + (w - i)) o ++ q ++ d ≡ p ++ g ∷ (q ++ d) =
    ap (λ (k : ℕ). take k o ++ q ++ d) a
    ∙ ap (λ (l : List ℕ). l ++ q ++ d) (take-suc o k 0 (omega arith))
    ∙ append_assoc (p ++ (g ∷ [])) q d
    ∙ append_snoc p g (q ++ d) in
    ap₂ (λ (l : List ℕ) (y : ℕ). set l y b) f j
    ∙ set_at p g (q ++ d) b k (length-take-le k o (omega arith))
    ∙ sym (append_assoc p (b ∷ q) d)
    ∙ ap (λ (n : ℕ). p ++ bytes n x ++ d) (sym (add-one i))

pub shift_more : (i x y : ℕ) → y ≡ x / 256 ^ i → y / 256 ≡ x / 256 ^ (i + 1)
shift_more i x y e = rw (e, add-one i, pow-suc 256 i) (div-div-eq-div-mul x (256 ^ i) 256)

pub put_first : (o : List ℕ) (at w x : ℕ) → o ≡ take (at + (w - 0)) o ++ bytes 0 x ++ drop (at + w) o
unfolding bytes
put_first o at w x =
    let k : at + (w - 0) ≡ at + w = omega arith in
    rw k (sym (ap (λ (l : List ℕ). l ++ drop (at + w) o) (append-nil (take (at + w) o)) ∙ take-append-drop (at + w) o))

-- the same counted down from the last place to the first: its end, and its start
pub put_last : (o : List ℕ) (at w i x : ℕ) {u : List ℕ} → i ≡ 0 → u ≡ take (at + i) o ++ bytes (w - i) x ++ drop (at + w) o
    → u ≡ take at o ++ bytes w x ++ drop (at + w) o
put_last o at w i x e h =
    let a : at + i ≡ at = omega arith in
    let b : w - i ≡ w = omega arith in
    h ∙ ap₂ (λ (j k : ℕ). take j o ++ bytes k x ++ drop (at + w) o) a b

pub shift_first : (w x : ℕ) → x ≡ x / 256 ^ (w - w)
shift_first w x = let n : w - w ≡ 0 = omega arith in rw (n, pow-zero 256) (sym (div-one x))

-- a byte more of a copy into zeros
pub copy_more : (s : List ℕ) (n i : ℕ) → i < length s → i < n
    → set (take i s ++ replicate (n - i) 0) i (get_or s i 0) ≡ take (i + 1) s ++ replicate (n - (i + 1)) 0
copy_more s n i h b =
    let e : n - i ≡ n - (i + 1) + 1 = omega arith in
    rw e (store_zero (take i s) (n - (i + 1)) i (get_or s i 0) (length-take-le i s (omega arith)))
    ∙ sym (append_snoc (take i s) (get_or s i 0) (replicate (n - (i + 1)) 0))
    ∙ rw (add-one i, take-suc s i 0 h)

-- a store over the first byte that is left of a buffer: a byte more of a copy into it, and the bit 1 behind the whole copy
store_over : (p d : List ℕ) (i v : ℕ) → length p ≡ i → i < length d → set (p ++ drop i d) i v ≡ p ++ v ∷ drop (i + 1) d
store_over p d i v e h = rw (drop-cons d i 0 h, add-one i) (set_at p (get_or d i 0) (drop (suc i) d) v i e)

pub copy_over : (s d : List ℕ) (i : ℕ) → i < length s → i < length d → set (take i s ++ drop i d) i (get_or s i 0) ≡ take (i + 1) s ++ drop (i + 1) d
copy_over s d i h b =
    store_over (take i s) d i (get_or s i 0) (length-take-le i s (omega arith)) b
    ∙ sym (append_snoc (take i s) (get_or s i 0) (drop (i + 1) d))
    ∙ rw (add-one i, take-suc s i 0 h)

pub open_end : (s d : List ℕ) (i : ℕ) → i ≡ length s → i < length d → set (take i s ++ drop i d) i 128 ≡ s ++ 128 ∷ drop (length s + 1) d
open_end s d i e h = rw (take_all i s (omega arith), ← e) (store_over s d i 128 (omega arith) h)

-- a part of a list of one number
pub part_replicate : (k m n a : ℕ) → k + n ≤ m → take n (drop k (replicate m a)) ≡ replicate n a
part_replicate k m zero a h = refl
part_replicate zero zero (suc n) a h = absurd (omega arith)
part_replicate zero (suc m) (suc n) a h = ap (λ (l : List ℕ). a ∷ l) (part_replicate zero m n a (omega arith))
part_replicate (suc k) zero (suc n) a h = absurd (omega arith)
part_replicate (suc k) (suc m) (suc n) a h = part_replicate k m (suc n) a (omega arith)

-- BYTES of words

pub all_bytes_none : (z : ℕ) (out h : List ℕ) → take (z * 0) out ≡ all_bytes z 0 h
unfolding all_bytes
all_bytes_none z out h = rw (mul-zero z) refl

pub all_bytes_more : (z i : ℕ) (h out r : List ℕ) → z * i + z ≤ length out → take (z * i) out ≡ all_bytes z i h
    → r ≡ take (z * i) out ++ bytes z (get_or h i 0) ++ drop (z * i + z) out → take (z * (i + 1)) r ≡ all_bytes z (i + 1) h
unfolding all_bytes
all_bytes_more z i h out r le e er =
    let n : length (take (z * i) out ++ bytes z (get_or h i 0)) ≡ z * (i + 1) =
    length-append (take (z * i) out) (bytes z (get_or h i 0))
    ∙ ap₂ (λ (x y : ℕ). x + y) (length-take-le (z * i) out (omega arith)) (length_bytes z (get_or h i 0)) ∙ omega (arith, mul-suc z i, add-one i, ap (λ (x : ℕ). z * x) (add-one i)) in
    ap (take (z * (i + 1))) er
    ∙ take_at (take (z * i) out ++ bytes z (get_or h i 0)) (drop (z * i + z) out) (z * (i + 1)) n
    ∙ rw (add-one i, e)

pub length_all_bytes : (z n : ℕ) (xs : List ℕ) → length (all_bytes z n xs) ≡ z * n
unfolding all_bytes
length_all_bytes z zero xs = omega arith
length_all_bytes z (suc n) xs =
    length-append (all_bytes z n xs) (bytes z (get_or xs n 0))
    ∙ ap₂ (λ (x y : ℕ). x + y) (length_all_bytes z n xs) (length_bytes z (get_or xs n 0)) ∙ sym (mul-suc z n)

-- the first words of a list have the same bytes, and their bytes are the first
pub all_bytes_take : (z n k : ℕ) (xs : List ℕ) → n ≤ k → all_bytes z n (take k xs) ≡ all_bytes z n xs
unfolding all_bytes
all_bytes_take z zero k xs h = refl
all_bytes_take z (suc n) k xs h =
    ap₂ (λ (a : List ℕ) (x : ℕ). a ++ bytes z x) (all_bytes_take z n k xs (omega arith)) (get_or-take k xs n 0 (omega arith))

pub all_bytes_front : (z n k x : ℕ) (xs : List ℕ) → x ≤ z * n → take x (all_bytes z (n + k) xs) ≡ take x (all_bytes z n xs)
unfolding all_bytes
all_bytes_front z n zero x xs h = rw add-zero
all_bytes_front z n (suc k) x xs h =
    ap (λ (y : ℕ). take x (all_bytes z y xs)) (add-suc n k)
    ∙ take-append-le x (all_bytes z (n + k) xs) (bytes z (get_or xs (n + k) 0)) (omega (arith, length_all_bytes z (n + k) xs, mul-add z n k))
    ∙ all_bytes_front z n k x xs h
