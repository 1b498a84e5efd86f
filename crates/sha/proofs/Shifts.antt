-- Σ and σ by shifts alone, without a rotation, over the width of a word. A rotation is the ⊕ of its two shifts, which share no digit. Assumes nothing.
use mathlib.Core.Path.{◌≡◌, sym, ap, subst, ◌∙◌}
use Prim.Native.Nat.{ℕ, ◌+◌, ◌-◌, ◌*◌, ◌/◌, ◌%◌, ◌^◌, ◌<◌}
use native.Mathlib.Nat.{mul-mod_left}
use native.Mathlib.Omega.{arith}
use lib.Bits.{bit_xor, xor_comm, xor_shifted}
use lib.Pow.{shr_lt, shl-shr, mod-pow-add}
use Rattle.sha.specs.Words.{rotr, big_sigma, small_sigma}
use Rattle.sha.proofs.Rotations.{xor_assoc, rotr_sum}

-- x shifted left by n in a word of w digits
abbrev pub left : ℕ → ℕ → ℕ → ℕ
left w n x = x * 2 ^ n % 2 ^ w

left_low : (w m n x : ℕ) → w ≡ n + m → left w m x ≡ x % 2 ^ n * 2 ^ m
left_low w m n x c = rw (c, mod-pow-add (x * 2 ^ m) n m, shl-shr x m, mul-mod_left x (2 ^ m)) (omega arith)

rotr_shifts : (w n x : ℕ) → n < w → x < 2 ^ w → rotr w n x ≡ bit_xor (x / 2 ^ n) (left w (w - n) x)
rotr_shifts w n x h l =
    let e : w ≡ w - n + n = omega arith in
    let c : w ≡ n + (w - n) = omega arith in
    let k : x < 2 ^ (w - n + n) = subst (λ (y : ℕ). x < 2 ^ y) e l in
    rotr_sum w (w - n) n x e l
    ∙ sym (xor_shifted (x % 2 ^ n) (w - n) (x / 2 ^ n) (shr_lt (w - n) n k))
    ∙ xor_comm (x % 2 ^ n * 2 ^ (w - n)) (x / 2 ^ n)
    ∙ ap (bit_xor (x / 2 ^ n)) (sym (left_low w (w - n) n x c))

-- the two in the middle exchanged
exchanged : (a b c d : ℕ) → bit_xor (bit_xor a b) (bit_xor c d) ≡ bit_xor (bit_xor a c) (bit_xor b d)
exchanged a b c d =
    xor_assoc a b (bit_xor c d)
    ∙ ap (bit_xor a) (sym (xor_assoc b c d) ∙ ap (λ (x : ℕ). bit_xor x d) (xor_comm b c) ∙ xor_assoc c b d)
    ∙ sym (xor_assoc a c (bit_xor b d))

-- of three rotations, each shift to the right beside the shift to the left of the next one
pub big_sigma_shifts : (w a b c x : ℕ) → a < w → b < w → c < w → x < 2 ^ w
    → bit_xor (bit_xor (bit_xor (x / 2 ^ a) (left w (w - b) x)) (bit_xor (x / 2 ^ b) (left w (w - c) x))) (bit_xor (x / 2 ^ c) (left w (w - a) x))
    ≡ big_sigma w a b c x
unfolding big_sigma
big_sigma_shifts w a b c x ha hb hc l =
    let A = x / 2 ^ a in
    let B = x / 2 ^ b in
    let C = x / 2 ^ c in
    let A' = left w (w - a) x in
    let B' = left w (w - b) x in
    let C' = left w (w - c) x in
    rw (rotr_shifts w a x ha l, rotr_shifts w b x hb l, rotr_shifts w c x hc l)
    (ap (λ (y : ℕ). bit_xor y (bit_xor C A')) (exchanged A B' B C')
    ∙ exchanged (bit_xor A B) (bit_xor B' C') C A'
    ∙ ap (bit_xor (bit_xor (bit_xor A B) C)) (xor_comm (bit_xor B' C') A' ∙ sym (xor_assoc A' B' C'))
    ∙ sym (exchanged (bit_xor A B) (bit_xor A' B') C C')
    ∙ ap (λ (y : ℕ). bit_xor y (bit_xor C C')) (sym (exchanged A A' B B')))

-- of two rotations and a shift
pub small_sigma_shifts : (w a b c x : ℕ) → a < w → b < w → x < 2 ^ w
    → bit_xor (bit_xor (bit_xor (x / 2 ^ a) (left w (w - b) x)) (bit_xor (x / 2 ^ b) (left w (w - a) x))) (x / 2 ^ c) ≡ small_sigma w a b c x
unfolding small_sigma
small_sigma_shifts w a b c x ha hb l =
    let A = x / 2 ^ a in
    let B = x / 2 ^ b in
    let A' = left w (w - a) x in
    let B' = left w (w - b) x in
    rw (rotr_shifts w a x ha l, rotr_shifts w b x hb l)
    (ap (λ (y : ℕ). bit_xor y (x / 2 ^ c))
    (exchanged A B' B A' ∙ ap (bit_xor (bit_xor A B)) (xor_comm B' A') ∙ sym (exchanged A A' B B')))
