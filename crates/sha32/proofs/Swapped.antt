-- The bytes swapped, the sum of four is the number that they make in the other order. Assumes nothing.
use Rattle.std.proofs.Common.{◌≡◌, ℕ, ◌+◌, ◌*◌, ◌/◌, ◌%◌, ◌<◌, ◌∙◌, arith}

-- the byte of x between those below it and those above it
pub second : (l b u x : ℕ) → l < 256 → b < 256 → x ≡ l + b * 256 + u * 65536 → x / 256 % 256 ≡ b
second l b u x hl hb ex = omega arith

pub third : (l b u x : ℕ) → l < 65536 → b < 256 → x ≡ l + b * 65536 + u * 16777216 → x / 65536 % 256 ≡ b
third l b u x hl hb ex = omega arith

pub swapped : (a b c d x : ℕ) → a < 256 → b < 256 → c < 256 → d < 256 → x ≡ a + b * 256 + c * 65536 + d * 16777216
    → x % 256 * 16777216 + x / 256 % 256 * 65536 + x / 65536 % 256 * 256 + x / 16777216 ≡ (((0 + a) * 256 + b) * 256 + c) * 256 + d
swapped a b c d x ha hb hc hd ex =
    let p : x % 256 ≡ a = omega arith in
    let t : x / 16777216 ≡ d = omega arith in
    rw (p, second a b (c + d * 256) x ha hb (omega arith), third (a + b * 256) c d x (omega arith) hc (omega arith), t) (omega arith)

pub swapped_of : (a b c d x : ℕ) {r : ℕ} → r ≡ x % 256 * 16777216 + x / 256 % 256 * 65536 + x / 65536 % 256 * 256 + x / 16777216
    → a < 256 → b < 256 → c < 256 → d < 256 → x ≡ a + b * 256 + c * 65536 + d * 16777216 → r ≡ (((0 + a) * 256 + b) * 256 + c) * 256 + d
swapped_of a b c d x er ha hb hc hd ex = er ∙ swapped a b c d x ha hb hc hd ex
