-- The definition's four words, added with the first and the last exchanged (`ends_exchanged`). Assumes nothing.
use Rattle.std.proofs.Common.{◌≡◌, ℕ, ◌+◌, ◌%◌, ◌^◌, sym, ap, ◌∙◌, add_assoc, arith}
use native.Mathlib.Nat.{mod-add-mod}
use Rattle.sha.specs.Words.{plus}
use Rattle.sha.specs.Sha2.{mix}
use Rattle.sha64.proofs.block.next_word.Goals as goal

-- the sum of four words is their sum as numbers, modulo 2 ^ w
four : (w a b c d : ℕ) → plus w (plus w (plus w a b) c) d ≡ (a + b + (c + d)) % 2 ^ w
unfolding plus
four w a b c d =
    mod-add-mod ((a + b) % 2 ^ w + c) (2 ^ w) d
    ∙ ap (λ (n : ℕ). n % 2 ^ w) (add_assoc ((a + b) % 2 ^ w) c d)
    ∙ mod-add-mod (a + b) (2 ^ w) (c + d)

ends_exchanged : (w a b c d : ℕ) → plus w (plus w (plus w d b) c) a ≡ plus w (plus w (plus w a b) c) d
ends_exchanged w a b c d =
    let e : d + b + (c + a) ≡ a + b + (c + d) = omega arith in
    four w d b c a ∙ ap (λ (n : ℕ). n % 2 ^ w) e ∙ sym (four w a b c d)

pub returns : goal.returns
unfolding mix
returns c = rw (
  c.add-3.ensures,
  c.small_sigma1.ensures,
  c.add-2.ensures,
  c.small_sigma0.ensures,
  c.add.ensures,
)
    (ends_exchanged 64 _ _ _ _)
