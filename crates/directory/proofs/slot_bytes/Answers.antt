-- The product by the kind that is read; a field of 32 bits states no more slots than it has room for.
use Prim.Native.Nat.{ℕ, ◌*◌, ◌^◌, ◌<◌}
use mathlib.Core.Path.{◌∙◌, ap}
use native.Mathlib.Omega.{arith}
use Rattle.layout.specs.CodeDirectory.{width_of, slot_width}
use Rattle.layout.proofs.Widths.{slots_below}
use Rattle.directory.proofs.slot_bytes.Goals as goal

fits_word : (kind n : ℕ) → n < 4294967296 → width_of kind * n < 2 ^ 64
fits_word kind n h = omega (arith, slots_below kind n h)

pub slot_bytes-requires : goal.slot_bytes-requires
slot_bytes-requires c = fits_word _ _ (omega arith)

pub returns : goal.returns
unfolding slot_width
returns c = (
  c.slot_bytes.ensures ∙ ap (λ (k : ℕ). width_of k * c.args.n) (omega (arith, c.read-kind.ensures.hash_type_is)),
  omega (arith, c.slot_bytes.ensures, slots_below c.read-kind.result.hash_type c.args.n (omega arith)),
)
