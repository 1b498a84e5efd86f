-- Each refusal is the first row that holds: the rows before it are the tests passed on the way.
use mathlib.Core.Path.{◌≡◌, refl, ap}
use Prim.Native.Nat.{ℕ}
use mathlib.Core.Logic.{◌⊎◌, inl, inr, ⊎_elim}
use native.Mathlib.Omega.{arith}
use lib.Bits.{bit_or}
use Rattle.refusals.specs.Refusals.{accepted}
use Rattle.refusals.proofs.Conditions.{held, fell}
use Rattle.refusals.proofs.Exact.{decides, passes}
use Rattle.layout.specs.CodeDirectory.{allowed_flags}
use Rattle.directory.specs.Rows.{field_rows}
use Rattle.directory.proofs.Versions.{version_known, version_unknown}
use Rattle.directory.proofs.fields_tested.Goals as goal

none_of : (x : ℕ) → ((x ≡ 0) ⊎ ((x ≡ 12) ⊎ (x ≡ 14)) → ⊥) → (x ≡ 0 → ⊥) × (x ≡ 12 → ⊥) × (x ≡ 14 → ⊥)
none_of x h = ((λ e. h (inl e)), (λ e. h (inr (inl e))), (λ e. h (inr (inr e))))

by_shift : {G : Type 0} (x : ℕ) → (x ≡ 0 → G) → (x ≡ 12 → G) → (x ≡ 14 → G) → (x ≡ 0) ⊎ ((x ≡ 12) ⊎ (x ≡ 14)) → G
by_shift x f g h w = ⊎_elim f (⊎_elim g h) w

-- the flags that are read join with the mask to what the row has
same_join : (x y : ℕ) → x ≡ y → bit_or x allowed_flags ≡ bit_or y allowed_flags
same_join x y e = ap (λ (z : ℕ). bit_or z allowed_flags) e

pub returns-then-d-lt-VERSION_END : goal.returns-then-d-lt-VERSION_END
unfolding field_rows
returns-then-d-lt-VERSION_END c = decides _ accepted _ _ (omega arith)

pub returns-then-size-eq0 : goal.returns-then-size-eq0
unfolding field_rows
returns-then-size-eq0 c = let unknown = version_unknown _ _ c.head_of-size.ensures.0 (omega arith) in
    decides _ accepted _ _ ((omega arith, unknown), refl)

pub returns-then-d-size : goal.returns-then-d-size
unfolding field_rows
returns-then-d-size c = let known = version_known _ _ c.head_of-size.ensures.0 c.if-size-eq0.false in
    decides _ accepted _ _ (omega arith)

pub returns-then-hash_outside : goal.returns-then-hash_outside
unfolding field_rows
returns-then-hash_outside c = let known = version_known _ _ c.head_of-size.ensures.0 c.if-size-eq0.false in
    let hash = held _ _ c.hash_outside.ensures c.if-hash_outside.true in
    decides _ accepted _ _ (omega arith, (omega arith, (hash, refl)))

pub returns-in_default : goal.returns-in_default
unfolding field_rows
returns-in_default c = let known = version_known _ _ c.head_of-size.ensures.0 c.if-size-eq0.false in
    let hash = fell _ _ c.hash_outside.ensures c.if-hash_outside.false in
    let k = none_of _ c.in_default.in_default-own.rest.1 in
    decides _ accepted _ _ (omega arith, (omega arith, (hash, omega arith)))

pub returns-then-flags-ne-ALLOWED_FLAGS : goal.returns-then-flags-ne-ALLOWED_FLAGS
unfolding field_rows
returns-then-flags-ne-ALLOWED_FLAGS c = let known = version_known _ _ c.head_of-size.ensures.0 c.if-size-eq0.false in
    let joined = same_join _ _ c.read-head.ensures.flags_is in
    let hash = fell _ _ c.hash_outside.ensures c.if-hash_outside.false in
    by_shift _ (λ e. decides _ accepted _ _ (omega arith, (omega arith, (hash, omega arith)))) (λ e. decides _ accepted _ _ (omega arith, (omega arith, (hash, omega arith)))) (λ e. decides _ accepted _ _ (omega arith, (omega arith, (hash, omega arith)))) c.in-0.is

pub returns-then-limit64-gt-MOST_CODE_LIMIT : goal.returns-then-limit64-gt-MOST_CODE_LIMIT
unfolding field_rows
returns-then-limit64-gt-MOST_CODE_LIMIT c = let known = version_known _ _ c.head_of-size.ensures.0 c.if-size-eq0.false in
    let joined = same_join _ _ c.read-head.ensures.flags_is in
    let hash = fell _ _ c.hash_outside.ensures c.if-hash_outside.false in
    by_shift _ (λ e. decides _ accepted _ _ (omega arith, (omega arith, (hash, omega arith)))) (λ e. decides _ accepted _ _ (omega arith, (omega arith, (hash, omega arith)))) (λ e. decides _ accepted _ _ (omega arith, (omega arith, (hash, omega arith)))) c.in-0.is

pub returns-then-scatter-ne0 : goal.returns-then-scatter-ne0
unfolding field_rows
returns-then-scatter-ne0 c = let known = version_known _ _ c.head_of-size.ensures.0 c.if-size-eq0.false in
    let joined = same_join _ _ c.read-head.ensures.flags_is in
    let hash = fell _ _ c.hash_outside.ensures c.if-hash_outside.false in
    by_shift _ (λ e. decides _ accepted _ _ (omega arith, (omega arith, (hash, omega arith)))) (λ e. decides _ accepted _ _ (omega arith, (omega arith, (hash, omega arith)))) (λ e. decides _ accepted _ _ (omega arith, (omega arith, (hash, omega arith)))) c.in-0.is

pub returns : goal.returns
unfolding field_rows
returns c = let known = version_known _ _ c.head_of-size.ensures.0 c.if-size-eq0.false in
    let joined = same_join _ _ c.read-head.ensures.flags_is in
    let hash = fell _ _ c.hash_outside.ensures c.if-hash_outside.false in
    by_shift _ (λ e. passes _ accepted (omega arith, (omega arith, (hash, omega arith)))) (λ e. passes _ accepted (omega arith, (omega arith, (hash, omega arith)))) (λ e. passes _ accepted (omega arith, (omega arith, (hash, omega arith)))) c.in-0.is
