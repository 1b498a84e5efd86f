-- Test 13 and its plain words: a known kind with a size of its own is one of the four pairs, by the table of widths.
use Prim.Native.Nat.{ℕ}
use mathlib.Core.Bool.{Bool, true, false, true≢false}
use mathlib.Core.List.{List}
use mathlib.Core.Logic.{inl, inr}
use mathlib.Core.Path.{◌≡◌, refl, sym, ◌∙◌}
use native.Mathlib.Omega.{arith}
use lib.Dec.{eqb}
use borrow.Author.Tests.{eqb-true, eqb-false}
use Rattle.refusals.specs.Refusals.{Cond, holds, Says}
use Rattle.refusals.proofs.Conditions.{says, said}
use Rattle.layout.specs.CodeDirectory.{sha1_type, sha256_type, truncated_type, sha384_type, KnownKind, hash_type, hash_size, slot_widths, width_of, slot_width}
use Rattle.layout.proofs.Widths.{width_at}
use Rattle.directory.specs.Rows.{hash_outside}
use Rattle.directory.specs.Hash.{Accepted, HashPlainly}

-- of a kind, none of the first three is the fourth exactly where it is known
pub known : (x : ℕ) → ((x ≡ sha1_type → ⊥) → (x ≡ sha256_type → ⊥) → (x ≡ truncated_type → ⊥) → x ≡ sha384_type) → KnownKind x
known x h = by_test (eqb x sha1_type) refl (eqb x sha256_type) refl (eqb x truncated_type) refl
  where
    by_test : (a : Bool) → eqb x sha1_type ≡ a → (b : Bool) → eqb x sha256_type ≡ b → (c : Bool) → eqb x truncated_type ≡ c → KnownKind x
    by_test true e b f c g = inl (eqb-true x sha1_type e)
    by_test false e true f c g = inr (inl (eqb-true x sha256_type f))
    by_test false e false f true g = inr (inr (inl (eqb-true x truncated_type g)))
    by_test false e false f false g =
        inr (inr (inr (h (eqb-false x sha1_type e) (eqb-false x sha256_type f) (eqb-false x truncated_type g))))

pub known_passes : (x : ℕ) → KnownKind x → (x ≡ sha1_type → ⊥) → (x ≡ sha256_type → ⊥) → (x ≡ truncated_type → ⊥) → x ≡ sha384_type
known_passes x (inl e) a b c = absurd (a e)
known_passes x (inr (inl e)) a b c = absurd (b e)
known_passes x (inr (inr (inl e))) a b c = absurd (c e)
known_passes x (inr (inr (inr e))) a b c = e

-- a known kind with its own size
pair : (x size : ℕ) → KnownKind x → size ≡ width_of x → Accepted x size
unfolding slot_widths
pair x size (inl e) h = inl (e, h ∙ width_at 0 x (omega arith))
pair x size (inr (inl e)) h = inr (inl (e, h ∙ width_at 1 x (omega arith)))
pair x size (inr (inr (inl e))) h = inr (inr (inl (e, h ∙ width_at 2 x (omega arith))))
pair x size (inr (inr (inr e))) h = inr (inr (inr (e, h ∙ width_at 3 x (omega arith))))

pair_known : (x size : ℕ) → Accepted x size → KnownKind x × (size ≡ width_of x)
unfolding slot_widths
pair_known x size (inl (e, h)) = (inl e, h ∙ sym (width_at 0 x (omega arith)))
pair_known x size (inr (inl (e, h))) = (inr (inl e), h ∙ sym (width_at 1 x (omega arith)))
pair_known x size (inr (inr (inl (e, h)))) = (inr (inr (inl e)), h ∙ sym (width_at 2 x (omega arith)))
pair_known x size (inr (inr (inr (e, h)))) = (inr (inr (inr e)), h ∙ sym (width_at 3 x (omega arith)))

passes : (d : List ℕ) → Says false (hash_outside d) → Accepted (hash_type d) (hash_size d)
unfolding hash_outside slot_width
passes d p = pair (hash_type d) (hash_size d) (known (hash_type d) p.0) p.1

accepted_passes : (d : List ℕ) → Accepted (hash_type d) (hash_size d) → Says false (hash_outside d)
unfolding hash_outside slot_width
accepted_passes d h = let w = pair_known (hash_type d) (hash_size d) h in (known_passes (hash_type d) w.0, w.1)

-- a condition holds exactly where it does not fail
not_false : (c : Cond) → (Says false c → ⊥) → Says true c
not_false c h = by_test (holds c) refl
  where
    by_test : (b : Bool) → b ≡ holds c → Says true c
    by_test true e = said true c e
    by_test false e = absurd (h (said false c e))

true_not : (c : Cond) → Says true c → Says false c → ⊥
true_not c h k = true≢false (says true c h ∙ sym (says false c k))

pub hash_plainly : HashPlainly
hash_plainly =
    record {
      passes = λ d. (passes d, accepted_passes d);
      refuses = λ d. ((λ p h. true_not (hash_outside d) p (accepted_passes d h)), λ n. not_false (hash_outside d) (λ p. n (passes d p)));
    }
