-- Laws of the kinds: what holds of each of the four, and of none, holds of the kind by its number. Assumes nothing.
use mathlib.Core.Path.{◌≡◌, refl, sym, ap, ◌∙◌}
use mathlib.Core.Bool.{Bool, true, false, cond}
use mathlib.Core.Logic.{◌⊎◌, inl, inr}
use mathlib.Core.List.{List, [], ◌++◌, append-nil}
use Prim.Native.Nat.{ℕ, ◌-◌, ◌<◌, ◌≤◌}
use native.Mathlib.Omega.{arith}
use lib.Dec.{eqb}
use lib.ListN.{take, replicate}
use borrow.Author.Tests.{eqb-true, eqb-false}
use Rattle.refusals.specs.Ranges.{lookup}
use Rattle.refusals.proofs.Ranges.{misses}
use Rattle.layout.specs.declared.kinds.HashKind.{HashKind}
use Rattle.layout.specs.declared.kinds.HashKind.TheVariants as kind
use Rattle.layout.specs.CodeDirectory.{kind_number, sha1_type, sha256_type, truncated_type, sha384_type, slot_widths, width_of}
use Rattle.sha.specs.Hash.{Hash, cut_to, digest}
use Rattle.sha.specs.Sha1.{sha1}
use Rattle.sha.specs.Sha2.{sha256, sha384}
use Rattle.sha.proofs.Digests.{digest_cut}
use Rattle.digest.specs.Kinds.{none, hash_of, digest_of, KindsPlainly}

-- by the number, which is known in each case
pub by_number : (P : Hash → Type 0) (k : ℕ) → (k ≡ sha1_type → P sha1) → (k ≡ sha256_type → P sha256) → (k ≡ truncated_type → P (cut_to 20 sha256)) → (k ≡ sha384_type → P sha384)
    → ((k ≡ sha1_type → ⊥) → (k ≡ sha256_type → ⊥) → (k ≡ truncated_type → ⊥) → (k ≡ sha384_type → ⊥) → P none) → P (hash_of k)
unfolding hash_of
by_number P k a b c d e = split (eqb k sha1_type) (eqb k sha256_type) (eqb k truncated_type) (eqb k sha384_type) refl refl refl refl
  where
    split : (p q r s : Bool) → eqb k sha1_type ≡ p → eqb k sha256_type ≡ q → eqb k truncated_type ≡ r → eqb k sha384_type ≡ s → P (cond p sha1 (cond q sha256 (cond r (cut_to 20 sha256) (cond s sha384 none))))
    split true q r s ep eq er es = a (eqb-true k sha1_type ep)
    split false true r s ep eq er es = b (eqb-true k sha256_type eq)
    split false false true s ep eq er es = c (eqb-true k truncated_type er)
    split false false false true ep eq er es = d (eqb-true k sha384_type es)
    split false false false false ep eq er es = e (eqb-false k sha1_type ep) (eqb-false k sha256_type eq) (eqb-false k truncated_type er) (eqb-false k sha384_type es)

-- a digest has as many bytes as a slot
pub width_is : (k : ℕ) → (hash_of k).width ≡ width_of k
unfolding width_of slot_widths lookup
width_is k =
    by_number (λ f. f.width ≡ width_of k) k
    (λ e. ap width_of (sym e)) (λ e. ap width_of (sym e)) (λ e. ap width_of (sym e)) (λ e. ap width_of (sym e)) (λ a b c d. misses slot_widths 0 k (omega arith))

-- THE KINDS BY THE FUNCTIONS THAT MAKE THEM

no_bytes : (m : List ℕ) → [] ≡ digest none m
unfolding digest
no_bytes m = refl

module _ (k : ℕ) (m : List ℕ) where
  -- no function
  pub of_none : width_of k ≡ 0 → replicate 48 0 ≡ digest_of k m ++ replicate (48 - width_of k) 0
  unfolding digest_of
  of_none h =
      by_number (λ f. f.width ≡ 0 → replicate 48 0 ≡ digest f m ++ replicate 48 0) k
      (λ i e. absurd (omega arith)) (λ i e. absurd (omega arith)) (λ i e. absurd (omega arith)) (λ i e. absurd (omega arith))
      (λ a b c d e. ap (λ (l : List ℕ). l ++ replicate 48 0) (no_bytes m)) (width_is k ∙ h)
      ∙ rw h

  -- words of 8 bytes
  pub of_sha384 : k ≡ sha384_type → {r : List ℕ} → r ≡ digest sha384 m → r ≡ digest_of k m ++ replicate (48 - width_of k) 0
  unfolding digest_of hash_of width_of slot_widths lookup
  of_sha384 h e = rw h (e ∙ sym (append-nil (digest sha384 m)))

  -- the first bytes of a function's digest
  pub of_cut : (f : Hash) → hash_of k ≡ cut_to (width_of k) f → width_of k ≤ f.width → take (width_of k) (digest f m) ≡ digest_of k m
  unfolding digest_of
  of_cut f ef le = sym (digest_cut f (width_of k) le m) ∙ rw (← ef)

-- words of 4 bytes have at most 32
pub narrow_width : (k : ℕ) → (k ≡ sha384_type → ⊥) → width_of k ≤ 32
narrow_width k h =
    rw (← width_is k)
    (by_number (λ f. f.width ≤ 32) k (λ e. omega arith) (λ e. omega arith) (λ e. omega arith) (λ e. absurd (h e)) (λ a b c d. omega arith))

-- the functions of words of 4 bytes, of which the kinds are cuts
pub cut_sha1 : (k : ℕ) → k ≡ sha1_type → (hash_of k ≡ cut_to (width_of k) sha1) × (width_of k ≤ 20)
unfolding hash_of width_of slot_widths lookup
cut_sha1 k e = rw e (refl, omega arith)

pub cut_sha256 : (k : ℕ) → 0 < width_of k → (k ≡ sha1_type → ⊥) → (k ≡ sha384_type → ⊥) → (hash_of k ≡ cut_to (width_of k) sha256) × (width_of k ≤ 32)
cut_sha256 k h h₁ h₄ = (
  rw (← width_is k)
      (by_number (λ f. 0 < f.width → f ≡ cut_to f.width sha256) k
      (λ i. absurd (h₁ i)) (λ i l. refl) (λ i l. refl) (λ i. absurd (h₄ i)) (λ a b c d l. absurd (omega arith)) (rw (width_is k) h)),
  narrow_width k h₄,
)

-- the two between SHA-1 and SHA-384
pub middle_sha256 : (k : ℕ) → sha256_type ≤ k → k ≤ truncated_type → (hash_of k ≡ cut_to (width_of k) sha256) × (width_of k ≤ 32)
middle_sha256 k l u = cut_sha256 k wide (omega arith) (omega arith)
  where
    wide : 0 < width_of k
    wide =
        rw (← width_is k)
        (by_number (λ f. 0 < f.width) k (λ e. omega arith) (λ e. omega arith) (λ e. omega arith) (λ e. omega arith) (λ a b c d. absurd (omega arith)))

-- EACH KIND

not_known : (k : ℕ) → width_of k ≡ 0 → (m : List ℕ) → digest_of k m ≡ []
unfolding digest_of
not_known k h m =
    by_number (λ f. f.width ≡ 0 → digest f m ≡ []) k
    (λ i e. absurd (omega arith)) (λ i e. absurd (omega arith)) (λ i e. absurd (omega arith)) (λ i e. absurd (omega arith))
    (λ a b c d e. sym (no_bytes m)) (width_is k ∙ h)

pub kinds_plainly : KindsPlainly
unfolding digest_of hash_of
kinds_plainly =
    record {
      by_sha1 = λ m. refl;
      by_sha256 = λ m. refl;
      by_truncated = λ m. digest_cut sha256 20 (omega arith) m;
      by_sha384 = λ m. refl;
      unknown = not_known;
    }

-- the number of the kind that was found
pub of_kind : {k v : HashKind} {n : ℕ} → k ≡ v → kind_number k ≡ n → kind_number v ≡ n
of_kind e h = ap kind_number (sym e) ∙ h

-- the two kinds that are cuts of SHA-256
pub cut_kind : (k : HashKind) (n : ℕ) → (k ≡ kind.Sha256) ⊎ (k ≡ kind.Sha256Truncated) → kind_number k ≡ n → (sha256_type ≤ n) × (n ≤ truncated_type)
cut_kind k n (inl e) h = let m = of_kind e h in (omega arith, omega arith)
cut_kind k n (inr e) h = let m = of_kind e h in (omega arith, omega arith)
