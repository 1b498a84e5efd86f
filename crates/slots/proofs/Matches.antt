-- Tests 21 to 23 and their plain words. What is wrong at a slot is decided by three tests, so the proof goes by their outcomes: the slot is filled
-- where a byte is not zero, the thing is there where its type stands in the index, and the digests agree where they are equal.
use Prim.Native.Nat.{ℕ, zero, suc, ◌+◌, ◌<◌, ◌≤◌}
use mathlib.Core.Bool.{Bool, true, false, cond, not, ◌&&◌, true≢false, false≢true}
use mathlib.Core.List.{List, [], ◌∷◌}
use mathlib.Core.Logic.{◌⊎◌, inl, inr}
use mathlib.Core.Path.{◌≡◌, refl, sym, ap, ◌∙◌}
use native.Mathlib.Omega.{arith}
use lib.Dec.{eqb}
use borrow.Author.Tests.{eqb-true, eqb-false, ne_eqb}
use Rattle.digest.specs.Kinds.{digest_of}
use Rattle.digest.specs.Same.{same}
use Rattle.digest.proofs.Equality.{same_equal, equal_same}
use Rattle.refusals.specs.Ranges.{lookup}
use Rattle.refusals.specs.Refusals.{holds, OneOf}
use Rattle.refusals.proofs.Conditions.{says, said}
use Rattle.refusals.proofs.Several.{clear_passes, passes_clear}
use Rattle.layout.specs.SuperBlob.{count, type_at}
use Rattle.layout.specs.CodeDirectory.{hash_type}
use Rattle.superblob.specs.Rows.{slot_magics, magic_of, position, has, blob_of}
use Rattle.superblob.specs.Formed.{Formed}
use Rattle.superblob.proofs.Lookup.{has_type, has_position, blob_of_at}
use Rattle.directory.specs.Rows.{most_special_slots, special_slot}
use Rattle.slots.specs.Slots.{Sides, is_empty, nothing, there, thing, fault_of, fault, special_rows}
use Rattle.slots.specs.Matches.{Filled, Empty, Thing, info_plist, code_resources, of_blob, Matches, MatchesExactly}
use Rattle.slots.proofs.Zeros.{all_zero_at, every_zero, not_all_zero, some_not_zero}

-- THE FAULT

-- it is 21, 22 or 23, or 0
fault_one : (e t a : Bool) → OneOf (21 ∷ 22 ∷ 23 ∷ []) (fault_of e t a)
unfolding fault_of
fault_one false false a = inl refl
fault_one false true false = inr (inl refl)
fault_one false true true = inr (inr (inr refl))
fault_one true true a = inr (inr (inl refl))
fault_one true false a = inr (inr (inr refl))

zero_either : (t : Bool) → cond {A = ℕ} t 0 0 ≡ 0
zero_either true = refl
zero_either false = refl

pub fault_known : (s d : List ℕ) (x : Sides) (k : ℕ) → OneOf (21 ∷ 22 ∷ 23 ∷ []) (fault s d x k)
unfolding fault
fault_known s d x k = by_test (eqb k 0)
  where
    by_test : (t : Bool) → OneOf (21 ∷ 22 ∷ 23 ∷ []) (cond t 0 (fault_of (is_empty d k) (there s x k) (same (digest_of (hash_type d) (thing s x k)) (special_slot d k))))
    by_test true = inr (inr (inr refl))
    by_test false = fault_one (is_empty d k) (there s x k) (same (digest_of (hash_type d) (thing s x k)) (special_slot d k))

-- THE SLOT

-- a slot that is not empty has a byte that is not zero, and only such a slot
filled_bytes : (d : List ℕ) (k : ℕ) → is_empty d k ≡ false → Filled d k
unfolding is_empty
filled_bytes d k e = some_not_zero (special_slot d k) e

bytes_filled : (d : List ℕ) (k : ℕ) → Filled d k → is_empty d k ≡ false
unfolding is_empty
bytes_filled d k h = sym (not_all_zero (special_slot d k) h.0 h.1)

-- an empty slot has only zero bytes, and only such a slot
empty_bytes : (d : List ℕ) (k : ℕ) → is_empty d k ≡ true → Empty d k
unfolding is_empty
empty_bytes d k e = all_zero_at (special_slot d k) e

bytes_empty : (d : List ℕ) (k : ℕ) → Empty d k → is_empty d k ≡ true
unfolding is_empty
bytes_empty d k h = sym (every_zero (special_slot d k) (λ i l. h i))

-- THE THING

-- no blob of a SuperBlob that is well formed has type 4 or 6
magic_none : (k : ℕ) → (k ≡ 4) ⊎ (k ≡ 6) → magic_of k ≡ 0
unfolding magic_of slot_magics lookup
magic_none k (inl e) = rw e
magic_none k (inr e) = rw e

module _ (s : List ℕ) (x : Sides) (f : Formed s) where
  -- a type that stands in the index has a blob at its position
  blob_there : (k : ℕ) → (k ≡ 1 → ⊥) → (k ≡ 3 → ⊥) → holds (has s k) ≡ true → Thing s x k (blob_of s k)
  unfolding has blob_of
  blob_there k n1 n3 e =
      let h : position s k < count s = said true (has s k) (sym e) in
      of_blob (position s k) n1 n3 h (has_type s k h)

  -- what the test takes for there is there
  there_thing : (k : ℕ) → there s x k ≡ true → Thing s x k (thing s x k)
  unfolding there thing
  there_thing k e = by_tests (eqb k 1) refl (eqb k 3) refl (nothing k) e
    where
      by_tests : (a : Bool) → eqb k 1 ≡ a → (b : Bool) → eqb k 3 ≡ b → (n : Bool)
          → cond a x.info_there (cond b x.resources_there (not n && holds (has s k))) ≡ true
          → Thing s x k (cond a x.info (cond b x.resources (blob_of s k)))
      by_tests true p b q n e = rw (eqb-true k 1 p) (info_plist e)
      by_tests false p true q n e = rw (eqb-true k 3 q) (code_resources e)
      by_tests false p false q true e = absurd (false≢true e)
      by_tests false p false q false e = blob_there k (eqb-false k 1 p) (eqb-false k 3 q) e

  -- a blob's type is neither 4 nor 6
  known : (i k : ℕ) → i < count s → type_at s i ≡ k → (k ≡ 4) ⊎ (k ≡ 6) → ⊥
  known i k h e o = (f.inside i h).known (ap magic_of e ∙ magic_none k o)

  holds_type : (i k : ℕ) → i < count s → type_at s i ≡ k → holds (has s k) ≡ true
  unfolding has
  holds_type i k h e = sym (says true (has s k) (has_position s f i k h e))

  -- and what is there the test takes for there, with its bytes
  thing_there : (k : ℕ) (b : List ℕ) → Thing s x k b → (there s x k ≡ true) × (thing s x k ≡ b)
  unfolding there thing
  thing_there _ _ (info_plist e) = (e, refl)
  thing_there _ _ (code_resources e) = (e, refl)
  thing_there k _ (of_blob i n1 n3 h e) = (
    rw (ne_eqb k 1 n1, ne_eqb k 3 n3, ne_eqb k 4 (λ q. known i k h e (inl q)), ne_eqb k 6 (λ q. known i k h e (inr q))) (holds_type i k h e),
    rw (ne_eqb k 1 n1, ne_eqb k 3 n3) (blob_of_at s f i k h e),
  )

  -- THE RULE

  module _ (d : List ℕ) where
    -- no fault is left in two of the cases alone
    by_tests : (k : ℕ) (f t a : Bool) → is_empty d k ≡ f → there s x k ≡ t → same (digest_of (hash_type d) (thing s x k)) (special_slot d k) ≡ a
        → fault_of f t a ≡ 0 → Matches s d x k
    unfolding fault_of
    by_tests k false false a p q r e = absurd (omega arith)
    by_tests k false true false p q r e = absurd (omega arith)
    by_tests k false true true p q r e = inl (filled_bytes d k p, (thing s x k, (there_thing k q, same_equal _ _ r)))
    by_tests k true true a p q r e = absurd (omega arith)
    by_tests k true false a p q r e = inr (empty_bytes d k p, λ b t. true≢false (sym (thing_there k b t).0 ∙ q))

    clear_matches : (k : ℕ) → 1 ≤ k → fault s d x k ≡ 0 → Matches s d x k
    unfolding fault
    clear_matches k l e = by_tests k _ _ _ refl refl refl (rw (ne_eqb k 0 (omega arith)) at e)

    nothing_there : (k : ℕ) → ((b : List ℕ) → Thing s x k b → ⊥) → there s x k ≡ false
    nothing_there k none = by_test (there s x k) refl
      where
        by_test : (t : Bool) → there s x k ≡ t → there s x k ≡ false
        by_test true e = absurd (none (thing s x k) (there_thing k e))
        by_test false e = e

    -- .. and there is none in these
    matches_clear : (k : ℕ) → Matches s d x k → fault s d x k ≡ 0
    unfolding fault fault_of
    matches_clear k (inl (p, (b, (t, r)))) =
        let w = thing_there k b t in
        rw (bytes_filled d k p, w.0, equal_same _ _ (ap (digest_of (hash_type d)) w.1 ∙ r)) (zero_either (eqb k 0))
    matches_clear k (inr (p, none)) = rw (bytes_empty d k p, nothing_there k none) (zero_either (eqb k 0))

    slot_clear : ((k : ℕ) → 1 ≤ k → k ≤ most_special_slots → Matches s d x k) → (k : ℕ) → k < most_special_slots + 1 → fault s d x k ≡ 0
    unfolding fault
    slot_clear h zero l = refl
    slot_clear h (suc k) l = matches_clear (suc k) (h (suc k) (omega arith) (omega arith))

pub matches_exactly : MatchesExactly
unfolding special_rows
matches_exactly s d x f = (
  (λ p k l u. clear_matches s x f d k l (passes_clear (most_special_slots + 1) (fault s d x) (21 ∷ 22 ∷ 23 ∷ []) (λ i m. fault_known s d x i) p k (omega arith))),
  λ h. clear_passes (most_special_slots + 1) (fault s d x) (21 ∷ 22 ∷ 23 ∷ []) (slot_clear s x f d h),
)
