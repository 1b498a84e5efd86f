-- What is found: where tests 1 to 9 pass every blob lies inside the signature, so the one at a type's position is all there. A type stands at one
-- position at most.
use Prim.Native.Nat.{ℕ, ◌+◌, ◌-◌, ◌<◌, ◌≤◌}
use mathlib.Core.Bool.{true}
use mathlib.Core.List.{List, []}
use mathlib.Core.Path.{◌≡◌, refl, sym, ap, ap₂, ◌∙◌}
use native.Mathlib.Nat.{add-zero}
use native.Mathlib.Omega.{arith}
use lib.ListN.{length, take, drop, length-drop}
use lib.Seq.{length-take-le}
use Rattle.endian.specs.Numbers.{big}
use Rattle.endian.proofs.Numbers.{big_part}
use Rattle.refusals.specs.Refusals.{Passes, first, accepted}
use Rattle.refusals.proofs.Conditions.{said, pick_yes, pick_no}
use Rattle.refusals.proofs.Exact.{passes_zero, passed}
use Rattle.refusals.proofs.Positions.{lowest_fails, none_fails, first_fails}
use Rattle.layout.specs.SuperBlob.{count, type_at, offset_at, blob_magic, blob_length}
use Rattle.superblob.specs.Rows.{magic_of, rows, of_type, position, has, present, start_of, blob_start, blob_end, blob_at, blob_of, blob}
use Rattle.superblob.specs.Formed.{Formed}
use Rattle.superblob.specs.Lookup.{Lookups}
use Rattle.superblob.proofs.Formed.{formed}
use Rattle.superblob.proofs.Numbers.{rows_unused}

-- POSITIONS

pub has_type : (s : List ℕ) (t : ℕ) → position s t < count s → type_at s (position s t) ≡ t
unfolding position of_type
has_type s t h = said true (of_type s t (position s t)) (lowest_fails (of_type s t) (count s) h)

-- the one position that has a type is the type's position
pub at_position : (s : List ℕ) → Formed s → (i t : ℕ) → i < count s → type_at s i ≡ t → position s t ≡ i
unfolding position of_type
at_position s f i t h e = first_fails (of_type s t) (count s) i h (λ j u q. f.distinct j i u h (q ∙ sym e)) e

-- a type that the index has, has a position
pub has_position : (s : List ℕ) → Formed s → (i t : ℕ) → i < count s → type_at s i ≡ t → position s t < count s
has_position s f i t h e = rw (at_position s f i t h e) h

-- THE BLOB AT A TYPE'S POSITION

part_is : (s : List ℕ) (t : ℕ) → blob_of s t ≡ take (blob_length s (position s t)) (drop (offset_at s (position s t)) s)
unfolding blob_of blob_at
part_is s t = refl

-- the blob of a type is the one at the position that has it
pub blob_of_at : (s : List ℕ) → Formed s → (i t : ℕ) → i < count s → type_at s i ≡ t → blob_of s t ≡ blob_at s i
unfolding blob_of
blob_of_at s f i t h e = ap (blob_at s) (at_position s f i t h e)

opens : (s : List ℕ) (i : ℕ) → big 4 s (offset_at s i + 0) ≡ blob_magic s i
unfolding blob_magic
opens s i = ap (big 4 s) (add-zero (offset_at s i))

states : (s : List ℕ) (i : ℕ) → big 4 s (offset_at s i + 4) ≡ blob_length s i
unfolding blob_length
states s i = refl

-- the blob at the position of type t, of a SuperBlob that is well formed
record FoundBlob (s : List ℕ) (t : ℕ) : Type 0 where
  length_is : length (blob_of s t) ≡ blob_length s (position s t)
  magic_is : big 4 (blob_of s t) 0 ≡ magic_of t
  states_length : big 4 (blob_of s t) 4 ≡ length (blob_of s t)

found_blob : (s : List ℕ) (t : ℕ) → Formed s → position s t < count s → FoundBlob s t
found_blob s t f h =
    let i = position s t in
    let o = f.inside i h in
    let w = part_is s t in
    let l : length (take (blob_length s i) (drop (offset_at s i) s)) ≡ blob_length s i =
    length-take-le (blob_length s i) (drop (offset_at s i) s) (omega (arith, f.lent, length-drop (offset_at s i) s)) in
    let m : length (blob_of s t) ≡ blob_length s i = ap length w ∙ l in
    let y = has_type s t h in
    let g : (n k : ℕ) → k + n ≤ length (blob_of s t) → big n (blob_of s t) k ≡ big n s (offset_at s i + k) =
    λ n k q. rw w (big_part n (blob_length s i) (offset_at s i) k s (omega arith)) in
    record {
      length_is = m;
      magic_is = g 4 0 (omega arith) ∙ opens s i ∙ o.right_magic ∙ ap magic_of y;
      states_length = g 4 4 (omega arith) ∙ states s i ∙ sym m;
    }

-- THE LOOKUP

-- it hands back the blob at the type's position ..
pub blob_found : (s : List ℕ) (t : ℕ) → Passes (rows 0 s) → position s t < count s → blob s t ≡ blob_of s t
unfolding blob blob_start blob_end present has
blob_found s t p h =
    let e = passes_zero (rows 0 s) accepted refl p in
    let i = position s t in
    let a = pick_yes (present s t) (start_of s t) 0 (start_of s t) (e, h) refl in
    let b = pick_yes (present s t) (start_of s t + blob_length s i) 0 (start_of s t + blob_length s i) (e, h) refl in
    let m : blob_end s t - blob_start s t ≡ blob_length s i = omega arith in
    ap₂ (λ (n o : ℕ). take n (drop o s)) m (sym a) ∙ sym (part_is s t)

-- .. or nothing
nothing : (s : List ℕ) (t : ℕ) → ((first (rows 0 s) accepted).number ≡ 0 → count s ≤ position s t) → blob s t ≡ []
unfolding blob blob_start blob_end present has
nothing s t no-blob =
    let a = pick_no (present s t) (start_of s t) 0 0 no-blob refl in
    let b = pick_no (present s t) (start_of s t + blob_length s (position s t)) 0 0 no-blob refl in
    ap₂ (λ (n o : ℕ). take (n - o) (drop o s)) (sym b) (sym a)

-- no position has the type: the search ends at the count
no_position : (s : List ℕ) (t : ℕ) → ((i : ℕ) → i < count s → type_at s i ≡ t → ⊥) → position s t ≡ count s
unfolding position of_type
no_position s t h = none_fails (of_type s t) (count s) h

-- what is found at the position that has the type, of the part that is handed back
module _ (s : List ℕ) (t : ℕ) (p : Passes (rows 0 s)) (i : ℕ) (h : i < count s) (e : type_at s i ≡ t) where
  found_here : blob s t ≡ blob_of s t
  found_here = blob_found s t p (has_position s (formed 0 s p) i t h e)

  found : FoundBlob s t
  found = found_blob s t (formed 0 s p) (has_position s (formed 0 s p) i t h e)

  found_at : blob s t ≡ blob_at s i
  found_at = found_here ∙ blob_of_at s (formed 0 s p) i t h e

  found_long : length (blob s t) ≡ blob_length s i
  found_long = ap length found_here ∙ found.length_is ∙ ap (blob_length s) (at_position s (formed 0 s p) i t h e)

  found_opens : (big 4 (blob s t) 0 ≡ magic_of t) × (big 4 (blob s t) 4 ≡ length (blob s t))
  found_opens = rw found_here (found.magic_is, found.states_length)

pub lookups : Lookups
lookups s t =
    record {
      finds = found_at s t;
      long = found_long s t;
      opens = found_opens s t;
      none = λ h. nothing s t (λ e. omega (arith, no_position s t h));
      refused = λ n. nothing s t (λ e. absurd (n (passed (rows 0 s) accepted 0 (rows_unused 0 s) e)));
    }
