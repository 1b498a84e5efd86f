-- Two signatures that differ in free bytes alone: tests 1 to 9 answer the same, and where they pass every blob that is read has the same bytes.
-- Each number that a test reads stands in bytes that are not free wherever the tests before it pass: tests 5 to 9 read the index, and a blob's head
-- only where it ends inside the SuperBlob. Assumes nothing.
use Prim.Native.Nat.{ℕ, ◌+◌, ◌*◌, ◌<◌, ◌≤◌}
use mathlib.Core.Bool.{false}
use mathlib.Core.List.{List, [], ◌∷◌, ◌++◌}
use mathlib.Core.Path.{◌≡◌, sym, ap, ap₂, ◌∙◌}
use native.Mathlib.Nat.{add_assoc}
use native.Mathlib.Omega.{arith}
use lib.ListN.{length, get_or, take, drop, length-take, length-drop}
use lib.Seq.{ext_get_or, get_or-take, get_or-drop}
use Rattle.endian.specs.Numbers.{big}
use Rattle.endian.proofs.Numbers.{big_same}
use Rattle.refusals.specs.declared.Answer.{Answer}
use Rattle.refusals.specs.Refusals.{◌<?◌, ◌≡?◌, holds, lowest, Row, over, first, Passes}
use Rattle.refusals.proofs.Conditions.{said}
use Rattle.refusals.proofs.Positions.{lowest_below}
use Rattle.refusals.proofs.Alike.{first_behind, or_behind, lowest_same, over_same}
use Rattle.layout.specs.SuperBlob.{super_head, index_entry, blob_head, magic, super_length, count, index_end, type_at, offset_at, blob_magic, blob_length}
use Rattle.superblob.specs.Rows.{unknown, same_type, repeated, outside, wrong_magic, shared, overlaps, head_rows, index_rows, rows, of_type, position, has, blob_at, blob_of}
use Rattle.superblob.specs.Formed.{Formed}
use Rattle.superblob.proofs.Formed.{formed}
use Rattle.superblob.proofs.Lookup.{has_type}
use Rattle.admission.specs.Ignored.{Opaque, Free, padding, unread, SameRead}

-- tests 5 to 7
abbrev frame_rows : List ℕ → List Row
frame_rows s = over 5 (count s) (unknown s) ∷ over 6 (count s) (repeated s) ∷ over 7 (count s) (outside s) ∷ []

-- tests 8 and 9
abbrev content_rows : List ℕ → List Row
content_rows s = over 8 (count s) (wrong_magic s) ∷ over 9 (count s) (overlaps s) ∷ []

-- two lists of one length that agree in n bytes from o on have the same part there
pub part_same : (n o : ℕ) (l m : List ℕ) → length l ≡ length m → ((j : ℕ) → j < n → get_or l (o + j) 0 ≡ get_or m (o + j) 0)
    → take n (drop o l) ≡ take n (drop o m)
part_same n o l m e h =
    let a = length-take n (drop o l) in
    let b = length-take n (drop o m) in
    let c = length-drop o l in
    let d = length-drop o m in
    ext_get_or 0 (take n (drop o l)) (take n (drop o m)) (omega arith)
    (λ j u.
    let v : j < n = omega arith in
    get_or-take n (drop o l) j 0 v ∙ get_or-drop o l j 0 ∙ h j v ∙ sym (get_or-take n (drop o m) j 0 v ∙ get_or-drop o m j 0))

-- BYTES THAT ARE NOT FREE

-- those of the SuperBlob's head
head_read : (s : List ℕ) (j : ℕ) → j < super_head → Free s j → ⊥
unfolding index_end
head_read s j h (padding a b) = omega arith
head_read s j h (unread a e) = omega arith

-- those of an index inside the SuperBlob
index_read : (s : List ℕ) (j : ℕ) → index_end s ≤ super_length s → j < index_end s → Free s j → ⊥
index_read s j u h (padding a b) = omega arith
index_read s j u h (unread a e) = omega arith

-- those of a blob's head that ends inside the SuperBlob
blob_head_read : (s : List ℕ) (i k : ℕ) → i < count s → offset_at s i + blob_head ≤ super_length s → k < blob_head → Free s (offset_at s i + k) → ⊥
blob_head_read s i k h u l (padding a b) = omega arith
blob_head_read s i k h u l (unread a e) = (e i h).0 (omega arith, omega arith)

-- those of a blob that is read and ends inside the SuperBlob
blob_read : (s : List ℕ) (i k : ℕ) → i < count s → (Opaque (type_at s i) → ⊥) → offset_at s i + blob_length s i ≤ super_length s
    → k < blob_length s i → Free s (offset_at s i + k) → ⊥
blob_read s i k h o u l (padding a b) = omega arith
blob_read s i k h o u l (unread a e) = o ((e i h).1 (omega arith, omega arith))

module _ (s t : List ℕ) (same : SameRead s t) where
  -- a number in bytes that are not free is the same
  number_same : (n at : ℕ) → ((i : ℕ) → i < n → Free s (at + i) → ⊥) → big n s at ≡ big n t at
  number_same n at h = big_same n s t at at (λ i l. same.bytes (at + i) (h i l))

  -- THE HEAD: tests 1 to 4

  -- its numbers

  magic_same : magic s ≡ magic t
  unfolding magic
  magic_same = number_same 4 0 (λ i l. head_read s (0 + i) (omega arith))

  super_length_same : super_length s ≡ super_length t
  unfolding super_length
  super_length_same = number_same 4 4 (λ i l. head_read s (4 + i) (omega arith))

  pub count_same : count s ≡ count t
  unfolding count
  count_same = number_same 4 8 (λ i l. head_read s (8 + i) (omega arith))

  index_end_same : index_end s ≡ index_end t
  unfolding index_end
  index_end_same = rw count_same

  -- and so the tests themselves
  head_rows_same : (side : ℕ) → head_rows side s ≡ head_rows side t
  unfolding head_rows
  head_rows_same side = rw (same.long, magic_same, super_length_same, count_same, index_end_same)

  -- THE INDEX, inside the SuperBlob: tests 5 to 7

  module _ (room : index_end s ≤ super_length s) where
    -- the index, and the head of a blob that has its head inside

    type_at_same : (i : ℕ) → i < count s → type_at s i ≡ type_at t i
    unfolding type_at index_end
    type_at_same i h = number_same 4 (super_head + index_entry * i) (λ k l. index_read s (super_head + index_entry * i + k) room (omega arith))

    offset_at_same : (i : ℕ) → i < count s → offset_at s i ≡ offset_at t i
    unfolding offset_at index_end
    offset_at_same i h = number_same 4 (super_head + 4 + index_entry * i) (λ k l. index_read s (super_head + 4 + index_entry * i + k) room (omega arith))

    blob_magic_same : (i : ℕ) → i < count s → offset_at s i + blob_head ≤ super_length s → blob_magic s i ≡ blob_magic t i
    unfolding blob_magic
    blob_magic_same i h o =
        number_same 4 (offset_at s i) (λ k l. blob_head_read s i k h o (omega arith)) ∙ ap (big 4 t) (offset_at_same i h)

    blob_length_same : (i : ℕ) → i < count s → offset_at s i + blob_head ≤ super_length s → blob_length s i ≡ blob_length t i
    unfolding blob_length
    blob_length_same i h o =
        number_same 4 (offset_at s i + 4) (λ k l. rw (add_assoc (offset_at s i) 4 k) (blob_head_read s i (4 + k) h o (omega arith)))
        ∙ ap (λ (x : ℕ). big 4 t (x + 4)) (offset_at_same i h)

    -- what fails at a position

    unknown_same : (i : ℕ) → i < count s → unknown s i ≡ unknown t i
    unfolding unknown
    unknown_same i h = rw (type_at_same i h)

    repeated_same : (i : ℕ) → i < count s → repeated s i ≡ repeated t i
    unfolding repeated same_type
    repeated_same i h =
        ap (λ (x : ℕ). x <? i)
        (lowest_same (same_type s i) (same_type t i) i (λ j l. ap holds (ap₂ ◌≡?◌ (type_at_same j (omega arith)) (type_at_same i h))))

    -- a head that is not inside fails whatever length it states
    outside_same : (i : ℕ) → i < count s → holds (outside s i) ≡ holds (outside t i)
    unfolding outside
    outside_same i h =
        rw (← offset_at_same i h, ← index_end_same, ← super_length_same)
        (or_behind (offset_at s i <? index_end s) _ _
        (λ a. or_behind (super_length s <? offset_at s i + blob_head) _ _ (λ b. rw (blob_length_same i h b))))

    -- and so tests 5 to 7 as rows
    frame_rows_same : frame_rows s ≡ frame_rows t
    frame_rows_same =
        let a : over 5 (count s) (unknown s) ≡ over 5 (count t) (unknown t) =
        over_same 5 (count s) (count t) (unknown s) (unknown t) count_same (λ i h. ap holds (unknown_same i h)) in
        let b : over 6 (count s) (repeated s) ≡ over 6 (count t) (repeated t) =
        over_same 6 (count s) (count t) (repeated s) (repeated t) count_same (λ i h. ap holds (repeated_same i h)) in
        let d : over 7 (count s) (outside s) ≡ over 7 (count t) (outside t) =
        over_same 7 (count s) (count t) (outside s) (outside t) count_same outside_same in
        cc

    -- THE BLOBS, inside the SuperBlob: tests 8 and 9

    module _ (inside : Passes (frame_rows s)) where
      -- then every head is inside
      head_inside : (i : ℕ) → i < count s → offset_at s i + blob_head ≤ super_length s
      unfolding outside
      head_inside i h = (said false (outside s i) (lowest_below (outside s) (count s) (omega arith) i h)).1.0

      -- what fails at a position, and tests 8 and 9 as rows

      wrong_magic_same : (i : ℕ) → i < count s → wrong_magic s i ≡ wrong_magic t i
      unfolding wrong_magic
      wrong_magic_same i h = rw (blob_magic_same i h (head_inside i h), type_at_same i h)

      shared_same : (i j : ℕ) → i < count s → j < count s → shared s i j ≡ shared t i j
      unfolding shared
      shared_same i j h k =
          rw (blob_length_same i h (head_inside i h), blob_length_same j k (head_inside j k), offset_at_same i h, offset_at_same j k)

      overlaps_same : (i : ℕ) → i < count s → overlaps s i ≡ overlaps t i
      unfolding overlaps
      overlaps_same i h =
          ap (λ (x : ℕ). x <? i)
          (lowest_same (shared s i) (shared t i) i (λ j l. ap holds (shared_same i j h (omega arith))))

      content_rows_same : content_rows s ≡ content_rows t
      content_rows_same =
          let a : over 8 (count s) (wrong_magic s) ≡ over 8 (count t) (wrong_magic t) =
          over_same 8 (count s) (count t) (wrong_magic s) (wrong_magic t) count_same (λ i h. ap holds (wrong_magic_same i h)) in
          let b : over 9 (count s) (overlaps s) ≡ over 9 (count t) (overlaps t) =
          over_same 9 (count s) (count t) (overlaps s) (overlaps t) count_same (λ i h. ap holds (overlaps_same i h)) in
          cc

  -- TESTS 1 TO 9

  -- the index has room where tests 1 to 4 pass
  has_room : (side : ℕ) → Passes (head_rows side s) → index_end s ≤ super_length s
  unfolding head_rows
  has_room side p = omega arith

  -- tests 5 to 9, where 1 to 4 pass
  index_rows_same : (side : ℕ) (done : Answer) → Passes (head_rows side s) → first (index_rows s) done ≡ first (index_rows t) done
  unfolding index_rows
  index_rows_same side done p =
      let room = has_room side p in
      first_behind (frame_rows s) (content_rows s) (content_rows t) done done (λ q. ap (λ (r : List Row). first r done) (content_rows_same room q))
      ∙ ap (λ (r : List Row). first (r ++ content_rows t) done) (frame_rows_same room)

  -- all, whatever stands behind them
  pub rows_same : (side : ℕ) (done : Answer) → first (rows side s) done ≡ first (rows side t) done
  unfolding rows
  rows_same side done =
      first_behind (head_rows side s) (index_rows s) (index_rows t) done done (index_rows_same side done)
      ∙ ap (λ (r : List Row). first (r ++ index_rows t) done) (head_rows_same side)

  -- THE BLOBS THAT ARE READ, where tests 1 to 9 pass

  module _ (side : ℕ) (passing : Passes (rows side s)) where
    well_formed : Formed s
    well_formed = formed side s passing

    -- a type stands at the same position
    pub position_same : (k : ℕ) → position s k ≡ position t k
    unfolding position of_type
    position_same k =
        lowest_same (of_type s k) (of_type t k) (count s) (λ i h. ap (λ (x : ℕ). holds (x ≡? k)) (type_at_same well_formed.holds_index i h))
        ∙ ap (lowest (of_type t k)) count_same

    -- so that both have it or neither
    pub has_same : (k : ℕ) → has s k ≡ has t k
    unfolding has
    has_same k = rw (position_same k, count_same)

    -- a blob that is read has the same bytes, by its position
    blob_at_same : (i : ℕ) → i < count s → (Opaque (type_at s i) → ⊥) → blob_at s i ≡ blob_at t i
    unfolding blob_at
    blob_at_same i h read =
        let o = well_formed.inside i h in
        part_same (blob_length s i) (offset_at s i) s t same.long
        (λ k l. same.bytes (offset_at s i + k) (blob_read s i k h read o.ends_inside l))
        ∙ ap₂ (λ (n at : ℕ). take n (drop at t)) (blob_length_same well_formed.holds_index i h (omega arith)) (offset_at_same well_formed.holds_index i h)

    -- .. and by its type
    pub blob_same : (k : ℕ) → (Opaque k → ⊥) → position s k < count s → blob_of s k ≡ blob_of t k
    unfolding blob_of
    blob_same k read h =
        blob_at_same (position s k) h (λ o. read (rw (has_type s k h) at o)) ∙ ap (blob_at t) (position_same k)
