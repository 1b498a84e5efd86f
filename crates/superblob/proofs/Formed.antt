-- Tests 1 to 9 and the SuperBlob that is well formed: position by position each test is turned round.
use Prim.Native.Nat.{ℕ, ◌+◌, ◌<◌, ◌≤◌}
use mathlib.Core.Bool.{Bool, true, false}
use mathlib.Core.List.{List}
use mathlib.Core.Logic.{◌⊎◌, inl, inr, ⊎_elim}
use mathlib.Core.Path.{◌≡◌, refl}
use lib.Dec.{ltb}
use borrow.Author.Tests.{ltb-true, ltb-false}
use native.Mathlib.Omega.{arith}
use Rattle.refusals.specs.Refusals.{Passes}
use Rattle.refusals.proofs.Conditions.{said}
use Rattle.refusals.proofs.Positions.{lowest_below, none_fails}
use Rattle.layout.specs.SuperBlob.{count, offset_at, blob_length}
use Rattle.superblob.specs.Rows.{most_side, unknown, same_type, repeated, outside, wrong_magic, shared, overlaps, head_rows, index_rows, rows}
use Rattle.superblob.specs.Formed.{Formed, FormedExactly}

one_before : (a la b lb : ℕ) → (b < a + la → b + lb ≤ a) → (a + la ≤ b) ⊎ (b + lb ≤ a)
one_before a la b lb h = by_test (ltb b (a + la)) refl
  where
    by_test : (t : Bool) → ltb b (a + la) ≡ t → (a + la ≤ b) ⊎ (b + lb ≤ a)
    by_test true e = inr (h (ltb-true b (a + la) e))
    by_test false e = inl (ltb-false b (a + la) e)

pub formed : (side : ℕ) (s : List ℕ) → Passes (rows side s) → Formed s
unfolding rows head_rows index_rows unknown same_type repeated outside wrong_magic shared overlaps
formed side s p =
    record {
      long = omega arith;
      short = omega arith;
      right_magic = omega arith;
      some_blob = omega arith;
      few_blobs = omega arith;
      holds_index = omega arith;
      lent = omega arith;
      inside =
          λ i h.
          let o = said false (outside s i) (lowest_below (outside s) (count s) (omega arith) i h) in
          record {
            known = said false (unknown s i) (lowest_below (unknown s) (count s) (omega arith) i h);
            right_magic = said false (wrong_magic s i) (lowest_below (wrong_magic s) (count s) (omega arith) i h);
            after_index = omega arith;
            has_head = omega arith;
            ends_inside = omega arith;
          };
      distinct =
          λ i j h k.
          let r = said false (repeated s j) (lowest_below (repeated s) (count s) (omega arith) j k) in
          said false (same_type s j i) (lowest_below (same_type s j) j (omega arith) i h);
      apart =
          λ i j h k.
          let r = said false (overlaps s j) (lowest_below (overlaps s) (count s) (omega arith) j k) in
          one_before (offset_at s i) (blob_length s i) (offset_at s j) (blob_length s j)
          (said false (shared s j i) (lowest_below (shared s j) j (omega arith) i h));
    }

-- test 1 limits the side files
side_short : (side : ℕ) (s : List ℕ) → Passes (rows side s) → side ≤ most_side
unfolding rows head_rows
side_short side s p = p.0.1.1

apart_passes : (a la b lb : ℕ) → (b + lb ≤ a) ⊎ (a + la ≤ b) → a < b + lb → a + la ≤ b
apart_passes a la b lb h l = ⊎_elim (λ u. absurd (omega arith)) (λ u. u) h

-- and the other way: tests 1 to 9 pass where the SuperBlob is such and no side file is too long
pub formed_passes : (side : ℕ) (s : List ℕ) → Formed s → side ≤ most_side → Passes (rows side s)
unfolding rows head_rows index_rows unknown same_type repeated outside wrong_magic shared overlaps
formed_passes side s f l =
    let known = none_fails (unknown s) (count s) (λ i h. (f.inside i h).known) in
    let once =
    none_fails (repeated s) (count s)
    (λ i h. let q = none_fails (same_type s i) i (λ j u. f.distinct j i u h) in omega arith) in
    let inside = none_fails (outside s) (count s) (λ i h. let o = f.inside i h in (omega arith)) in
    let magic = none_fails (wrong_magic s) (count s) (λ i h. (f.inside i h).right_magic) in
    let apart =
    none_fails (overlaps s) (count s)
    (λ i h. let q = none_fails (shared s i) i (λ j u. apart_passes (offset_at s i) (blob_length s i) (offset_at s j) (blob_length s j) (f.apart j i u h)) in
    omega arith) in
    omega arith

pub formed_exactly : FormedExactly
formed_exactly side s = ((λ p. (formed side s p, side_short side s p)), λ w. formed_passes side s w.0 w.1)
