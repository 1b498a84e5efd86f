-- The slots inside the directory: test 17 in plain words, both ways, and the code slots as a part of it.
use Prim.Native.Nat.{ℕ, zero, suc, ◌+◌, ◌-◌, ◌*◌, ◌<◌, ◌≤◌}
use mathlib.Core.Bool.{Bool, true, false}
use mathlib.Core.List.{List, [], ◌∷◌}
use mathlib.Core.Path.{◌≡◌, refl, sym, ap, ◌∙◌}
use native.Mathlib.Nat.{le_refl, mul-zero, mul-one, one-mul, mul-le-mul_right}
use native.Mathlib.Omega.{arith}
use lib.Dec.{ltb}
use lib.ListN.{length, take, drop, length-drop}
use lib.Seq.{length-take-le, take-nil, take-take, drop-drop}
use borrow.Author.Tests.{ltb-true, ltb-false}
use Rattle.refusals.specs.Refusals.{◌or◌, Says}
use Rattle.layout.specs.CodeDirectory.{slot_width, hash_offset, n_special_slots, n_code_slots}
use Rattle.layout.proofs.Widths.{slot_end, slot_back, last_end}
use Rattle.directory.specs.Rows.{code_slot, code_slots, special_outside, code_outside}
use Rattle.directory.specs.Formed.{SlotsInside}

-- test 17 passes exactly then
pub slots_inside : (d : List ℕ) → (Says false (special_outside d or code_outside d) → SlotsInside d) × (SlotsInside d → Says false (special_outside d or code_outside d))
unfolding special_outside code_outside
slots_inside d = (
  (λ h.
      record {
        special = λ k p q.
            let w = h.0 (omega arith) in
            let b = slot_back (slot_width d) k (n_special_slots d) p q in
            (omega arith, omega arith);
        code = λ i p.
            let w = h.1 (omega arith) in
            let b = slot_end (slot_width d) i (n_code_slots d) p in
            (omega arith, omega arith);
      }),
  λ w. (
    (λ p.
        let a = w.special (n_special_slots d) p (le_refl (n_special_slots d)) in
        let b = w.special 1 (omega arith) (omega arith) in
        let c = mul-one (slot_width d) in
        (omega arith, omega arith)),
    λ p.
        let a = w.code 0 p in
        let b = w.code (n_code_slots d - 1) (omega arith) in
        let c = mul-zero (slot_width d) in
        let e = last_end (slot_width d) (n_code_slots d) p in
        (omega arith, omega arith),
  ),
)

-- no more code slots than bytes, where a slot has any
pub few_slots : (d : List ℕ) → 0 < slot_width d → SlotsInside d → n_code_slots d ≤ length d
few_slots d v w = by_test (ltb 0 (n_code_slots d)) refl
  where
    by_test : (b : Bool) → ltb 0 (n_code_slots d) ≡ b → n_code_slots d ≤ length d
    by_test true t =
        let p : 0 < n_code_slots d = ltb-true 0 (n_code_slots d) t in
        let a = w.code (n_code_slots d - 1) (omega arith) in
        let e = last_end (slot_width d) (n_code_slots d) p in
        omega (arith, mul-le-mul_right {m = 1} {n = slot_width d} (n_code_slots d) v, one-mul (n_code_slots d))
    by_test false t =
        let z : n_code_slots d ≤ 0 = ltb-false 0 (n_code_slots d) t in
        omega arith

part_length : (n o : ℕ) (d : List ℕ) → o + n ≤ length d → length (take n (drop o d)) ≡ n
part_length n o d h = length-take-le n (drop o d) (omega (arith, length-drop o d))

drop_take : (k n : ℕ) (l : List ℕ) → drop k (take n l) ≡ take (n - k) (drop k l)
drop_take zero n l =
    let e : n - 0 ≡ n = omega arith in
    rw e
drop_take (suc k) zero l =
    let e : 0 - suc k ≡ 0 = omega arith in
    rw e
drop_take (suc k) (suc n) [] = sym (take-nil (suc n - suc k))
drop_take (suc k) (suc n) (x ∷ l) =
    let e : suc n - suc k ≡ n - k = omega arith in
    rw e (drop_take k n l)

-- the code slots are all there
pub code_slots_length : (d : List ℕ) → SlotsInside d → length (code_slots d) ≡ slot_width d * n_code_slots d
unfolding code_slots
code_slots_length d w = by_test (ltb 0 (n_code_slots d)) refl
  where
    by_test : (b : Bool) → ltb 0 (n_code_slots d) ≡ b → length (take (slot_width d * n_code_slots d) (drop (hash_offset d) d)) ≡ slot_width d * n_code_slots d
    by_test true e =
        let h = ltb-true 0 (n_code_slots d) e in
        part_length (slot_width d * n_code_slots d) (hash_offset d) d
        (omega (arith, w.code (n_code_slots d - 1) (omega arith), last_end (slot_width d) (n_code_slots d) h))
    by_test false e =
        let n : n_code_slots d ≡ 0 = omega (arith, ltb-false 0 (n_code_slots d) e) in
        let z : slot_width d * n_code_slots d ≡ 0 = ap (λ (k : ℕ). slot_width d * k) n ∙ mul-zero (slot_width d) in
        rw z

-- code slot i, in the code slots
pub code_slot_part : (d : List ℕ) (i : ℕ) → i < n_code_slots d → code_slot d i ≡ take (slot_width d) (drop (slot_width d * i) (code_slots d))
unfolding code_slot code_slots
code_slot_part d i h =
    sym
    (ap (take (slot_width d)) (drop_take (slot_width d * i) (slot_width d * n_code_slots d) (drop (hash_offset d) d))
    ∙ take-take (slot_width d) (slot_width d * n_code_slots d - slot_width d * i) (drop (slot_width d * i) (drop (hash_offset d) d))
    (omega (arith, slot_end (slot_width d) i (n_code_slots d) h))
    ∙ ap (take (slot_width d)) (drop-drop (slot_width d * i) (hash_offset d) d))
