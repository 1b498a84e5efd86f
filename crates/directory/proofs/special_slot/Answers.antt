-- Outside 1 to nSpecialSlots there is no slot. A slot that would start before the directory starts at 0, as a difference stops there.
use Prim.Native.Nat.{ℕ, ◌-◌, ◌*◌, ◌<◌}
use mathlib.Core.Bool.{true, false}
use mathlib.Core.List.{List, []}
use mathlib.Core.Path.{◌≡◌, ◌∙◌}
use native.Mathlib.Omega.{arith}
use lib.ListN.{take, drop}
use Rattle.refusals.specs.Refusals.{◌≤?◌, ◌and◌, Says}
use Rattle.refusals.proofs.Conditions.{says}
use Rattle.layout.specs.CodeDirectory.{slot_width, hash_offset, n_special_slots}
use Rattle.directory.specs.Rows.{special_slot}
use Rattle.directory.proofs.special_slot.Goals as goal

abbrev Stated : List ℕ → ℕ → Type 0
Stated d k = Says true (1 ≤? k and k ≤? n_special_slots d)

none : (d : List ℕ) (k : ℕ) → Says false (1 ≤? k and k ≤? n_special_slots d) → [] ≡ special_slot d k
unfolding special_slot
none d k h = rw (← says false (1 ≤? k and k ≤? n_special_slots d) h)

stated : (d : List ℕ) (k : ℕ) → Stated d k → take (slot_width d) (drop (hash_offset d - slot_width d * k) d) ≡ special_slot d k
unfolding special_slot
stated d k h = rw (← says true (1 ≤? k and k ≤? n_special_slots d) h)

module _ (d : List ℕ) (at k back width : ℕ) (e : at ≡ hash_offset d) (b : back ≡ slot_width d * k) (w : width ≡ slot_width d) (h : Stated d k) where
  from_start : at < back → take width (drop 0 d) ≡ special_slot d k
  from_start l =
      let z : hash_offset d - slot_width d * k ≡ 0 = omega arith in
      rw (w, ← stated d k h, z)

  behind : take width (drop (at - back) d) ≡ special_slot d k
  behind = rw (w, ← stated d k h, e, b)

pub returns-then-k-eq0 : goal.returns-then-k-eq0
returns-then-k-eq0 c = c.part.ensures ∙ none _ _ (λ l. omega arith)

pub returns-then-special-k : goal.returns-then-special-k
returns-then-special-k c = c.part-then-special-k.ensures ∙ none _ _ (λ l. omega arith)

pub returns-then-at-back : goal.returns-then-at-back
returns-then-at-back c = c.part-then-at-back.ensures
    ∙ from_start _ _ _ _ _ c.read-head.ensures.hash_offset_is c.slot_bytes-back.ensures.0 c.slot_width-width.ensures.0 (omega arith) (omega arith)

pub returns : goal.returns
returns c = c.part-2.ensures
    ∙ behind _ _ _ _ _ c.read-head.ensures.hash_offset_is c.slot_bytes-back.ensures.0 c.slot_width-width.ensures.0 (omega arith)
