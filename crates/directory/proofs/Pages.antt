-- The code limit, which of its two fields it is; and the pages of a directory that is well formed: a slot for each, and bytes in each or
-- none at all.
use Prim.Native.Nat.{ℕ, ◌*◌, ◌<◌, ◌≤◌}
use mathlib.Core.Bool.{Bool, true, false}
use mathlib.Core.List.{List}
use mathlib.Core.Logic.{◌↔◌, ⊎_elim}
use mathlib.Core.Path.{◌≡◌, refl, sym, ◌∙◌}
use native.Mathlib.Nat.{le_of_eq}
use native.Mathlib.Omega.{arith}
use lib.Dec.{eqb}
use lib.ListN.{length}
use borrow.Author.Tests.{eqb-true, eqb-false}
use Rattle.endian.specs.Numbers.{AllBytes}
use Rattle.endian.proofs.Laws.{big_below}
use Rattle.refusals.specs.Refusals.{◌<?◌, ◌≡?◌, Says}
use Rattle.refusals.proofs.Conditions.{pick_yes, pick_no}
use Rattle.layout.specs.CodeDirectory.{hash_type, slot_width, n_code_slots, code_limit32, code_limit64}
use Rattle.layout.proofs.Widths.{known_width}
use Rattle.geometry.specs.Pages.{Fit, page_count}
use Rattle.geometry.proofs.Pages.{fit_of}
use Rattle.directory.specs.Head.{limit64_version, since}
use Rattle.directory.specs.Pages.{code_limit, most_code_limit, P, pages, LimitPlainly}
use Rattle.directory.specs.Rows.{code_slots}
use Rattle.directory.specs.Formed.{DirectoryFormed}
use Rattle.directory.proofs.Since.{since_has, since_plainly}
use Rattle.directory.proofs.Slots.{code_slots_length, few_slots}

-- THE CODE LIMIT

module _ (d : List ℕ) (x : ℕ) (e : x ≡ since limit64_version code_limit64 d) where
  -- codeLimit where there is no codeLimit64, or 0
  pub limit_small : (n : ℕ) → x ≡ 0 → n ≡ code_limit32 d → n ≡ code_limit d
  unfolding code_limit
  limit_small n z f = pick_yes (since limit64_version code_limit64 d ≡? 0) (code_limit32 d) (since limit64_version code_limit64 d) n (sym e ∙ z) f

  -- else codeLimit64
  pub limit_large : (x ≡ 0 → ⊥) → x ≡ code_limit d
  unfolding code_limit
  limit_large ne = pick_no (since limit64_version code_limit64 d ≡? 0) (code_limit32 d) (since limit64_version code_limit64 d) x (λ z. ne (e ∙ z)) e

-- in a list of bytes codeLimit is no limit that is too large
small_limit : (d : List ℕ) → AllBytes d → code_limit32 d ≤ most_code_limit
unfolding code_limit32
small_limit d b = omega (arith, big_below d 32 b 4)

too_large : (d : List ℕ) → AllBytes d → Says true (most_code_limit <? since limit64_version code_limit64 d) ↔ (most_code_limit < code_limit d)
too_large d b = by_test (eqb (since limit64_version code_limit64 d) 0) refl
  where
    by_test : (t : Bool) → eqb (since limit64_version code_limit64 d) 0 ≡ t → Says true (most_code_limit <? since limit64_version code_limit64 d) ↔ (most_code_limit < code_limit d)
    by_test true e =
        let z = eqb-true (since limit64_version code_limit64 d) 0 e in
        let l = limit_small d _ refl (code_limit32 d) z refl in
        ((λ h. absurd (omega arith)), λ h. absurd (omega (arith, small_limit d b)))
    by_test false e =
        let l = limit_large d _ refl (eqb-false (since limit64_version code_limit64 d) 0 e) in
        ((λ h. omega arith), λ h. omega arith)

pub limit_plainly : LimitPlainly
limit_plainly =
    record {
      large = λ d h ne. sym (limit_large d (code_limit64 d) (since_has limit64_version code_limit64 d (code_limit64 d) h refl) ne);
      small = λ d h. sym (limit_small d _ refl (code_limit32 d) ((since_plainly.passes limit64_version code_limit64 d).1 h) refl);
      too_large = too_large;
    }

-- PAGES

module _ (d : List ℕ) (w : DirectoryFormed d) where
  -- as many slots as pages
  pub counted : (n : ℕ) → n ≡ n_code_slots d → n ≡ page_count (P d) (code_limit d)
  unfolding pages
  counted n e = e ∙ w.slot_a_page

  -- all of them there
  pub slotted : slot_width d * page_count (P d) (code_limit d) ≤ length (code_slots d)
  slotted = rw (← counted (n_code_slots d) refl) (le_of_eq (sym (code_slots_length d w.slots_inside)))

  -- and no more than the directory has bytes
  pub few : n_code_slots d ≤ length d
  unfolding slot_width
  few = few_slots d (omega (arith, known_width (hash_type d) w.hash_kind)) w.slots_inside

  pub fits : Fit (P d) (code_limit d)
  unfolding P
  fits = fit_of _ _ (λ a b. ⊎_elim (λ e. absurd (a e)) (λ r. ⊎_elim (λ e. absurd (b e)) (λ e. e) r) w.page_size_known)
