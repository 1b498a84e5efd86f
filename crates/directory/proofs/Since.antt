-- Fields of later versions: what their readers find, and the test of such a field plainly, both ways. Assumes nothing.
use Prim.Native.Nat.{ℕ, ◌<◌, ◌≤◌}
use mathlib.Core.List.{List}
use mathlib.Core.Logic.{◌↔◌}
use mathlib.Core.Path.{◌≡◌, refl, sym, subst}
use native.Mathlib.Omega.{arith}
use Rattle.refusals.specs.Refusals.{◌<?◌}
use Rattle.refusals.proofs.Conditions.{pick_yes, pick_no}
use Rattle.endian.proofs.Laws.{big_zero}
use Rattle.layout.specs.CodeDirectory.{version, scatter_offset}
use Rattle.directory.specs.Head.{since, SincePlainly, ScatterZero}
use Rattle.directory.proofs.Versions.{split}

module _ (v : ℕ) (field : List ℕ → ℕ) (d : List ℕ) where
  -- 0 in an older directory
  pub since_older : version d < v → 0 ≡ since v field d
  unfolding since
  since_older h = pick_yes (version d <? v) 0 (field d) 0 h refl

  -- else what is read
  pub since_has : (x : ℕ) → v ≤ version d → x ≡ field d → x ≡ since v field d
  unfolding since
  since_has x h e = pick_no (version d <? v) 0 (field d) x h e

  held : v ≤ version d → field d ≡ since v field d
  held h = since_has (field d) h refl

  module _ (Q : ℕ → Type 0) where
    -- what is not said of 0 is said of it exactly where the version has it and it is said of what is read
    said_of : (Q 0 → ⊥) → Q (since v field d) ↔ ((v ≤ version d) × Q (field d))
    said_of none = (
      (λ q. split v (version d) (λ h. (h, subst Q (sym (held h)) q)) (λ l. absurd (none (subst Q (sym (since_older l)) q)))),
      λ w. subst Q (held w.0) w.1,
    )

    -- and what is said of 0 exactly where it is said of what is read if the version has it
    said_if : Q 0 → Q (since v field d) ↔ (v ≤ version d → Q (field d))
    said_if nil = (
      (λ q h. subst Q (sym (held h)) q),
      λ f. split v (version d) (λ h. subst Q (held h) (f h)) (λ l. subst Q (since_older l) nil),
    )

pub since_plainly : SincePlainly
since_plainly =
    record {
      refuses = λ v field d. said_of v field d (λ (n : ℕ). n ≡ 0 → ⊥) (λ ne. ne refl);
      passes = λ v field d. said_if v field d (λ (n : ℕ). n ≡ 0) refl;
      older = λ v field d l. sym (since_older v field d l);
      above = λ v m field d. said_of v field d (λ (n : ℕ). m < n) (λ l. omega arith);
      within = λ v m field d. said_if v field d (λ (n : ℕ). n ≤ m) (omega arith);
    }

pub scatter_zero : ScatterZero
unfolding scatter_offset
scatter_zero d = big_zero d 44 4
