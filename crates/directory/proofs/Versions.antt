-- The versions that are known, from 0x20001 to 0x20600, have a head, by the range that each lies in, and no other has.
use Prim.Native.Nat.{ℕ, ◌<◌, ◌≤◌}
use mathlib.Core.Bool.{Bool, true, false}
use mathlib.Core.List.{List}
use mathlib.Core.Path.{◌≡◌, refl, sym, ◌∙◌}
use native.Mathlib.Omega.{arith}
use lib.Dec.{leb}
use borrow.Author.Tests.{leb-true, leb-false}
use Rattle.refusals.proofs.Ranges.{hits, misses}
use Rattle.layout.specs.CodeDirectory.{version}
use Rattle.directory.specs.Head.{first_version, last_version, head_sizes, head_size, head_of}

-- by the order of two numbers
pub split : {G : Type 0} (v b : ℕ) → (v ≤ b → G) → (b < v → G) → G
split {G} v b f g = by_test (leb v b) refl
  where
    by_test : (t : Bool) → leb v b ≡ t → G
    by_test true e = f (leb-true v b e)
    by_test false e = g (leb-false v b e)

has_head : (v : ℕ) → first_version ≤ v → v ≤ last_version → head_size v ≡ 0 → ⊥
unfolding head_size head_sizes
has_head v l u z =
    split v 0x200FF (λ h. let e = hits 0 head_sizes 0 v (omega arith) in omega arith)
    (λ a. split v 0x201FF (λ h. let e = hits 1 head_sizes 0 v (omega arith) in omega arith)
    (λ b. split v 0x202FF (λ h. let e = hits 2 head_sizes 0 v (omega arith) in omega arith)
    (λ c. split v 0x203FF (λ h. let e = hits 3 head_sizes 0 v (omega arith) in omega arith)
    (λ d. split v 0x204FF (λ h. let e = hits 4 head_sizes 0 v (omega arith) in omega arith)
    (λ e. split v 0x205FF (λ h. let e = hits 5 head_sizes 0 v (omega arith) in omega arith)
    (λ f. let e = hits 6 head_sizes 0 v (omega arith) in omega arith))))))

no_head : (v : ℕ) → (first_version ≤ v → v ≤ last_version → ⊥) → head_size v ≡ 0
unfolding head_size head_sizes
no_head v h =
    split v 0x20000 (λ l. sym (misses head_sizes 0 v (omega arith)))
    (λ l. split v last_version (λ u. absurd (h (omega arith) u)) (λ u. sym (misses head_sizes 0 v (omega arith))))

-- of the head size r that is found: it is 0 exactly where the version is not known
module _ (d : List ℕ) (r : ℕ) (e : r ≡ head_of d) where
  pub version_known : (r ≡ 0 → ⊥) → (first_version ≤ version d) × (version d ≤ last_version)
  unfolding head_of
  version_known h =
      split (version d) 0x20000 (λ l. absurd (h (e ∙ no_head (version d) (λ p q. omega arith))))
      (λ l. split (version d) last_version (λ u. (omega arith, u)) (λ u. absurd (h (e ∙ no_head (version d) (λ p q. omega arith)))))

  pub version_unknown : r ≡ 0 → first_version ≤ version d → last_version < version d
  unfolding head_of
  version_unknown z l = split (version d) last_version (λ u. absurd (has_head (version d) l u (sym e ∙ z))) (λ u. u)
