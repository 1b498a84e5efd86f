-- Test 13 in plain words: which hash types and sizes a directory may have (document 02, item 2).
use Rattle.std.specs.Prelude.{ℕ, List, true, false, ◌⊎◌, ◌↔◌, ◌≡◌}
use Rattle.refusals.specs.Refusals.{Says}
use Rattle.layout.specs.CodeDirectory.{hash_type, hash_size}
use Rattle.directory.specs.Rows.{hash_outside}

-- 1 (SHA-1, size 20), 2 (SHA-256, 32), 3 (SHA-256 cut to 20) and 4 (SHA-384, 48)
abbrev pub Accepted : ℕ → ℕ → Type 0
Accepted type size =
    ((type ≡ 1) × (size ≡ 20))
    ⊎ (((type ≡ 2) × (size ≡ 32)) ⊎ (((type ≡ 3) × (size ≡ 20)) ⊎ ((type ≡ 4) × (size ≡ 48))))

pub record HashPlainly : Type 0 where
  pub passes : (d : List ℕ) → Says false (hash_outside d) ↔ Accepted (hash_type d) (hash_size d)
  pub refuses : (d : List ℕ) → Says true (hash_outside d) ↔ (Accepted (hash_type d) (hash_size d) → ⊥)
