-- The lookup of a blob by its type: what is found, and where nothing is handed back.
use Rattle.std.specs.Prelude.{ℕ, ◌<◌, List, [], ◌≡◌, length}
use Rattle.endian.specs.Numbers.{big}
use Rattle.refusals.specs.Refusals.{Passes}
use Rattle.layout.specs.SuperBlob.{count, type_at, blob_length}
use Rattle.superblob.specs.Rows.{magic_of, rows, blob_at, blob}

-- what a lookup of type t hands back
pub record Lookup (s : List ℕ) (t : ℕ) : Type 0 where
  -- where tests 1 to 9 pass, the blob at the position that has the type, a part of the signature ..
  pub finds : Passes (rows 0 s) → (i : ℕ) → i < count s → type_at s i ≡ t → blob s t ≡ blob_at s i
  -- .. which is as long as its head states, and opens with the type's magic and that length
  pub long : Passes (rows 0 s) → (i : ℕ) → i < count s → type_at s i ≡ t → length (blob s t) ≡ blob_length s i
  pub opens : Passes (rows 0 s) → (i : ℕ) → i < count s → type_at s i ≡ t
      → (big 4 (blob s t) 0 ≡ magic_of t) × (big 4 (blob s t) 4 ≡ length (blob s t))
  -- nothing where no position has the type, or one of the tests refuses
  pub none : ((i : ℕ) → i < count s → type_at s i ≡ t → ⊥) → blob s t ≡ []
  pub refused : (Passes (rows 0 s) → ⊥) → blob s t ≡ []

abbrev pub Lookups : Type 0
Lookups = (s : List ℕ) (t : ℕ) → Lookup s t
