-- Tests 21 to 23 of document 01: each special slot against the thing that it covers. `s` is the lent signature, `d` its directory, and `x` the
-- side files.
use Rattle.std.specs.Prelude.{ℕ, ◌+◌, Bool, true, false, cond, not, ◌&&◌, ◌||◌, List, [], ◌∷◌, eqb}
use Rattle.digest.specs.Kinds.{digest_of}
use Rattle.digest.specs.Same.{same}
use Rattle.refusals.specs.Refusals.{holds, Row, among}
use Rattle.layout.specs.CodeDirectory.{info_slot, resources_slot, hash_type}
use Rattle.superblob.specs.Rows.{has, blob_of}
use Rattle.directory.specs.Rows.{most_special_slots, special_slot}

-- the side files: whether each is there, and its bytes, which count for nothing where it is not
pub record Sides : Type 0 where
  pub info_there : Bool
  pub info : List ℕ
  pub resources_there : Bool
  pub resources : List ℕ

abbrev pub sides : Bool → List ℕ → Bool → List ℕ → Sides
sides info_there info resources_there resources =
    record { info_there = info_there; info = info; resources_there = resources_there; resources = resources }

-- THE SLOT

unfoldable pub all_zero : List ℕ → Bool
all_zero [] = true
all_zero (b ∷ bs) = eqb b 0 && all_zero bs

-- special slot k is empty: its bytes are all zero, or the directory has it not. A slot that is not empty is filled
unfoldable pub is_empty : List ℕ → ℕ → Bool
is_empty d k = all_zero (special_slot d k)

-- THE THING

-- slots 4 and 6 cover nothing
abbrev pub nothing : ℕ → Bool
nothing k = eqb k 4 || eqb k 6

-- the thing of slot k is there: of 1 the Info.plist, of 3 the CodeResources, of any other the blob of type k, where the index has the type
unfoldable pub there : List ℕ → Sides → ℕ → Bool
there s x k = cond (eqb k info_slot) x.info_there (cond (eqb k resources_slot) x.resources_there (not (nothing k) && holds (has s k)))

-- its bytes; a blob's with its head
unfoldable pub thing : List ℕ → Sides → ℕ → List ℕ
thing s x k = cond (eqb k info_slot) x.info (cond (eqb k resources_slot) x.resources (blob_of s k))

-- THE TEST

-- by: slot empty, thing there, digest of the thing in the slot
unfoldable pub fault_of : Bool → Bool → Bool → ℕ
fault_of false false agrees = 21
fault_of false true false = 22
fault_of false true true = 0
fault_of true true agrees = 23
fault_of true false agrees = 0

-- what is wrong at slot k, for k from 1; 0 where nothing is. The digest is by the directory's kind
unfoldable pub fault : List ℕ → List ℕ → Sides → ℕ → ℕ
fault s d x k = cond (eqb k 0) 0 (fault_of (is_empty d k) (there s x k) (same (digest_of (hash_type d) (thing s x k)) (special_slot d k)))

-- one test over k from 1 to 11
unfoldable pub special_rows : List ℕ → List ℕ → Sides → List Row
special_rows s d x = among (most_special_slots + 1) (fault s d x) (21 ∷ 22 ∷ 23 ∷ [])
