-- What an image is that may run: every rule of document 01, with no order among them. Each rule is a record of the crate that owns it.
use Rattle.std.specs.Prelude.{ℕ, ◌<◌, ◌≤◌, true, List, ◌≡◌, length}
use Rattle.digest.specs.Kinds.{digest_of}
use Rattle.layout.specs.SuperBlob.{count, type_at}
use Rattle.layout.specs.CodeDirectory.{directory_type, hash_type, n_code_slots}
use Rattle.superblob.specs.Rows.{most_side, blob_at}
use Rattle.superblob.specs.Formed.{Formed}
use Rattle.directory.specs.Pages.{code_limit, P}
use Rattle.directory.specs.Rows.{most_special_slots, code_slot}
use Rattle.cdhash.specs.Hash.{cdhash}
use Rattle.directory.specs.Formed.{DirectoryFormed}
use Rattle.geometry.specs.Pages.{page_of}
use Rattle.slots.specs.Matches.{Matches}
use Rattle.trustcache.specs.Rules.{Listed}
use Rattle.admission.specs.Input.{Lent}

-- every page's digest, by the directory's kind, is its slot
abbrev pub PagesAgree : List ℕ → List ℕ → Type 0
PagesAgree d image = (i : ℕ) → i < n_code_slots d → digest_of (hash_type d) (page_of (P d) (code_limit d) i image) ≡ code_slot d i

pub record Admissible (x : Lent) (marksLength : ℕ) : Type 0 where
  -- the SuperBlob is well formed, its blobs inside, of known and distinct types, and apart
  pub superblob : Formed x.signature
  pub info_short : x.sides.info_there ≡ true → length x.sides.info ≤ most_side
  pub resources_short : x.sides.resources_there ≡ true → length x.sides.resources ≤ most_side
  -- a blob of type 0 is there
  pub position : ℕ
  pub position_below : position < count x.signature
  pub position_type : type_at x.signature position ≡ directory_type
  pub directory : DirectoryFormed (blob_at x.signature position)
  pub image_long : code_limit (blob_at x.signature position) ≤ length x.image
  pub one_mark_a_page : marksLength ≡ n_code_slots (blob_at x.signature position)
  pub special_slots : (k : ℕ) → 1 ≤ k → k ≤ most_special_slots → Matches x.signature (blob_at x.signature position) x.sides k
  -- an entry of the cache, which is well formed, lists the directory's hash cut to 20 bytes under the directory's kind, and its category allows the
  -- launch
  pub entry : ℕ
  pub listed : Listed x.cache (hash_type (blob_at x.signature position)) (cdhash (blob_at x.signature position)) x.facts entry
  -- every page's digest is its slot
  pub pages_agree : PagesAgree (blob_at x.signature position) x.image
