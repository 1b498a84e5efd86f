-- What the calls are lent, as the code has it.
use Rattle.std.specs.Prelude.{ℕ, List, ◌≡◌}
use Rattle.layout.specs.CodeDirectory.{hash_type}
use Rattle.directory.specs.Pages.{code_limit, P}
use Rattle.directory.specs.Rows.{code_slots}
use Rattle.slots.specs.Lent.{sides_of}
use Rattle.slots.specs.declared.sides.SideFiles.{SideFiles}
use Rattle.trustcache.specs.declared.launch.Launch.{Launch}
use Rattle.marks.specs.declared.Pages.{Pages}
use Rattle.admission.specs.declared.Beside.{Beside as BesideLent}
use Rattle.admission.specs.Input.{Beside, Lent}
use Rattle.admission.specs.File.{LentFile}

abbrev pub beside_of : BesideLent → Beside
beside_of x = record { signature = x.signature.now; cache = x.cache.now; sides = sides_of x.sides; facts = x.launch }

abbrev pub lent_of : BesideLent → List ℕ → Lent
lent_of x image = record { signature = x.signature.now; image = image; cache = x.cache.now; sides = sides_of x.sides; facts = x.launch }

abbrev pub file_lent : List ℕ → List ℕ → SideFiles → Launch → LentFile
file_lent file cache sides launch = record { file = file; cache = cache; sides = sides_of sides; facts = launch }

-- the pages of a directory d, with bytes that begin where page `from` begins
pub record PagesOf (d : List ℕ) (from : ℕ) (bytes : List ℕ) (pages : Pages) : Type 0 where
  pub p_is : pages.p ≡ P d
  pub limit_is : pages.limit ≡ code_limit d
  pub kind_is : pages.kind ≡ hash_type d
  pub slots_is : pages.slots.now ≡ code_slots d
  pub from_is : pages.from ≡ from
  pub bytes_is : pages.bytes.now ≡ bytes
