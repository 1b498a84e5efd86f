-- What a Mach-O file is that may run: its load commands are in order and name one signature, image and signature lent apart may run, and the
-- signature starts at the code limit. No order among them.
use Rattle.std.specs.Prelude.{ℕ, ◌≡◌, take, drop}
use Rattle.layout.specs.MachO.{dataoff, datasize}
use Rattle.superblob.specs.Rows.{blob_at}
use Rattle.directory.specs.Pages.{code_limit}
use Rattle.macho.specs.Walked.{Walked}
use Rattle.admission.specs.Input.{Lent}
use Rattle.admission.specs.Admissible.{Admissible}
use Rattle.admission.specs.File.{LentFile}

-- the signature that command i names, and the image before it, lent apart
abbrev pub cut_at : LentFile → ℕ → Lent
cut_at x i =
    record {
      signature = take (datasize x.file i) (drop (dataoff x.file i) x.file);
      image = take (dataoff x.file i) x.file;
      cache = x.cache;
      sides = x.sides;
      facts = x.facts;
    }

pub record AdmissibleFile (x : LentFile) (marksLength : ℕ) : Type 0 where
  -- the header is a 64-bit little-endian one, every command is in its place, and one of them, `which`, names the signature, inside the file
  pub walked : Walked x.file
  pub parts : Admissible (cut_at x walked.which) marksLength
  pub at_limit : dataoff x.file walked.which ≡ code_limit (blob_at (cut_at x walked.which).signature parts.position)
