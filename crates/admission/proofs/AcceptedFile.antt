-- No row of a file's table holds exactly where the file may run: tests 36 to 40 pass exactly in a file that is `Walked`, whose parts are then those
-- that the command names, and the rest is the whole check of these. Assumes nothing.
use Prim.Native.Nat.{ℕ}
use mathlib.Core.List.{List}
use mathlib.Core.Logic.{◌↔◌}
use mathlib.Core.Path.{◌≡◌, sym, ap, subst, ◌∙◌}
use Rattle.refusals.specs.Refusals.{Passes}
use Rattle.layout.specs.MachO.{dataoff}
use Rattle.layout.specs.CodeDirectory.{directory_type}
use Rattle.superblob.specs.Rows.{blob_at}
use Rattle.superblob.proofs.Lookup.{blob_of_at}
use Rattle.directory.specs.Pages.{code_limit}
use Rattle.macho.specs.Walked.{Walked}
use Rattle.macho.proofs.Walked.{walked_exactly}
use Rattle.macho.proofs.Parts.{start_is, signature_named, image_named}
use Rattle.admission.specs.Input.{Lent, beside, limit_of}
use Rattle.admission.specs.Check.{entry_for}
use Rattle.admission.specs.Admissible.{Admissible}
use Rattle.admission.specs.File.{LentFile, apart, file_table}
use Rattle.admission.specs.AdmissibleFile.{cut_at, AdmissibleFile}
use Rattle.admission.proofs.Accepted.{admissible_exactly, may_entry}
use Rattle.admission.proofs.Files.{table_groups, groups_table}

-- the directory of an image that may run is the one at its position
limit_at : (y : Lent) (m : ℕ) (may : Admissible y m) → limit_of y.signature ≡ code_limit (blob_at y.signature may.position)
limit_at y m may =
    ap code_limit (blob_of_at y.signature may.superblob may.position directory_type may.position_below may.position_type)

-- image and signature may run, and the signature starts at the code limit
abbrev Cut : ℕ → ℕ → Lent → Type 0
Cut start m y = (may : Admissible y m) × (start ≡ code_limit (blob_at y.signature may.position))

module _ (x : LentFile) (m : ℕ) where
  abbrev f : List ℕ
  f = x.file

  -- the parts that the command names
  apart_is : (w : Walked f) → apart x ≡ cut_at x w.which
  apart_is w i = record { signature = signature_named f w i; image = image_named f w i; cache = x.cache; sides = x.sides; facts = x.facts }

  admissible_file : Passes (file_table x m) → AdmissibleFile x m
  admissible_file p =
      let g = table_groups x m p in
      let w = (walked_exactly f).0 g.0 in
      let may = (admissible_exactly (apart x) m).0 g.1.1 in
      let c : Cut (dataoff f w.which) m (apart x) = (may, sym (start_is f w) ∙ g.1.0 ∙ limit_at (apart x) m may) in
      let d = subst (Cut (dataoff f w.which) m) (apart_is w) c in
      record { walked = w; parts = d.0; at_limit = d.1 }

  module _ (may : AdmissibleFile x m) where
    abbrev w : Walked f
    w = may.walked

    may_apart : Cut (dataoff f w.which) m (apart x)
    may_apart = subst (Cut (dataoff f w.which) m) (sym (apart_is w)) (may.parts, may.at_limit)

    may_passes : Passes (file_table x m)
    may_passes =
        let c = may_apart in
        groups_table x m ((walked_exactly f).1 w) (start_is f w ∙ c.1 ∙ sym (limit_at (apart x) m c.0)) ((admissible_exactly (apart x) m).1 c.0)

    -- its entry is the one that the search finds
    pub may_file_entry : entry_for (beside (apart x)) ≡ may.parts.entry
    may_file_entry =
        subst (λ (y : Lent). (a : Admissible y m) → entry_for (beside (apart x)) ≡ a.entry) (apart_is w) (may_entry (apart x) m) may.parts

  pub admissible_file_exactly : Passes (file_table x m) ↔ AdmissibleFile x m
  admissible_file_exactly = (admissible_file, may_passes)
