-- What the demands say of a whole check of a Mach-O file, beside what Demand1, Demand2 and Demand3 say of image and signature lent apart and of
-- rechecks.
use Rattle.std.specs.Prelude.{ℕ, ◌+◌, ◌<◌, ◌≤◌, false, cond, List, [], ◌∷◌, ◌⊎◌, ◌↔◌, ◌≡◌, length, get_or}
use Rattle.refusals.specs.Refusals.{Decides, OneOf, Passes, refuse}
use Rattle.endian.specs.Numbers.{AllBytes}
use Rattle.layout.specs.MachO.{most_dataoff, mach_head, sizeofcmds}
use Rattle.directory.specs.Rows.{signature_rows}
use Rattle.geometry.specs.Pages.{page_count, page_of}
use Rattle.marks.specs.Marks.{agrees}
use Rattle.macho.specs.Rows.{walk_rows, signature_position, signature_start, signature_end, signature_of, image_of}
use Rattle.macho.specs.Walked.{WalkedExactly, WalkPlainly, PartsPlainly}
use Rattle.admission.specs.declared.Verdict.{Verdict}
use Rattle.admission.specs.Input.{longest, page_bytes_of, limit_of, slots_of}
use Rattle.admission.specs.Check.{Checked, check_of, verdict_of}
use Rattle.admission.specs.File.{LentFile, with_file, apart, file_table, file_answer, file_marks, file_of, FileChecked}
use Rattle.admission.specs.AdmissibleFile.{AdmissibleFile}
use Rattle.admission.specs.Demand3.{Event, change, call, InTurn, made_in, Faithful, altered, last_marks, latest, placeless, answer_of, image_after}

-- DEMAND 1

-- what a whole check of a file refuses with: 19 is not among them
abbrev pub file_numbers : List ℕ
file_numbers =
    36 ∷ 37 ∷ 38 ∷ 39 ∷ 40
    ∷ 1 ∷ 2 ∷ 3 ∷ 4 ∷ 5 ∷ 6 ∷ 7 ∷ 8 ∷ 9 ∷ 10 ∷ 11 ∷ 12 ∷ 13 ∷ 14 ∷ 46 ∷ 15 ∷ 35 ∷ 16 ∷ 17 ∷ 18 ∷ 41 ∷ 20
    ∷ 21 ∷ 22 ∷ 23 ∷ 24 ∷ 25 ∷ 26 ∷ 27 ∷ 28 ∷ 29 ∷ 30 ∷ 31 ∷ []

pub record FileDemand1 : Type 0 where
  pub file_number : (x : LentFile) (marks : List ℕ) (v : Verdict) (after : List ℕ) → FileChecked x marks v after → OneOf file_numbers v.number
  pub file_leaves : (x : LentFile) (marks : List ℕ) (v : Verdict) (after : List ℕ) → FileChecked x marks v after
      → (v.number ≡ 0 → ⊥) → (v.number ≡ 31 → ⊥) → after ≡ marks

-- DEMAND 2

-- a whole check of a file
pub record File2 (x : LentFile) (marks : List ℕ) (v : Verdict) (after : List ℕ) : Type 0 where
  -- accepted exactly when the file may run
  pub accepts : (v.number ≡ 0) ↔ AdmissibleFile x (length marks)
  pub entry : (may : AdmissibleFile x (length marks)) → v.place ≡ may.parts.entry
  -- refused with n at p exactly when row n of the table holds with place p and no row before it holds
  pub refuses : (n p : ℕ) → (n ≡ 0 → ⊥) → (v ≡ verdict_of (refuse n p)) ↔ Decides (file_table x (length marks)) n p
  -- where it answers 0 or 31 there is one mark a page, and every mark is written: 0 exactly when the page agrees with its slot, else 1
  pub marks_long : (v.number ≡ 0) ⊎ (v.number ≡ 31) → length after ≡ page_count (page_bytes_of (signature_of x.file)) (limit_of (signature_of x.file))
  pub marks_written : (v.number ≡ 0) ⊎ (v.number ≡ 31) → (i : ℕ)
      → i < page_count (page_bytes_of (signature_of x.file)) (limit_of (signature_of x.file))
      → get_or after i 0
      ≡ cond
      (agrees (slots_of (signature_of x.file)) i
      (page_of (page_bytes_of (signature_of x.file)) (limit_of (signature_of x.file)) i (image_of x.file)))
      0 1

-- where 36 to 40 pass, and a signature that passes 1 to 18 starts at the code limit, it is the whole check of image and signature lent apart,
-- whatever that answers; so 19, which has no row here, cannot be lost
abbrev pub AsApart : Type 0
AsApart = (x : LentFile) (marks : List ℕ) → Passes (walk_rows x.file)
    → (Passes (signature_rows (longest x.sides) (signature_of x.file)) → signature_start x.file ≡ limit_of (signature_of x.file))
    → file_of x marks ≡ check_of (apart x) marks

-- the offset of a command has 32 bits, so no code limit above what it can state passes 41: such an image is lent apart
abbrev pub LargeApart : Type 0
LargeApart = (x : LentFile) (marks : List ℕ) (v : Verdict) (after : List ℕ) → FileChecked x marks v after → AllBytes x.file
    → Passes (walk_rows x.file) → Passes (signature_rows (longest x.sides) (signature_of x.file))
    → most_dataoff < limit_of (signature_of x.file) → v ≡ verdict_of (refuse 41 (signature_position x.file))

-- how the rows of the load commands read in plain words
pub record FilePlainly : Type 0 where
  -- the rows of the load commands; that they pass exactly in a file whose commands are in order and name one signature; and its parts
  pub load_commands : WalkPlainly
  pub walked : WalkedExactly
  pub file_parts : PartsPlainly

pub record FileDemand2 : Type 0 where
  pub plainly : FilePlainly
  pub file : (x : LentFile) (marks : List ℕ) (v : Verdict) (after : List ℕ) → FileChecked x marks v after → File2 x marks v after
  pub as_apart : AsApart
  pub large_apart : LargeApart

-- DEMAND 3, of chains of rechecks behind a check of a file

-- a check of a file that answered 0 or 31 answered and left what a check of its image and signature lent apart does: all that is said above is
-- said of these
abbrev pub Apart : Type 0
Apart = (x : LentFile) (marks : List ℕ) (v : Verdict) (after : List ℕ) → FileChecked x marks v after
    → (v.number ≡ 0) ⊎ (v.number ≡ 31) → Checked (apart x) marks v after

-- the file after the changes, made in the file itself: its image comes first
abbrev pub file_after : LentFile → List Event → List ℕ
file_after x events = image_after x.file events

-- the walk of the file g passes, and finds the signature where that of f does
pub record SameRange (f g : List ℕ) : Type 0 where
  pub walks : Passes (walk_rows g)
  pub start : signature_start g ≡ signature_start f
  pub end : signature_end g ≡ signature_end f

-- only then it is said of the file: where no page was altered after it was last examined, marks and the latest answer are those of a whole
-- check of the new file
abbrev pub Files : Type 0
Files = (x : LentFile) (marks : List ℕ) (v : Verdict) (after : List ℕ) (events : List Event)
    → FileChecked x marks v after → (v.number ≡ 0) ⊎ (v.number ≡ 31) → InTurn (signature_of x.file) after (made_in events)
    → Faithful (signature_of x.file) (image_of x.file) events
    → ((i : ℕ) → i < page_count (page_bytes_of (signature_of x.file)) (limit_of (signature_of x.file)) → altered (signature_of x.file) i false events ≡ false)
    → SameRange x.file (file_after x events)
    → (last_marks after (made_in events) ≡ file_marks (with_file x (file_after x events)) marks)
    × (latest (signature_of x.file) (placeless (answer_of v)) (made_in events)
    ≡ placeless (file_answer (with_file x (file_after x events)) (length marks)))

-- every change starts at n or behind it
unfoldable pub Behind : ℕ → List Event → Type 0
Behind n [] = Unit {0}
Behind n (change at new ∷ es) = (n ≤ at) × Behind n es
Behind n (call m ∷ es) = Behind n es

-- the range stays the same in every list whose changes lie behind the stated command area
abbrev pub BehindCommands : Type 0
BehindCommands = (x : LentFile) (marks : List ℕ) (v : Verdict) (after : List ℕ) (events : List Event)
    → FileChecked x marks v after → (v.number ≡ 0) ⊎ (v.number ≡ 31) → Faithful (signature_of x.file) (image_of x.file) events
    → Behind (mach_head + sizeofcmds x.file) events → SameRange x.file (file_after x events)

pub record FileDemand3 : Type 0 where
  pub lent_apart : Apart
  pub files : Files
  pub behind_commands : BehindCommands
