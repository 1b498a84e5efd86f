-- Tests 36 to 40 of request 4, and the signature's part of a file. `f` is the lent file.
use Rattle.std.specs.Prelude.{ℕ, ◌+◌, ◌-◌, ◌%◌, ◌≤◌, List, [], ◌∷◌, ◌++◌, Result, Ok, Err, ◌≡◌, length, take, drop}
use Rattle.refusals.specs.Refusals.{◌<?◌, ◌≡?◌, ◌≢?◌, ◌and◌, ◌or◌, Cond, pick, lowest, Row, row, over, first, accepted}
use Rattle.layout.specs.MachO.{mach_magic, mach_head, command_head, command_align, code_signature_type, linkedit_size, header_magic, ncmds, sizeofcmds, command_at, cmd, cmdsize, dataoff, datasize}
use Rattle.refusals.specs.declared.refusal.Refusal.{Refusal}
use Rattle.refusals.specs.Named.{answer_of}
use Rattle.macho.specs.declared.Span.{Span}

-- LIMITS

-- load commands of a file
abbrev pub most_commands : ℕ
most_commands = 4096

-- WHAT IS WRONG WITH A COMMAND

-- where the stated command area ends
unfoldable pub area_end : List ℕ → ℕ
area_end f = mach_head + sizeofcmds f

-- the head or the command reaches past the area or the file, or the size is under 8 or no multiple of 8
unfoldable pub malformed : List ℕ → ℕ → Cond
malformed f i =
    area_end f <? command_at f i + command_head or
    length f <? command_at f i + command_head or
    cmdsize f i <? command_head or
    cmdsize f i % command_align ≢? 0 or
    area_end f <? command_at f i + cmdsize f i or
    length f <? command_at f i + cmdsize f i

-- it is an LC_CODE_SIGNATURE
unfoldable pub is_signature : List ℕ → ℕ → Cond
is_signature f i = cmd f i ≡? code_signature_type

-- .. which stands behind the first one, at k, or has another size
unfoldable pub wrong_signature : List ℕ → ℕ → ℕ → Cond
wrong_signature f k i = is_signature f i and (k <? i or cmdsize f i ≢? linkedit_size)

-- THE TABLE

-- the lowest position of a malformed command; the count where there is none
unfoldable pub malformed_command : List ℕ → ℕ
malformed_command f = lowest (malformed f) (ncmds f)

-- the first LC_CODE_SIGNATURE; the count where there is none
unfoldable pub signature_command : List ℕ → ℕ
signature_command f = lowest (is_signature f) (ncmds f)

-- where the part that it names ends
unfoldable pub data_end : List ℕ → ℕ → ℕ
data_end f i = dataoff f i + datasize f i

-- The header and the commands. A stated count above 4,096 is refused before any command is read: test 37 has two ways to hold, and its
-- place follows the way.
unfoldable pub command_rows : List ℕ → List Row
command_rows f =
    row 36 (length f <? mach_head or header_magic f ≢? mach_magic) 0
    ∷ row 37 (most_commands <? ncmds f or malformed_command f <? ncmds f) (pick (most_commands <? ncmds f) most_commands (malformed_command f))
    ∷ []

-- the one LC_CODE_SIGNATURE, and the part that it names
unfoldable pub span_rows : List ℕ → List Row
span_rows f =
    row 38 (signature_command f ≡? ncmds f) 0
    ∷ over 39 (ncmds f) (wrong_signature f (signature_command f))
    ∷ row 40 (length f <? data_end f (signature_command f)) (signature_command f)
    ∷ []

unfoldable pub walk_rows : List ℕ → List Row
walk_rows f = command_rows f ++ span_rows f

-- THE PARTS OF THE FILE

-- tests 36 to 40 pass
unfoldable pub passing : List ℕ → Cond
passing f = (first (walk_rows f) accepted).number ≡? 0

-- the position of the command that names the signature, and where the signature starts and ends; 0 where tests 36 to 40 do not pass
unfoldable pub signature_position : List ℕ → ℕ
signature_position f = pick (passing f) (signature_command f) 0

unfoldable pub signature_start : List ℕ → ℕ
signature_start f = pick (passing f) (dataoff f (signature_command f)) 0

unfoldable pub signature_end : List ℕ → ℕ
signature_end f = pick (passing f) (data_end f (signature_command f)) 0

-- the signature, and the image, which is the file before it; both empty where tests 36 to 40 do not pass
unfoldable pub signature_of : List ℕ → List ℕ
signature_of f = take (signature_end f - signature_start f) (drop (signature_start f) f)

unfoldable pub image_of : List ℕ → List ℕ
image_of f = take (signature_start f) f

pub record Spanned (f : List ℕ) (r : Span) : Type 0 where
  pub command_is : r.command ≡ signature_position f
  pub start_is : r.start ≡ signature_start f
  pub end_is : r.end ≡ signature_end f
  pub ordered : r.start ≤ r.end
  pub within : r.end ≤ length f

-- where it is not
abbrev pub nowhere : Span
nowhere = record { command = 0; start = 0; end = 0 }

-- the answer of tests 36 to 40, with where the signature lies
abbrev pub SignatureIn : List ℕ → Result Span Refusal → Type 0
SignatureIn f (Ok span) = (accepted ≡ first (walk_rows f) accepted) × Spanned f span
SignatureIn f (Err r) = (answer_of r ≡ first (walk_rows f) accepted) × Spanned f nowhere
