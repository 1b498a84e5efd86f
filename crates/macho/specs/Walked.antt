-- What tests 36 to 40 say of a file in plain facts, without an order and without a search: the header, every command well formed, the one
-- LC_CODE_SIGNATURE, and the part that it names. Below, how each row reads.
use Rattle.std.specs.Prelude.{ℕ, ◌+◌, ◌%◌, ◌<◌, ◌≤◌, true, List, ◌⊎◌, ◌↔◌, ◌≡◌, length, take, drop}
use Rattle.layout.specs.MachO.{mach_magic, mach_head, command_head, command_align, code_signature_type, linkedit_size, header_magic, ncmds, sizeofcmds, command_at, cmd, cmdsize, dataoff, datasize}
use Rattle.refusals.specs.Refusals.{◌<?◌, ◌≡?◌, ◌or◌, Says, pick, Passes, LowestAt}
use Rattle.macho.specs.Rows.{most_commands, malformed, is_signature, wrong_signature, malformed_command, signature_command, walk_rows, signature_position, signature_start, signature_end, signature_of, image_of}

-- command i has at least its head, a whole number of eights, and lies inside the stated area and the file
pub record CommandFormed (f : List ℕ) (i : ℕ) : Type 0 where
  pub has_head : command_head ≤ cmdsize f i
  pub of_eights : cmdsize f i % command_align ≡ 0
  pub in_area : command_at f i + cmdsize f i ≤ mach_head + sizeofcmds f
  pub in_file : command_at f i + cmdsize f i ≤ length f

pub record Walked (f : List ℕ) : Type 0 where
  pub has_header : mach_head ≤ length f
  pub right_magic : header_magic f ≡ mach_magic
  pub few_commands : ncmds f ≤ most_commands
  pub commands : (i : ℕ) → i < ncmds f → CommandFormed f i
  -- the one LC_CODE_SIGNATURE
  pub which : ℕ
  pub which_below : which < ncmds f
  pub which_type : cmd f which ≡ code_signature_type
  pub which_size : cmdsize f which ≡ linkedit_size
  pub only : (i : ℕ) → i < ncmds f → cmd f i ≡ code_signature_type → i ≡ which
  pub range_inside : dataoff f which + datasize f which ≤ length f

-- tests 36 to 40 pass exactly then
abbrev pub WalkedExactly : Type 0
WalkedExactly = (f : List ℕ) → Passes (walk_rows f) ↔ Walked f

-- HOW THE ROWS READ

pub record WalkPlainly : Type 0 where
  -- 37 holds with place 4,096 where more commands are stated, whatever these are, and else with the lowest malformed command
  pub commands : (f : List ℕ) (p : ℕ)
      → (Says true (most_commands <? ncmds f or malformed_command f <? ncmds f) × (p ≡ pick (most_commands <? ncmds f) most_commands (malformed_command f)))
      ↔ (((most_commands < ncmds f) × (p ≡ most_commands)) ⊎ ((ncmds f ≤ most_commands) × LowestAt (malformed f) (ncmds f) p))
  pub formed : (f : List ℕ) (i : ℕ) → Says true (malformed f i) ↔ (CommandFormed f i → ⊥)
  -- 38 holds where no command is an LC_CODE_SIGNATURE
  pub none : (f : List ℕ) → Says true (signature_command f ≡? ncmds f) ↔ ((i : ℕ) → i < ncmds f → cmd f i ≡ code_signature_type → ⊥)
  -- 39 is over the commands that are one, and stand behind another or have another size
  pub second : (f : List ℕ) (i : ℕ) → i < ncmds f
      → Says true (wrong_signature f (signature_command f) i)
      ↔ ((cmd f i ≡ code_signature_type) × (((j : ℕ) × ((j < i) × (cmd f j ≡ code_signature_type))) ⊎ (cmdsize f i ≡ linkedit_size → ⊥)))
  -- the place of 40 and of 41 is the first one's position
  pub place : (f : List ℕ) → signature_command f < ncmds f → LowestAt (is_signature f) (ncmds f) (signature_command f)

-- THE PARTS: where tests 36 to 40 pass, they are what the one LC_CODE_SIGNATURE states, and the image is the file before the signature
pub record PartsPlainly : Type 0 where
  pub position : (f : List ℕ) (w : Walked f) → signature_position f ≡ w.which
  pub start : (f : List ℕ) (w : Walked f) → signature_start f ≡ dataoff f w.which
  pub end : (f : List ℕ) (w : Walked f) → signature_end f ≡ dataoff f w.which + datasize f w.which
  pub signature : (f : List ℕ) (w : Walked f) → signature_of f ≡ take (datasize f w.which) (drop (dataoff f w.which) f)
  pub image : (f : List ℕ) (w : Walked f) → image_of f ≡ take (dataoff f w.which) f
