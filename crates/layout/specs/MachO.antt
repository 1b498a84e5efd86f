-- The Mach-O header and its load commands: their fields by byte, little-endian. `f` is the lent file; a byte past its end counts as 0.
use Rattle.std.specs.Prelude.{ℕ, zero, suc, ◌+◌, ◌<◌, List, ◌≡◌}
use Rattle.endian.specs.Numbers.{little}
use Rattle.layout.specs.declared.macho.MachHeader.{MachHeader}
use Rattle.layout.specs.declared.macho.LoadCommand.{LoadCommand}
use Rattle.layout.specs.declared.macho.LinkeditData.{LinkeditData}

-- CONSTANTS OF THE LAYOUT

-- MH_MAGIC_64
abbrev pub mach_magic : ℕ
mach_magic = 0xFEEDFACF

-- bytes of the header, behind which the load commands start
abbrev pub mach_head : ℕ
mach_head = 32

-- bytes with which every load command opens: its type and its size
abbrev pub command_head : ℕ
command_head = 8

-- a command's size is a multiple of this
abbrev pub command_align : ℕ
command_align = 8

-- LC_CODE_SIGNATURE, and the bytes of such a command (linkedit_data_command)
abbrev pub code_signature_type : ℕ
code_signature_type = 0x1D

abbrev pub linkedit_size : ℕ
linkedit_size = 16

-- the largest offset that it can state: it has 32 bits
abbrev pub most_dataoff : ℕ
most_dataoff = 4294967295

-- THE HEADER

unfoldable pub header_magic : List ℕ → ℕ
header_magic f = little 4 f 0

unfoldable pub ncmds : List ℕ → ℕ
ncmds f = little 4 f 16

unfoldable pub sizeofcmds : List ℕ → ℕ
sizeofcmds f = little 4 f 20

-- THE LOAD COMMANDS

-- where command i starts: the first behind the header, each other where the one before ends
unfoldable pub command_at : List ℕ → ℕ → ℕ
command_at f zero = mach_head
command_at f (suc i) = command_at f i + little 4 f (command_at f i + 4)

-- its type and its size
unfoldable pub cmd : List ℕ → ℕ → ℕ
cmd f i = little 4 f (command_at f i)

unfoldable pub cmdsize : List ℕ → ℕ → ℕ
cmdsize f i = little 4 f (command_at f i + 4)

-- the part of the file that it names, where it is a linkedit_data_command
unfoldable pub dataoff : List ℕ → ℕ → ℕ
dataoff f i = little 4 f (command_at f i + 8)

unfoldable pub datasize : List ℕ → ℕ → ℕ
datasize f i = little 4 f (command_at f i + 12)

-- WHAT THE CONSTRUCTORS READ

pub record HeaderRead (f : List ℕ) (h : MachHeader) : Type 0 where
  pub magic_is : h.magic ≡ header_magic f
  pub ncmds_is : h.ncmds ≡ ncmds f
  pub sizeofcmds_is : h.sizeofcmds ≡ sizeofcmds f
  pub magic_below : h.magic < 4294967296
  pub ncmds_below : h.ncmds < 4294967296
  pub sizeofcmds_below : h.sizeofcmds < 4294967296

pub record CommandRead (f : List ℕ) (at : ℕ) (c : LoadCommand) : Type 0 where
  pub cmd_is : c.cmd ≡ little 4 f at
  pub cmdsize_is : c.cmdsize ≡ little 4 f (at + 4)
  pub cmd_below : c.cmd < 4294967296
  pub cmdsize_below : c.cmdsize < 4294967296

pub record LinkeditRead (f : List ℕ) (at : ℕ) (c : LinkeditData) : Type 0 where
  pub dataoff_is : c.dataoff ≡ little 4 f (at + 8)
  pub datasize_is : c.datasize ≡ little 4 f (at + 12)
  pub dataoff_below : c.dataoff < 4294967296
  pub datasize_below : c.datasize < 4294967296
