-- What the private functions hand on: the first command at which a test holds, and the part of the file that the signature's command names.
use Rattle.std.specs.Prelude.{ℕ, ◌<◌, ◌≤◌, Bool, List, Option, MatchOption, Result, Ok, Err, ◌≡◌, length}
use Rattle.refusals.specs.declared.refusal.Refusal.{Refusal}
use Rattle.refusals.specs.Named.{answer_of}
use Rattle.refusals.specs.Refusals.{Cond, holds, lowest, first, accepted}
use Rattle.layout.specs.MachO.{ncmds, command_at, dataoff}
use Rattle.macho.specs.declared.Span.{Span}
use Rattle.macho.specs.declared.command.Command.{Command}
use Rattle.macho.specs.Rows.{signature_command, data_end, span_rows}

-- `post` relates a command to what a test may answer of it: of each command of the file it answers as f holds at the position
abbrev pub AnswersAs : (Command → Bool → Type 0) → List ℕ → (ℕ → Cond) → Type 0
AnswersAs post file f = (c : Command) (b : Bool) → c.file.now ≡ file → post c b → b ≡ holds (f c.index)

-- the first command at which such a test holds
abbrev pub First : (Command → Bool → Type 0) → List ℕ → Option Command → Type 0
First post file r =
    (f : ℕ → Cond) → AnswersAs post file f
    → MatchOption r (lowest f (ncmds file) ≡ ncmds file) (λ c. (c.index < ncmds file) × (c.index ≡ lowest f (ncmds file)) × (c.at ≡ command_at file c.index) × (c.file.now ≡ file))

-- the part that the first LC_CODE_SIGNATURE names
pub record NamedPart (f : List ℕ) (r : Span) : Type 0 where
  pub command_is : r.command ≡ signature_command f
  pub start_is : r.start ≡ dataoff f (signature_command f)
  pub end_is : r.end ≡ data_end f (signature_command f)
  pub ordered : r.start ≤ r.end
  pub within : r.end ≤ length f

-- tests 38 to 40: that part where they pass
abbrev pub SpanTested : List ℕ → Result Span Refusal → Type 0
SpanTested f (Ok span) = (accepted ≡ first (span_rows f) accepted) × NamedPart f span
SpanTested f (Err r) = answer_of r ≡ first (span_rows f) accepted
