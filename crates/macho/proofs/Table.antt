-- The table is exact: each number is given exactly when its own row is the first to hold, and 0 exactly when none holds. Below, what the
-- code needs where a place or a row depends on what it found before. Assumes nothing.
use Prim.Native.Nat.{ℕ, ◌+◌, ◌<◌, ◌≤◌}
use mathlib.Core.List.{List}
use mathlib.Core.Path.{◌≡◌, refl, sym, ap}
use native.Mathlib.Omega.{arith}
use lib.ListN.{length}
use Rattle.refusals.specs.declared.Answer.{Answer}
use Rattle.refusals.specs.Refusals.{◌<?◌, Passes, Exact, refuse, first, accepted, lowest}
use Rattle.refusals.proofs.Conditions.{pick_yes, pick_no}
use Rattle.refusals.proofs.Exact.{Unused, decides, passes, passed, exact}
use Rattle.refusals.proofs.Joined.{passed_at}
use Rattle.refusals.proofs.Results.{ok_passes}
use Rattle.endian.specs.Numbers.{little}
use Rattle.layout.specs.MachO.{mach_magic, mach_head, header_magic, ncmds, command_at, dataoff, datasize}
use Rattle.macho.specs.Rows.{most_commands, wrong_signature, malformed_command, signature_command, data_end, command_rows, span_rows, walk_rows}

pub command_rows_unused : (f : List ℕ) → Unused (command_rows f) 0
unfolding command_rows
command_rows_unused f = tt

pub walk_rows_unused : (f : List ℕ) → Unused (walk_rows f) 0
unfolding walk_rows command_rows span_rows
walk_rows_unused f = tt

pub walk_rows_exact : (f : List ℕ) → Exact (walk_rows f) accepted
unfolding walk_rows command_rows span_rows
walk_rows_exact f = exact (walk_rows f) accepted tt tt refl

-- the answer's number is 0 exactly when no row holds
pub number_passes : (f : List ℕ) → (first (walk_rows f) accepted).number ≡ 0 → Passes (walk_rows f)
number_passes f e = passed (walk_rows f) accepted 0 (walk_rows_unused f) e

pub passes_number : (f : List ℕ) → Passes (walk_rows f) → (first (walk_rows f) accepted).number ≡ 0
passes_number f p = sym (ap (λ (a : Answer). a.number) (passes (walk_rows f) accepted p))

-- FOR THE CODE

-- 37 in its two ways
module _ (f : List ℕ) (long : mach_head ≤ length f) (magic : header_magic f ≡ mach_magic) where
  pub count_refused : (p : ℕ) → most_commands < ncmds f → p ≡ most_commands → refuse 37 p ≡ first (command_rows f) accepted
  unfolding command_rows
  count_refused p n q =
      let e = pick_yes (most_commands <? ncmds f) most_commands (malformed_command f) p n q in
      decides (command_rows f) accepted 37 p (omega arith)

  pub command_refused : (p : ℕ) → ncmds f ≤ most_commands → p ≡ malformed_command f → p < ncmds f → refuse 37 p ≡ first (command_rows f) accepted
  unfolding command_rows
  command_refused p n q l =
      let e = pick_no (most_commands <? ncmds f) most_commands (malformed_command f) p n q in
      decides (command_rows f) accepted 37 p (omega arith)

-- k is the first LC_CODE_SIGNATURE
module _ (f : List ℕ) (k : ℕ) (e : k ≡ signature_command f) where
  pub wrong_first : (p : ℕ) → p ≡ lowest (wrong_signature f k) (ncmds f) → p ≡ lowest (wrong_signature f (signature_command f)) (ncmds f)
  wrong_first p q = rw (← e) q

  pub wrong_none : lowest (wrong_signature f k) (ncmds f) ≡ ncmds f → lowest (wrong_signature f (signature_command f)) (ncmds f) ≡ ncmds f
  wrong_none q = rw (← e) q

  pub end_first : (start size : ℕ) → start ≡ dataoff f k → size ≡ datasize f k → start + size ≡ data_end f (signature_command f)
  unfolding data_end
  end_first start size p q = rw (← e, p, q)

  -- the data read where it starts is that of the first
  pub data_first : (at start size : ℕ) → at ≡ command_at f k → start ≡ little 4 f (at + 8) → size ≡ little 4 f (at + 12)
      → (start ≡ dataoff f (signature_command f)) × (start + size ≡ data_end f (signature_command f))
  unfolding data_end dataoff datasize
  data_first at start size q p r = rw (← e, p, r, q) (refl, refl)

-- where 36 and 37 pass there are few commands
pub few_commands : (f : List ℕ) → accepted ≡ first (command_rows f) accepted → ncmds f ≤ most_commands
unfolding command_rows
few_commands f e = let p = ok_passes (command_rows f) (command_rows_unused f) e in omega arith

pub few_answered : (f : List ℕ) (a : Answer) → a ≡ first (command_rows f) accepted → a.number ≡ 0 → ncmds f ≤ most_commands
unfolding command_rows
few_answered f a e z =
    let p = passed_at (command_rows f) accepted a (command_rows_unused f) e z in
    omega arith
