-- Tests 36 to 40 pass exactly when the file is `Walked`, and its one LC_CODE_SIGNATURE is then the first. Assumes nothing.
use Prim.Native.Nat.{ℕ, ◌+◌, ◌<◌, ◌≤◌}
use mathlib.Core.Bool.{Bool, true, false}
use mathlib.Core.List.{List}
use mathlib.Core.Logic.{◌↔◌}
use mathlib.Core.Path.{◌≡◌, refl}
use lib.Dec.{ltb}
use lib.ListN.{length}
use borrow.Author.Tests.{ltb-true, ltb-false}
use native.Mathlib.Omega.{arith}
use Rattle.refusals.specs.Refusals.{Passes, Says, first, accepted}
use Rattle.refusals.proofs.Conditions.{said}
use Rattle.refusals.proofs.Positions.{lowest_below, lowest_before, lowest_fails, lowest_most, none_fails, first_fails}
use Rattle.layout.specs.MachO.{code_signature_type, linkedit_size, ncmds, cmd, cmdsize, dataoff, datasize}
use Rattle.macho.specs.Rows.{area_end, malformed, is_signature, wrong_signature, malformed_command, signature_command, data_end, command_rows, span_rows, walk_rows}
use Rattle.macho.specs.Walked.{CommandFormed, Walked, WalkedExactly}
use Rattle.macho.proofs.Table.{number_passes, passes_number}

-- A COMMAND

pub command_formed : (f : List ℕ) (i : ℕ) → Says false (malformed f i) → CommandFormed f i
unfolding malformed area_end
command_formed f i h = record { has_head = omega arith; of_eights = omega arith; in_area = omega arith; in_file = omega arith }

pub formed_passes : (f : List ℕ) (i : ℕ) → CommandFormed f i → Says false (malformed f i)
unfolding malformed area_end
formed_passes f i p = omega (arith, p.has_head, p.of_eights, p.in_area, p.in_file)

-- an LC_CODE_SIGNATURE that 39 passes is no later than the first, and has its size
right : (f : List ℕ) (k i : ℕ) → Says false (wrong_signature f k i) → cmd f i ≡ code_signature_type → (i ≤ k) × (cmdsize f i ≡ linkedit_size)
unfolding wrong_signature is_signature
right f k i h e = let r = h (omega arith) in (omega arith, omega arith)

passes_right : (f : List ℕ) (k i : ℕ) → (cmd f i ≡ code_signature_type → (i ≤ k) × (cmdsize f i ≡ linkedit_size)) → Says false (wrong_signature f k i)
unfolding wrong_signature is_signature
passes_right f k i h e = let r = h (omega arith) in omega arith

-- THE FIRST LC_CODE_SIGNATURE

pub signature_kind : (f : List ℕ) → signature_command f < ncmds f → cmd f (signature_command f) ≡ code_signature_type
unfolding signature_command is_signature
signature_kind f h = said true (is_signature f (signature_command f)) (lowest_fails (is_signature f) (ncmds f) h)

pub signature_first : (f : List ℕ) (i : ℕ) → i < signature_command f → cmd f i ≡ code_signature_type → ⊥
unfolding signature_command is_signature
signature_first f i h = said false (is_signature f i) (lowest_before (is_signature f) (ncmds f) i h)

pub signature_most : (f : List ℕ) → signature_command f ≤ ncmds f
unfolding signature_command
signature_most f = lowest_most (is_signature f) (ncmds f)

-- where there is one command of the type, the first is that one
signature_only : (f : List ℕ) (k : ℕ) → k < ncmds f → cmd f k ≡ code_signature_type → ((i : ℕ) → i < ncmds f → cmd f i ≡ code_signature_type → i ≡ k) → signature_command f ≡ k
unfolding signature_command is_signature
signature_only f k h e only =
    first_fails (is_signature f) (ncmds f) k h (λ i l q. let s = only i (omega arith) q in omega arith) e

no_earlier : (f : List ℕ) (i : ℕ) → cmd f i ≡ code_signature_type → i ≤ signature_command f → i ≡ signature_command f
no_earlier f i e h = by_test (ltb i (signature_command f)) refl
  where
    by_test : (t : Bool) → ltb i (signature_command f) ≡ t → i ≡ signature_command f
    by_test true q = absurd (signature_first f i (ltb-true i (signature_command f) q) e)
    by_test false q = omega (arith, ltb-false i (signature_command f) q)

-- BOTH WAYS

malformed_none : (f : List ℕ) → ncmds f ≤ malformed_command f → (i : ℕ) → i < ncmds f → CommandFormed f i
unfolding malformed_command
malformed_none f h i l = command_formed f i (said false (malformed f i) (lowest_below (malformed f) (ncmds f) h i l))

pub walked : (f : List ℕ) → Passes (walk_rows f) → Walked f
unfolding walk_rows command_rows span_rows data_end
walked f p =
    let here : signature_command f < ncmds f = omega (arith, signature_most f) in
    let kind = signature_kind f here in
    let whole : (i : ℕ) → i < ncmds f → cmd f i ≡ code_signature_type → (i ≤ signature_command f) × (cmdsize f i ≡ linkedit_size) =
    λ i l. right f (signature_command f) i
    (said false (wrong_signature f (signature_command f) i) (lowest_below (wrong_signature f (signature_command f)) (ncmds f) (omega arith) i l)) in
    record {
      has_header = omega arith;
      right_magic = omega arith;
      few_commands = omega arith;
      commands = malformed_none f (omega arith);
      which = signature_command f;
      which_below = here;
      which_type = kind;
      which_size = (whole (signature_command f) here kind).1;
      only = λ i l e. no_earlier f i e (whole i l e).0;
      range_inside = omega arith;
    }

-- the one LC_CODE_SIGNATURE is the first
pub which_first : (f : List ℕ) (w : Walked f) → signature_command f ≡ w.which
which_first f w = signature_only f w.which w.which_below w.which_type w.only

all_formed : (f : List ℕ) → ((i : ℕ) → i < ncmds f → CommandFormed f i) → malformed_command f ≡ ncmds f
unfolding malformed_command
all_formed f h = none_fails (malformed f) (ncmds f) (λ i l. formed_passes f i (h i l))

pub walked_passes : (f : List ℕ) → Walked f → Passes (walk_rows f)
unfolding walk_rows command_rows span_rows data_end
walked_passes f w =
    let e = which_first f w in
    let m = all_formed f w.commands in
    let s =
    none_fails (wrong_signature f (signature_command f)) (ncmds f)
    (λ i l. passes_right f (signature_command f) i
    (λ q. let o = w.only i l q in (omega (arith, o, e), rw o w.which_size))) in
    let r : dataoff f (signature_command f) + datasize f (signature_command f) ≤ length f = rw e w.range_inside in
    omega (arith, w.has_header, w.right_magic, w.few_commands, w.which_below, e, m, s, r)

pub walked_exactly : WalkedExactly
walked_exactly f = (walked f, walked_passes f)

-- so the answer's number is 0 exactly then
pub walks_exactly : (f : List ℕ) → ((first (walk_rows f) accepted).number ≡ 0) ↔ Walked f
walks_exactly f = ((λ e. walked f (number_passes f e)), (λ w. passes_number f (walked_passes f w)))
