-- The walk sees the header and the stated command area, and the file's length. Two files of one length that agree there are walked alike
-- and have their signature in one range, whatever stands behind. Assumes nothing.
use Prim.Native.Nat.{ℕ, zero, suc, ◌+◌, ◌<◌, ◌≤◌}
use mathlib.Core.List.{List}
use mathlib.Core.Path.{◌≡◌, refl, sym, ap, ap₂, ◌∙◌}
use native.Mathlib.Omega.{arith}
use lib.ListN.{length, get_or}
use Rattle.endian.specs.Numbers.{little}
use Rattle.endian.proofs.Numbers.{little_same}
use Rattle.layout.specs.MachO.{mach_head, header_magic, ncmds, sizeofcmds, command_at, cmd, cmdsize, dataoff, datasize}
use Rattle.macho.specs.Rows.{signature_start, signature_end}
use Rattle.macho.specs.Walked.{CommandFormed, Walked}
use Rattle.macho.proofs.Parts.{start_is, end_is}

-- two files of one length that have the same header and the same bytes in the stated command area
pub record Alike (f g : List ℕ) : Type 0 where
  pub long : length f ≡ length g
  pub bytes : (k : ℕ) → k < mach_head + sizeofcmds f → get_or f k 0 ≡ get_or g k 0

module _ (f g : List ℕ) (a : Alike f g) (w : Walked f) where
  number : (at : ℕ) → at + 4 ≤ mach_head + sizeofcmds f → little 4 f at ≡ little 4 g at
  number at h = little_same 4 f g at (λ k l m. a.bytes k (omega arith))

  magic_same : header_magic f ≡ header_magic g
  unfolding header_magic
  magic_same = number 0 (omega arith)

  ncmds_same : ncmds f ≡ ncmds g
  unfolding ncmds
  ncmds_same = number 16 (omega arith)

  sizeofcmds_same : sizeofcmds f ≡ sizeofcmds g
  unfolding sizeofcmds
  sizeofcmds_same = number 20 (omega arith)

  -- a number in the first n bytes of a command that is at least so long
  field : (i n : ℕ) → i < ncmds f → n + 4 ≤ cmdsize f i → little 4 f (command_at f i + n) ≡ little 4 g (command_at f i + n)
  field i n l h = let p = w.commands i l in number (command_at f i + n) (omega (arith, p.in_area))

  size_at : (i : ℕ) → i < ncmds f → little 4 f (command_at f i + 4) ≡ little 4 g (command_at f i + 4)
  size_at i l = field i 4 l (w.commands i l).has_head

  at_same : (i : ℕ) → i ≤ ncmds f → command_at f i ≡ command_at g i
  unfolding command_at
  at_same zero h = refl
  at_same (suc i) h =
      let e = at_same i (omega arith) in
      ap₂ (λ (x y : ℕ). x + y) e (size_at i (omega arith) ∙ ap (λ (x : ℕ). little 4 g (x + 4)) e)

  cmd_same : (i : ℕ) → i < ncmds f → cmd f i ≡ cmd g i
  unfolding cmd
  cmd_same i l =
      let p = w.commands i l in
      number (command_at f i) (omega (arith, p.in_area, p.has_head)) ∙ ap (λ (x : ℕ). little 4 g x) (at_same i (omega arith))

  cmdsize_same : (i : ℕ) → i < ncmds f → cmdsize f i ≡ cmdsize g i
  unfolding cmdsize
  cmdsize_same i l = size_at i l ∙ ap (λ (x : ℕ). little 4 g (x + 4)) (at_same i (omega arith))

  formed_same : (i : ℕ) → i < ncmds f → CommandFormed g i
  formed_same i l =
      let p = w.commands i l in
      let e = cmdsize_same i l in
      let s = at_same i (omega arith) in
      let z = sizeofcmds_same in
      record {
        has_head = rw (← e) p.has_head;
        of_eights = rw (← e) p.of_eights;
        in_area = rw (← e, ← s, ← z) p.in_area;
        in_file = rw (← e, ← s, ← a.long) p.in_file;
      }

  dataoff_same : dataoff f w.which ≡ dataoff g w.which
  unfolding dataoff
  dataoff_same =
      field w.which 8 w.which_below (omega (arith, w.which_size))
      ∙ ap (λ (x : ℕ). little 4 g (x + 8)) (at_same w.which (omega (arith, w.which_below)))

  datasize_same : datasize f w.which ≡ datasize g w.which
  unfolding datasize
  datasize_same =
      field w.which 12 w.which_below (omega (arith, w.which_size))
      ∙ ap (λ (x : ℕ). little 4 g (x + 12)) (at_same w.which (omega (arith, w.which_below)))

  -- the other file passes tests 36 to 40 too, with the same command
  pub walked_same : Walked g
  walked_same =
      let n = ncmds_same in
      record {
        has_header = rw (← a.long) w.has_header;
        right_magic = sym magic_same ∙ w.right_magic;
        few_commands = rw (← n) w.few_commands;
        commands = λ i l. formed_same i (omega arith);
        which = w.which;
        which_below = rw (← n) w.which_below;
        which_type = sym (cmd_same w.which w.which_below) ∙ w.which_type;
        which_size = sym (cmdsize_same w.which w.which_below) ∙ w.which_size;
        only = λ i l e. w.only i (omega arith) (cmd_same i (omega arith) ∙ e);
        range_inside = rw (← dataoff_same, ← datasize_same, ← a.long) w.range_inside;
      }

  -- and its signature lies in the same range
  pub start_same : signature_start g ≡ signature_start f
  unfolding walked_same
  start_same = start_is g walked_same ∙ sym dataoff_same ∙ sym (start_is f w)

  pub end_same : signature_end g ≡ signature_end f
  unfolding walked_same
  end_same =
      end_is g walked_same ∙ sym (ap₂ (λ (x y : ℕ). x + y) dataoff_same datasize_same) ∙ sym (end_is f w)
