-- The parts of a file: the signature is what its command names, and the image is what stands before. Assumes nothing.
use Prim.Native.Nat.{ℕ, ◌+◌, ◌-◌, ◌≤◌}
use mathlib.Core.List.{List}
use mathlib.Core.Path.{◌≡◌, refl, sym, ap, ap₂, ◌∙◌}
use native.Mathlib.Nat.{sub-zero}
use native.Mathlib.Omega.{arith}
use lib.ListN.{length, take, drop}
use lib.Seq.{length-take-le}
use Rattle.endian.specs.Numbers.{AllBytes}
use Rattle.endian.proofs.Laws.{little_below}
use Rattle.refusals.specs.declared.Answer.{Answer}
use Rattle.refusals.specs.Refusals.{first, accepted, Passes}
use Rattle.refusals.specs.declared.refusal.Refusal.{Refusal}
use Rattle.refusals.specs.Named.{answer_of}
use Rattle.refusals.proofs.Conditions.{pick_yes, pick_no}
use Rattle.refusals.proofs.Results.{refused, err_stops, ok_goes}
use Rattle.std.specs.Prelude.{Result, Ok, Err}
use Rattle.layout.specs.MachO.{most_dataoff, ncmds, command_at, dataoff, datasize}
use Rattle.macho.specs.declared.Span.{Span}
use Rattle.macho.specs.Rows.{most_commands, signature_command, data_end, command_rows, span_rows, walk_rows, passing, signature_position, signature_start, signature_end, signature_of, image_of, Spanned, nowhere, SignatureIn}
use Rattle.macho.specs.Commands.{SpanTested}
use Rattle.macho.specs.Walked.{Walked, PartsPlainly}
use Rattle.macho.proofs.Walked.{walked, which_first, walked_passes}
use Rattle.macho.proofs.Table.{command_rows_unused, number_passes, passes_number}

-- WHERE THE SIGNATURE LIES

module _ (f : List ℕ) (e : (first (walk_rows f) accepted).number ≡ 0) where
  pub position_walks : signature_command f ≡ signature_position f
  unfolding signature_position passing
  position_walks = pick_yes _ _ _ _ e refl

  pub start_walks : dataoff f (signature_command f) ≡ signature_start f
  unfolding signature_start passing
  start_walks = pick_yes _ _ _ _ e refl

  pub end_walks : data_end f (signature_command f) ≡ signature_end f
  unfolding signature_end passing
  end_walks = pick_yes _ _ _ _ e refl

module _ (f : List ℕ) (ne : (first (walk_rows f) accepted).number ≡ 0 → ⊥) where
  pub position_refused : 0 ≡ signature_position f
  unfolding signature_position passing
  position_refused = pick_no _ _ _ _ ne refl

  pub start_refused : 0 ≡ signature_start f
  unfolding signature_start passing
  start_refused = pick_no _ _ _ _ ne refl

  pub end_refused : 0 ≡ signature_end f
  unfolding signature_end passing
  end_refused = pick_no _ _ _ _ ne refl

-- what the code hands back
abbrev span : ℕ → ℕ → ℕ → Span
span command start end = record { command = command; start = start; end = end }

pub span_refused : (f : List ℕ) (a : Answer) → a ≡ first (walk_rows f) accepted → (a.number ≡ 0 → ⊥) → Spanned f (span 0 0 0)
span_refused f a q ne =
    let none : (first (walk_rows f) accepted).number ≡ 0 → ⊥ = λ z. ne (ap (λ (x : Answer). x.number) q ∙ z) in
    record {
      command_is = position_refused f none;
      start_is = start_refused f none;
      end_is = end_refused f none;
      ordered = omega arith;
      within = omega arith;
    }

refused_nowhere : (f : List ℕ) (r : Refusal) → answer_of r ≡ first (walk_rows f) accepted → Spanned f nowhere
refused_nowhere f r e = span_refused f (answer_of r) e (refused r)

-- where they pass there are few commands
pub few : (f : List ℕ) (a : Answer) → a ≡ first (walk_rows f) accepted → a.number ≡ 0 → ncmds f ≤ most_commands
few f a q z = (walked f (number_passes f (sym (ap (λ (x : Answer). x.number) q) ∙ z))).few_commands

pub span_walked : (f : List ℕ) (a : Answer) (i start size : ℕ) → a ≡ first (walk_rows f) accepted → a.number ≡ 0
    → i ≡ signature_command f → start ≡ dataoff f i → size ≡ datasize f i → Spanned f (span i start (start + size))
unfolding data_end
span_walked f a i start size q z p o l =
    let e : (first (walk_rows f) accepted).number ≡ 0 = sym (ap (λ (x : Answer). x.number) q) ∙ z in
    let s : start ≡ dataoff f (signature_command f) = rw (← p) o in
    let t : size ≡ datasize f (signature_command f) = rw (← p) l in
    let w = walked f (number_passes f e) in
    let inside : dataoff f (signature_command f) + datasize f (signature_command f) ≤ length f = rw (which_first f w) w.range_inside in
    record {
      command_is = p ∙ position_walks f e;
      start_is = s ∙ start_walks f e;
      end_is = ap₂ (λ (x y : ℕ). x + y) s t ∙ end_walks f e;
      ordered = omega arith;
      within = omega arith;
    }

pub commands_refused : (f : List ℕ) (r : Refusal) → answer_of r ≡ first (command_rows f) accepted → SignatureIn f (Err r)
unfolding walk_rows
commands_refused f r e =
    let w = err_stops (command_rows f) (span_rows f) accepted r e in
    (w, refused_nowhere f r w)

pub span_found : (f : List ℕ) → accepted ≡ first (command_rows f) accepted → (r : Result Span Refusal) → SpanTested f r → SignatureIn f r
unfolding walk_rows
span_found f p (Err r) h =
    let w = ok_goes (command_rows f) (span_rows f) accepted (answer_of r) (command_rows_unused f) p h in
    (w, refused_nowhere f r w)
span_found f p (Ok span) h =
    let w = ok_goes (command_rows f) (span_rows f) accepted accepted (command_rows_unused f) p h.0 in
    let e : (first (walk_rows f) accepted).number ≡ 0 = sym (ap (λ (a : Answer). a.number) w) in (
      w,
      record {
        command_is = h.1.command_is ∙ position_walks f e;
        start_is = h.1.start_is ∙ start_walks f e;
        end_is = h.1.end_is ∙ end_walks f e;
        ordered = h.1.ordered;
        within = h.1.within;
      },
    )

-- A FILE THAT PASSES

module _ (f : List ℕ) (w : Walked f) where
  number : (first (walk_rows f) accepted).number ≡ 0
  number = passes_number f (walked_passes f w)

  position_is : signature_position f ≡ w.which
  position_is = sym (position_walks f number) ∙ which_first f w

  pub start_is : signature_start f ≡ dataoff f w.which
  start_is = sym (start_walks f number) ∙ ap (dataoff f) (which_first f w)

  pub end_is : signature_end f ≡ dataoff f w.which + datasize f w.which
  unfolding data_end
  end_is = sym (end_walks f number) ∙ ap (data_end f) (which_first f w)

  -- the image ends where it starts
  pub image_length_is : length (image_of f) ≡ dataoff f w.which
  unfolding image_of
  image_length_is =
      let s = start_is in
      length-take-le (signature_start f) f (omega (arith, w.range_inside)) ∙ s

  -- both are what the command names
  pub signature_named : signature_of f ≡ take (datasize f w.which) (drop (dataoff f w.which) f)
  unfolding signature_of
  signature_named =
      let s = start_is in
      let e = end_is in
      let n : signature_end f - signature_start f ≡ datasize f w.which = omega arith in
      ap₂ (λ (n o : ℕ). take n (drop o f)) n s

  pub image_named : image_of f ≡ take (dataoff f w.which) f
  unfolding image_of
  image_named = ap (λ (n : ℕ). take n f) start_is

pub parts_plainly : PartsPlainly
parts_plainly = record { position = position_is; start = start_is; end = end_is; signature = signature_named; image = image_named }

-- of a file that passes tests 36 to 40, the image ends where the signature starts
pub image_long : (f : List ℕ) → Passes (walk_rows f) → length (image_of f) ≡ signature_start f
image_long f p = let w = walked f p in image_length_is f w ∙ sym (start_is f w)

-- WHAT A COMMAND CAN NAME

-- of bytes: no signature starts past what an offset can state
pub start_below : (f : List ℕ) → AllBytes f → Walked f → signature_start f ≤ most_dataoff
unfolding dataoff
start_below f h w = let b = little_below f h 4 (command_at f w.which + 8) in rw (start_is f w) (omega arith)

-- the image as the code lends it
pub image_slice : (f : List ℕ) → take (signature_start f - 0) (drop 0 f) ≡ image_of f
unfolding image_of
image_slice f = ap (λ (n : ℕ). take n f) (sub-zero (signature_start f))
