-- How rows 37 to 41 read, both ways: by what a condition says where it holds and where it does not. Assumes nothing.
use Prim.Native.Nat.{ℕ, ◌<◌, ◌≤◌}
use mathlib.Core.Bool.{Bool, true, false, true≢false}
use mathlib.Core.List.{List}
use mathlib.Core.Logic.{◌⊎◌, ◌↔◌, inl, inr, ⊎_elim}
use mathlib.Core.Path.{◌≡◌, refl, sym, ◌∙◌}
use native.Mathlib.Omega.{arith}
use lib.Dec.{ltb}
use borrow.Author.Tests.{ltb-true, ltb-false}
use Rattle.refusals.specs.Refusals.{◌<?◌, ◌≡?◌, ◌or◌, Cond, holds, Says, pick, LowestAt}
use Rattle.refusals.proofs.Conditions.{says, said, pick_yes, pick_no}
use Rattle.refusals.proofs.Plain.{over_plainly}
use Rattle.layout.specs.MachO.{code_signature_type, linkedit_size, ncmds, cmd, cmdsize}
use Rattle.macho.specs.Rows.{most_commands, malformed, is_signature, wrong_signature, malformed_command, signature_command}
use Rattle.macho.specs.Walked.{CommandFormed, WalkPlainly}
use Rattle.macho.proofs.Walked.{command_formed, formed_passes, signature_kind, signature_first, signature_most}

-- a condition holds where it is absurd that it does not
says_unless : (c : Cond) → (Says false c → ⊥) → Says true c
says_unless c h = by_test (holds c) refl
  where
    by_test : (b : Bool) → holds c ≡ b → Says true c
    by_test true e = said true c (sym e)
    by_test false e = absurd (h (said false c (sym e)))

not_both : (c : Cond) → Says true c → Says false c → ⊥
not_both c h k = true≢false (says true c h ∙ sym (says false c k))

-- 37

formed : (f : List ℕ) (i : ℕ) → Says true (malformed f i) ↔ (CommandFormed f i → ⊥)
formed f i = (
  (λ h p. not_both (malformed f i) h (formed_passes f i p)),
  λ h. says_unless (malformed f i) (λ k. h (command_formed f i k)),
)

module _ (f : List ℕ) (p : ℕ) where
  abbrev Row37 : Type 0
  Row37 = Says true (most_commands <? ncmds f or malformed_command f <? ncmds f) × (p ≡ pick (most_commands <? ncmds f) most_commands (malformed_command f))

  abbrev Reads37 : Type 0
  Reads37 = ((most_commands < ncmds f) × (p ≡ most_commands)) ⊎ ((ncmds f ≤ most_commands) × LowestAt (malformed f) (ncmds f) p)

  many : most_commands < ncmds f → Row37 ↔ Reads37
  many l =
      let q = pick_yes (most_commands <? ncmds f) most_commands (malformed_command f) most_commands l refl in (
        (λ h. inl (l, h.1 ∙ sym q)),
        λ r. ((λ k. absurd (omega arith)), ⊎_elim (λ h. h.1 ∙ q) (λ h. absurd (omega (arith, h.0))) r),
      )

  few : ncmds f ≤ most_commands → Row37 ↔ Reads37
  unfolding malformed_command
  few l =
      let q = pick_no (most_commands <? ncmds f) most_commands (malformed_command f) (malformed_command f) l refl in
      let o = over_plainly (ncmds f) (malformed f) p in (
        (λ h. inr (l, o.0 (h.0 l, h.1 ∙ sym q))),
        λ r.
            let w : LowestAt (malformed f) (ncmds f) p = ⊎_elim (λ h. absurd (omega (arith, h.0))) (λ h. h.1) r in
            let v = o.1 w in
            ((λ k. v.0), v.1 ∙ q),
      )

  commands : Row37 ↔ Reads37
  commands = by_test (ltb most_commands (ncmds f)) refl
    where
      by_test : (b : Bool) → ltb most_commands (ncmds f) ≡ b → Row37 ↔ Reads37
      by_test true e = many (ltb-true most_commands (ncmds f) e)
      by_test false e = few (ltb-false most_commands (ncmds f) e)

-- 38

none : (f : List ℕ) → Says true (signature_command f ≡? ncmds f) ↔ ((i : ℕ) → i < ncmds f → cmd f i ≡ code_signature_type → ⊥)
none f = (
  (λ e i l. signature_first f i (omega arith)),
  nowhere,
)
  where
    nowhere : ((i : ℕ) → i < ncmds f → cmd f i ≡ code_signature_type → ⊥) → signature_command f ≡ ncmds f
    nowhere h = by_test (ltb (signature_command f) (ncmds f)) refl
      where
        by_test : (b : Bool) → ltb (signature_command f) (ncmds f) ≡ b → signature_command f ≡ ncmds f
        by_test true e =
            let l = ltb-true (signature_command f) (ncmds f) e in
            absurd (h (signature_command f) l (signature_kind f l))
        by_test false e = omega (arith, ltb-false (signature_command f) (ncmds f) e, signature_most f)

-- 39

module _ (f : List ℕ) (i : ℕ) (l : i < ncmds f) where
  abbrev k : ℕ
  k = signature_command f

  abbrev Reads39 : Type 0
  Reads39 = (cmd f i ≡ code_signature_type) × (((j : ℕ) × ((j < i) × (cmd f j ≡ code_signature_type))) ⊎ (cmdsize f i ≡ linkedit_size → ⊥))

  -- the first stands before i exactly when some other does
  earlier : k < i → (j : ℕ) × ((j < i) × (cmd f j ≡ code_signature_type))
  earlier h = (k, (h, signature_kind f (omega arith)))

  first_before : (j : ℕ) → j < i → cmd f j ≡ code_signature_type → k < i
  first_before j h e = by_test (ltb k i) refl
    where
      by_test : (b : Bool) → ltb k i ≡ b → k < i
      by_test true t = ltb-true k i t
      by_test false t = absurd (signature_first f j (omega (arith, ltb-false k i t)) e)

  reads39 : Says true (wrong_signature f k i) → Reads39
  unfolding wrong_signature is_signature
  reads39 h = (h.0, by_test (ltb k i) refl)
    where
      by_test : (b : Bool) → ltb k i ≡ b → ((j : ℕ) × ((j < i) × (cmd f j ≡ code_signature_type))) ⊎ (cmdsize f i ≡ linkedit_size → ⊥)
      by_test true t = inl (earlier (ltb-true k i t))
      by_test false t = inr (h.1 (ltb-false k i t))

  holds39 : Reads39 → Says true (wrong_signature f k i)
  unfolding wrong_signature is_signature
  holds39 r = (r.0, λ n. ⊎_elim (λ w. absurd (omega (arith, first_before w.0 w.1.0 w.1.1))) (λ s. s) r.1)

-- 40 AND 41

place : (f : List ℕ) → signature_command f < ncmds f → LowestAt (is_signature f) (ncmds f) (signature_command f)
unfolding signature_command
place f l = (over_plainly (ncmds f) (is_signature f) (signature_command f)).0 (l, refl)

pub walk_plainly : WalkPlainly
walk_plainly =
    record {
      commands = commands;
      formed = formed;
      none = none;
      second = λ f i l. (reads39 f i l, holds39 f i l);
      place = place;
    }
