-- The number of marks that are lent, the verdict of a check that is lent so many, and what is said of a file. Assumes nothing.
use Prim.Native.Nat.{ℕ, ◌-◌, ◌<◌, ◌≤◌}
use mathlib.Core.Bool.{Bool, true, false, not, true≢false, false≢true}
use mathlib.Core.List.{List}
use mathlib.Core.Path.{◌≡◌, refl, sym, ap, ◌∙◌}
use native.Mathlib.Omega.{arith}
use lib.ListN.{length, take, drop, length-take, length-drop}
use lib.Seq.{length-take-le}
use borrow.Author.Tests.{lt-ltb, le-ltb}
use Rattle.refusals.specs.declared.Answer.{Answer}
use Rattle.refusals.specs.Refusals.{accepted, first}
use Rattle.refusals.proofs.Conditions.{pick_yes, pick_no}
use Rattle.layout.specs.SuperBlob.{offset_at, blob_length}
use Rattle.layout.specs.CodeDirectory.{directory_type, n_code_slots}
use Rattle.superblob.specs.Rows.{position, blob_at, blob_of}
use Rattle.directory.specs.Rows.{directory, signature_rows}
use Rattle.directory.proofs.Numbers.{signature_rows_exact}
use Rattle.directory.proofs.Pages.{few}
use Rattle.directory.proofs.Formed.{signature_exactly}
use Rattle.admission.specs.declared.Verdict.{Verdict}
use Rattle.admission.specs.Check.{CheckOutcome, check_of, check_answer, verdict_of, Checked}
use Rattle.std.specs.Prelude.{Err}
use Rattle.admit_run.specs.declared.FileError.{FileError}
use Rattle.admit_run.specs.declared.FileError.TheVariants.{NoFile, TooLong}
use Rattle.admit_run.specs.Small.{marks_wanted, files, small_verdict, File, has, file_of, outcome, Line, judged}

-- the directory is a part of the signature
directory_length : (s : List ℕ) → length (directory s) ≤ length s
unfolding blob_of blob_at
directory_length s =
    let i = position s directory_type in
    omega (arith, length-take (blob_length s i) (drop (offset_at s i) s), length-drop (offset_at s i) s)

module _ (s : List ℕ) (a : Answer) (e : a ≡ first (signature_rows 0 s) accepted) where
  pub wanted_none : (a.number ≡ 0 → ⊥) → 0 ≡ marks_wanted s
  unfolding marks_wanted
  wanted_none h = pick_no _ _ _ _ (λ z. h (ap (λ (x : Answer). x.number) e ∙ z)) refl

  pub wanted_some : (n : ℕ) → n ≡ n_code_slots (directory s) → a.number ≡ 0 → (n ≡ marks_wanted s) × (n ≤ length s)
  unfolding marks_wanted
  wanted_some n q h =
      let z : (first (signature_rows 0 s) accepted).number ≡ 0 = sym (ap (λ (x : Answer). x.number) e) ∙ h in
      let w = few (directory s) ((signature_exactly 0 s).0 ((signature_rows_exact 0 s).accepts.0 z)).formed in
      (pick_yes _ _ _ _ z q, omega (arith, directory_length s))

pub verdict_is : (s image cache marks : List ℕ) (n : ℕ) (v : Verdict) (after : List ℕ) → n ≡ marks_wanted s → n ≤ length marks
    → Checked (files s image cache) (take (n - 0) (drop 0 marks)) v after → v ≡ small_verdict s image cache
unfolding small_verdict check_of
verdict_is s image cache marks n v after e h c =
    let z : n - 0 ≡ marks_wanted s = omega arith in
    ap (λ (o : CheckOutcome). o.verdict) c
    ∙ ap (λ (m : ℕ). verdict_of (check_answer (files s image cache) m)) (length-take-le (n - 0) marks (omega arith) ∙ z)

-- what is said of a file, by what its reading told: it was not there, it is over its size, or neither
module _ (most : ℕ) (bytes : List ℕ) (rest : List ℕ → Line) where
  pub judged_missing : (there : Bool) → not there ≡ true → Err NoFile ≡ judged (file_of most there bytes) rest
  unfolding judged file_of
  judged_missing false e = refl
  judged_missing true e = absurd (false≢true e)

  pub judged_long : (there : Bool) → not there ≡ false → most < length bytes → Err TooLong ≡ judged (file_of most there bytes) rest
  unfolding judged file_of
  judged_long true e h = rw (lt-ltb most (length bytes) h) refl
  judged_long false e h = absurd (true≢false e)

  pub judged_within : (there : Bool) → not there ≡ false → length bytes ≤ most → rest bytes ≡ judged (file_of most there bytes) rest
  unfolding judged file_of
  judged_within true e h = rw (le-ltb most (length bytes) h) refl
  judged_within false e h = absurd (true≢false e)

-- what is said of a file that is refused, and of one whose bytes are taken
module _ (file : File) (rest : List ℕ → Line) where
  pub judged_wrong : (e : FileError) → outcome (Err e) ≡ file → Err e ≡ judged file rest
  unfolding judged
  judged_wrong NoFile h = ap (λ (f : File). judged f rest) h
  judged_wrong TooLong h = ap (λ (f : File). judged f rest) h

  pub judged_has : (bytes : List ℕ) → has bytes ≡ file → rest bytes ≡ judged file rest
  unfolding judged
  judged_has bytes h = ap (λ (f : File). judged f rest) h
