-- The length of a part that is found, and what is shown where tests 1 to 18 pass. Assumes nothing.
use Prim.Native.Nat.{ℕ, ◌-◌}
use mathlib.Core.Bool.{true, false, cond}
use mathlib.Core.List.{List}
use mathlib.Core.Path.{◌≡◌, sym, ap, ap₂, ◌∙◌}
use native.Mathlib.Omega.{arith}
use lib.ListN.{length, drop, replicate, length-drop}
use lib.Seq.{length-take-le}
use Rattle.std.specs.Prelude.{Option, None, Some}
use Rattle.std.specs.Option.{unwrap_or}
use Rattle.refusals.specs.declared.Answer.{Answer}
use Rattle.refusals.specs.Refusals.{◌≡?◌}
use Rattle.refusals.proofs.Conditions.{says}
use Rattle.superblob.specs.declared.Span.{Span}
use Rattle.superblob.specs.Rows.{Found, nowhere, Located, start_of, blob_start, blob_end, blob}
use Rattle.layout.specs.CodeDirectory.{directory_type}
use Rattle.layout.specs.TrustCache.{cdhash_length}
use Rattle.directory.specs.Rows.{directory}
use Rattle.cdhash.specs.Hash.{cdhash}
use Rattle.trewizlow.specs.Interface.{read_answer, readable, fields_of, no_fields, directory_fields, hash_with, directory_hash}

-- where the blob lies, nowhere where there is none
pub located : (s : List ℕ) (t : ℕ) (r : Option Span) → Located s t r → Found s t (unwrap_or r nowhere)
located s t None l = l.found
located s t (Some span) l = l.found

pub span_length : (s : List ℕ) (t : ℕ) (r : Span) → Found s t r → r.end - r.start ≡ length (blob s t)
unfolding blob
span_length s t r f =
    ap₂ (λ (e a : ℕ). e - a) f.end_is f.start_is
    ∙ sym (length-take-le (blob_end s t - blob_start s t) (drop (blob_start s t) s)
    (omega (arith, length-drop (blob_start s t) s, f.start_is, f.end_is, f.within, f.ordered)))

module _ (s : List ℕ) (a : Answer) (e : a ≡ read_answer s) where
  -- one of two where the tests pass, the other where they refuse
  pub when_read : {A : Type 0} (x y : A) → a.number ≡ 0 → x ≡ cond (readable s) x y
  when_read x y h = rw (← says true ((read_answer s).number ≡? 0) (sym (ap (λ (b : Answer). b.number) e) ∙ h))

  pub when_refused : {A : Type 0} (x y : A) → (a.number ≡ 0 → ⊥) → y ≡ cond (readable s) x y
  when_refused x y h = rw (← says false ((read_answer s).number ≡? 0) (λ z. h (ap (λ (b : Answer). b.number) e ∙ z)))

  pub fields_read : a.number ≡ 0 → fields_of a (start_of s directory_type) (directory s) ≡ directory_fields s
  unfolding directory_fields
  fields_read h = ap (λ (b : Answer). fields_of b (start_of s directory_type) (directory s)) e ∙ when_read _ _ h

  pub fields_refused : (a.number ≡ 0 → ⊥) → no_fields a ≡ directory_fields s
  unfolding directory_fields
  fields_refused h = ap no_fields e ∙ when_refused _ _ h

  pub hash_read : a.number ≡ 0 → hash_with a (cdhash (directory s)) ≡ directory_hash s
  unfolding directory_hash
  hash_read h = ap₂ hash_with e (when_read _ _ h)

  pub hash_refused : (a.number ≡ 0 → ⊥) → hash_with a (replicate cdhash_length 0) ≡ directory_hash s
  unfolding directory_hash
  hash_refused h = ap₂ hash_with e (when_refused _ _ h)
