-- Where a blob lies: nowhere where tests 1 to 9 refuse or the type is missing, else at its entry's offset, for its own length.
use Prim.Native.Nat.{ℕ, ◌+◌, ◌<◌}
use mathlib.Core.Bool.{true, false}
use mathlib.Core.List.{List}
use mathlib.Core.Path.{◌≡◌, refl, sym, ap, ◌∙◌}
use native.Mathlib.Omega.{arith}
use Rattle.std.specs.Prelude.{Option, Result, None, Some}
use Rattle.std.specs.Option.{is_some}
use Rattle.std.specs.Result.{is_ok}
use Rattle.refusals.specs.declared.refusal.Refusal.{Refusal}
use Rattle.refusals.specs.declared.Answer.{Answer}
use Rattle.refusals.specs.Refusals.{◌<?◌, Says, holds, first, accepted}
use Rattle.refusals.specs.Named.{test_answer}
use Rattle.refusals.proofs.Exact.{passed}
use Rattle.refusals.proofs.Conditions.{says, pick_yes, pick_no}
use Rattle.refusals.proofs.Results.{ok_accepts, err_refuses}
use Rattle.layout.specs.SuperBlob.{count, offset_at, blob_length}
use Rattle.superblob.specs.Rows.{rows, position, PositionIn, has, present, blob_start, blob_end, Located}
use Rattle.superblob.proofs.Formed.{formed}
use Rattle.superblob.proofs.Numbers.{rows_unused}

-- the index has the type where a search finds a position
pub has_found : (s : List ℕ) (t : ℕ) (r : Option ℕ) → PositionIn s t r → is_some r ≡ holds (has s t)
unfolding has
has_found s t None h = says false (position s t <? count s) (omega arith)
has_found s t (Some i) h = says true (position s t <? count s) (omega arith)

module _ (s : List ℕ) (t : ℕ) where
  span_absent : Says false (present s t) → Located s t None
  unfolding blob_start blob_end
  span_absent none =
      record {
        found = record {
          start_is = pick_no _ _ _ _ none refl;
          end_is = pick_no _ _ _ _ none refl;
          ordered = omega arith;
          within = omega arith;
        };
        there = says false (present s t) none;
      }

  pub span_missing : position s t ≡ count s → Located s t None
  unfolding present has
  span_missing e = span_absent (λ z. omega arith)

  module _ (r : Result Unit Refusal) (e : test_answer r ≡ first (rows 0 s) accepted) where
    pub span_refused : false ≡ is_ok r → Located s t None
    unfolding present has
    span_refused ne = span_absent (λ z. absurd (err_refuses r ne (ap (λ (a : Answer). a.number) e ∙ z)))

    pub span_found : true ≡ is_ok r → (i start size : ℕ) → (i < count s) × (i ≡ position s t)
        → start ≡ offset_at s i → size ≡ blob_length s i → Located s t (Some (record { start = start; end = start + size }))
    unfolding blob_start blob_end present has
    span_found ok i start size p o l =
        let w = sym (ap (λ (a : Answer). a.number) e) ∙ ok_accepts r ok in
        let b = formed 0 s (passed (rows 0 s) accepted 0 (rows_unused 0 s) w) in
        record {
          found = record {
            start_is = pick_yes _ _ _ _ (w, omega arith) (cc);
            end_is = pick_yes _ _ _ _ (w, omega arith) (cc);
            ordered = omega arith;
            within = omega (arith, b.lent, b.inside i (omega arith));
          };
          there = says true (present s t) (w, omega arith);
        }
