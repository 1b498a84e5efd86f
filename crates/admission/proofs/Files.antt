-- A whole check of a file beside that of its image and signature lent apart: where tests 36 to 40 and 41 pass, the image ends at the code limit,
-- 19 passes too, and both are one; where 1 to 18 refuse, neither is reached. Assumes nothing.
use Prim.Native.Nat.{ℕ}
use mathlib.Core.Bool.{Bool, true, false}
use mathlib.Core.List.{List, ◌++◌}
use mathlib.Core.Logic.{◌⊎◌}
use mathlib.Core.Path.{◌≡◌, refl, sym, ap, ◌∙◌}
use native.Mathlib.Omega.{arith}
use lib.Dec.{eqb}
use lib.ListN.{length}
use borrow.Author.Tests.{eqb-true, eqb-false}
use Rattle.refusals.specs.declared.Answer.{Answer}
use Rattle.refusals.specs.Refusals.{Row, refuse, accepted, first, Passes}
use Rattle.refusals.proofs.Exact.{Unused, Distinct, passes, passed}
use Rattle.refusals.proofs.Joined.{first_append, stops, append_passes, passes_append}
use Rattle.superblob.specs.Rows.{rows, head_rows, index_rows}
use Rattle.directory.specs.Rows.{directory, signature_rows, directory_rows, blob_rows, field_rows, slot_rows}
use Rattle.directory.proofs.Numbers.{signature_rows_unused}
use Rattle.slots.specs.Slots.{special_rows}
use Rattle.trustcache.specs.Rows.{form_rows, lookup_rows}
use Rattle.trustcache.specs.Launch.{launch_rows}
use Rattle.trustcache.specs.Table.{cache_rows}
use Rattle.marks.specs.Marks.{bad_rows}
use Rattle.macho.specs.Rows.{command_rows, span_rows, walk_rows, signature_position, signature_start, signature_of, image_of}
use Rattle.macho.proofs.Parts.{image_long}
use Rattle.admission.specs.declared.Origin.TheVariants as origin
use Rattle.admission.specs.declared.Verdict.{Verdict}
use Rattle.admission.specs.Input.{Lent, beside, longest, limit_of, marks_of}
use Rattle.admission.specs.Check.{image_rows, later_rows, count_rows, check_rows, entry_for, check_table, check_answer, check_marks, CheckOutcome, check_of}
use Rattle.admission.specs.File.{LentFile, apart, start_rows, file_rows, file_table, file_answer, file_of, FileChecked}
use Rattle.admission.specs.Parts.{parts_rows, parts_of}
use Rattle.admission.proofs.Calls.{outcome_alike, file_parts}
use Rattle.admission.proofs.Outcomes.{tests_pass}

-- no two rows have one number, and none before the pages has 0 or 31: all compute
pub record FileNumbers (x : LentFile) (m : ℕ) : Type 0 where
  pub no_zero : Unused (file_table x m) 0
  pub distinct : Distinct (file_table x m)
  pub tests_no_zero : Unused (file_rows x m) 0
  pub tests_no_31 : Unused (file_rows x m) 31

pub file_numbers_hold : (x : LentFile) (m : ℕ) → FileNumbers x m
unfolding file_table file_rows walk_rows command_rows span_rows signature_rows rows head_rows index_rows directory_rows blob_rows field_rows slot_rows start_rows later_rows count_rows special_rows cache_rows form_rows lookup_rows launch_rows bad_rows
file_numbers_hold x m = record { no_zero = tt; distinct = tt; tests_no_zero = tt; tests_no_31 = tt }

-- 19 IN PLACE OF 41, of an image that ends at the code limit

module _ (x : Lent) (command : ℕ) (e : Passes (signature_rows (longest x.sides) x.signature) → length x.image ≡ limit_of x.signature) where
  abbrev s : List ℕ
  s = x.signature

  start_passes : length x.image ≡ limit_of s → Passes (start_rows (directory s) (length x.image) command)
  unfolding start_rows
  start_passes l = (l, tt)

  image_passes : length x.image ≡ limit_of s → Passes (image_rows (directory s) (length x.image))
  unfolding image_rows
  image_passes l = (omega arith, tt)

  -- a refusal by 1 to 18 stands before both; where they pass, both of 19 and 41 pass
  rows_alike : (m : ℕ) (d : Answer)
      → first (parts_rows (origin.File command) (beside x) (length x.image) m) d ≡ first (check_rows (beside x) (length x.image) m) d
  unfolding parts_rows check_rows
  rows_alike m d = by_test (eqb (first (signature_rows (longest x.sides) s) accepted).number 0) refl
    where
      by_test : (b : Bool) → eqb (first (signature_rows (longest x.sides) s) accepted).number 0 ≡ b
          → first (signature_rows (longest x.sides) s ++ (start_rows (directory s) (length x.image) command ++ later_rows (beside x) (directory s) m)) d
          ≡ first (signature_rows (longest x.sides) s ++ (image_rows (directory s) (length x.image) ++ later_rows (beside x) (directory s) m)) d
      by_test true t =
          let head = signature_rows (longest x.sides) s in
          let start = start_rows (directory s) (length x.image) command in
          let image = image_rows (directory s) (length x.image) in
          let later = later_rows (beside x) (directory s) m in
          let l = e (passed head accepted 0 (signature_rows_unused (longest x.sides) s) (eqb-true _ 0 t)) in
          first_append head (start ++ later) d
          ∙ ap (first head) (first_append start later d ∙ sym (passes start (first later d) (start_passes l)) ∙ passes image (first later d) (image_passes l) ∙ sym (first_append image later d))
          ∙ sym (first_append head (image ++ later) d)
      by_test false t =
          let head = signature_rows (longest x.sides) s in
          let ne = eqb-false (first head accepted).number 0 t in
          sym (stops head _ d (first head accepted) refl ne) ∙ stops head _ d (first head accepted) refl ne

  parts_check : (marks : List ℕ) → parts_of (origin.File command) x marks ≡ check_of x marks
  unfolding parts_of check_of check_answer check_table check_marks
  parts_check marks = outcome_alike (parts_rows (origin.File command) (beside x) (length x.image) (length marks)) _ _ _ marks (rows_alike (length marks))

-- THE FILE

module _ (x : LentFile) where
  abbrev f : List ℕ
  f = x.file

  -- where 36 to 40 pass, and a signature that passes 1 to 18 starts at the code limit, it is a whole check of the two lent apart
  pub file_is_check : (marks : List ℕ) → Passes (walk_rows f)
      → (Passes (signature_rows (longest x.sides) (signature_of f)) → signature_start f ≡ limit_of (signature_of f)) → file_of x marks ≡ check_of (apart x) marks
  file_is_check marks p e =
      file_parts x marks p ∙ parts_check (apart x) (signature_position f) (λ q. image_long f p ∙ e q) marks

  module _ (m : ℕ) where
    -- each group passes
    pub record FileGroups : Type 0 where
      pub walk : Passes (walk_rows f)
      pub signature : Passes (signature_rows (longest x.sides) (signature_of f))
      pub at_limit : signature_start f ≡ limit_of (signature_of f)
      pub later : Passes (later_rows (beside (apart x)) (directory (signature_of f)) m)

    abbrev start : List Row
    start = start_rows (directory (signature_of f)) (signature_start f) (signature_position f)

    pub file_groups : Passes (file_rows x m) → FileGroups
    unfolding file_rows start_rows
    file_groups p =
        let a = append_passes (walk_rows f) _ p in
        let b = append_passes (signature_rows (longest x.sides) (signature_of f)) _ a.1 in
        record { walk = a.0; signature = b.0; at_limit = b.1.0; later = b.1.1 }

    groups_file : FileGroups → Passes (file_rows x m)
    unfolding file_rows start_rows
    groups_file g =
        passes_append (walk_rows f) _ g.walk
        (passes_append (signature_rows (longest x.sides) (signature_of f)) _ g.signature (g.at_limit, g.later))

    -- the table passes exactly where 36 to 40, 41 and the whole check of the two pass
    pub table_groups : Passes (file_table x m) → Passes (walk_rows f) × ((signature_start f ≡ limit_of (signature_of f)) × Passes (check_table (apart x) m))
    unfolding file_table check_table check_rows image_rows
    table_groups p =
        let a = append_passes (file_rows x m) _ p in
        let g = file_groups a.0 in
        let l = image_long f g.walk ∙ g.at_limit in (
          g.walk,
          (
            g.at_limit,
            passes_append (check_rows (beside (apart x)) (length (image_of f)) m) _
                (passes_append (signature_rows (longest x.sides) (signature_of f)) _ g.signature (omega arith, g.later))
                a.1,
          ),
        )

    pub groups_table : Passes (walk_rows f) → signature_start f ≡ limit_of (signature_of f) → Passes (check_table (apart x) m) → Passes (file_table x m)
    unfolding file_table check_table check_rows image_rows
    groups_table w e p =
        let a = append_passes (check_rows (beside (apart x)) (length (image_of f)) m) _ p in
        let b = append_passes (signature_rows (longest x.sides) (signature_of f)) _ a.0 in
        passes_append (file_rows x m) _ (groups_file (record { walk = w; signature = b.0; at_limit = e; later = b.1.1 })) a.1

  -- a check of a file that answered 0 or 31 passed all tests before the pages
  pub file_passes : (marks : List ℕ) (v : Verdict) (after : List ℕ) → FileChecked x marks v after → (v.number ≡ 0) ⊎ (v.number ≡ 31)
      → FileGroups (length marks)
  unfolding file_of file_answer file_table
  file_passes marks v after c z =
      let n = file_numbers_hold x (length marks) in
      file_groups (length marks)
      (tests_pass (file_rows x (length marks)) (marks_of (signature_of f) (image_of f)) (refuse 0 (entry_for (beside (apart x)))) n.tests_no_zero n.tests_no_31
      (rw (← ap (λ (o : CheckOutcome). o.verdict.number) c) z))
