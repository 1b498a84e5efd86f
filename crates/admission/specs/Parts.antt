-- What the private functions of a whole check promise: the tests from 1 on, and the marks, by where the image comes from.
use Rattle.std.specs.Prelude.{ℕ, cond, List, ◌++◌, ◌≡◌, length}
use Rattle.refusals.specs.declared.Answer.{Answer}
use Rattle.refusals.specs.Refusals.{◌≡?◌, holds, Row, refuse, accepted, first}
use Rattle.layout.specs.CodeDirectory.{hash_type}
use Rattle.directory.specs.Rows.{directory, signature_rows}
use Rattle.slots.specs.Slots.{special_rows}
use Rattle.cdhash.specs.Hash.{cdhash}
use Rattle.trustcache.specs.Rows.{entry_of}
use Rattle.trustcache.specs.Table.{cache_rows}
use Rattle.marks.specs.Marks.{bad_rows}
use Rattle.admission.specs.declared.Verdict.{Verdict}
use Rattle.admission.specs.declared.Origin.{Origin}
use Rattle.admission.specs.declared.Origin.TheVariants as origin
use Rattle.admission.specs.Input.{Beside, Lent, beside, longest, marks_of}
use Rattle.admission.specs.Check.{image_rows, later_rows, entry_for, verdict_of, CheckOutcome}
use Rattle.admission.specs.File.{start_rows}

-- 19 of an image that is lent apart, 41 of one that ends where its signature starts in a file
abbrev pub origin_rows : Origin → List ℕ → ℕ → List Row
origin_rows origin.Apart d image_length = image_rows d image_length
origin_rows (origin.File command) d image_length = start_rows d image_length command

-- 21 to 30, with the entry of the cache where they pass
abbrev pub later_tested : Beside → List ℕ → Answer
later_tested x d =
    first (special_rows x.signature d x.sides ++ cache_rows x.cache (hash_type d) (cdhash d) x.facts) (refuse 0 (entry_of x.cache (cdhash d)))

-- 1 to 18, 19 or 41, and 20 to 30
unfoldable pub parts_rows : Origin → Beside → ℕ → ℕ → List Row
parts_rows o x image_length marksLength =
    signature_rows (longest x.sides) x.signature
    ++ (origin_rows o (directory x.signature) image_length ++ later_rows x (directory x.signature) marksLength)

abbrev pub parts_tested : Origin → Beside → ℕ → ℕ → Answer
parts_tested o x image_length marksLength = first (parts_rows o x image_length marksLength) (refuse 0 (entry_for x))

-- the answer and the marks, by the tests before 31, the marks of the image, and the entry of the cache
abbrev pub outcome_of : List Row → List ℕ → ℕ → List ℕ → CheckOutcome
outcome_of tests new entry old =
    record {
      verdict = verdict_of (first (tests ++ bad_rows new) (refuse 0 entry));
      marks = cond (holds ((first tests accepted).number ≡? 0)) new old;
    }

unfoldable pub parts_of : Origin → Lent → List ℕ → CheckOutcome
parts_of o x marks =
    outcome_of (parts_rows o (beside x) (length x.image) (length marks)) (marks_of x.signature x.image) (entry_for (beside x)) marks

abbrev pub PartsChecked : Origin → Lent → List ℕ → Verdict → List ℕ → Type 0
PartsChecked o x marks verdict after = record { verdict = verdict; marks = after } ≡ parts_of o x marks
