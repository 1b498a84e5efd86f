-- Tests 29 and 30: the launch constraints of a category.
use Rattle.std.specs.Prelude.{ℕ, Bool, true, false, not, ◌&&◌, ◌||◌, List, [], ◌∷◌, ◌≡◌, eqb}
use Rattle.refusals.specs.Refusals.{Cond, ◌≡?◌, ◌≢?◌, ◌and◌, ◌or◌, holds, Row, row}
use Rattle.trustcache.specs.declared.launch.Launch.{Launch}

-- the category that asks nothing, and the one whose constraints are tested
abbrev pub unconstrained_category : ℕ
unconstrained_category = 0

abbrev pub constrained_category : ℕ
constrained_category = 1

-- the launch type and the validation category that its self constraint asks for
abbrev pub launch_type_asked : ℕ
launch_type_asked = 1

abbrev pub validation_asked : ℕ
validation_asked = 1

-- a flag as a number
unfoldable pub flag : Bool → ℕ
flag true = 1
flag false = 0

-- on neither volume, or with another launch type or validation category
unfoldable pub self_fails : Launch → Cond
self_fails facts =
    (flag facts.on_authorized_volume ≡? 0 and flag facts.on_system_volume ≡? 0)
    or facts.launch_type ≢? launch_type_asked
    or facts.validation_category ≢? validation_asked

-- the parent is not init
unfoldable pub parent_fails : Launch → Cond
parent_fails facts = flag facts.parent_is_init ≡? 0

-- the constraints of a launch under a category
unfoldable pub launch_rows : ℕ → Launch → List Row
launch_rows category facts =
    row 29 (category ≡? constrained_category and self_fails facts) 0
    ∷ row 30 (category ≡? constrained_category and parent_fails facts) 0
    ∷ []

-- CLAIMS

-- the self constraint fails exactly where the paper's sentence is false: (on-authorized-volume or on-system-volume) and launch-type 1 and
-- validation-category 1
abbrev pub SelfPlainly : Type 0
SelfPlainly = (facts : Launch) → holds (self_fails facts)
    ≡ not ((facts.on_authorized_volume || facts.on_system_volume) && (eqb facts.launch_type launch_type_asked && eqb facts.validation_category validation_asked))

-- and the parent constraint exactly where this one is: parent-is-init
abbrev pub ParentPlainly : Type 0
ParentPlainly = (facts : Launch) → holds (parent_fails facts) ≡ not facts.parent_is_init
