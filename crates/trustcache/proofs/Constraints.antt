-- The launch constraints: the conditions are the negations of the paper's sentences, and tests 28 to 30 pass exactly where the category allows
-- the launch.
use Prim.Native.Nat.{ℕ, zero, suc, ◌≤◌, ◌<◌}
use mathlib.Core.Bool.{Bool, true, false, not, ◌&&◌, ◌||◌, false≢true}
use mathlib.Core.Logic.{inl, inr}
use mathlib.Core.Path.{◌≡◌, refl, ◌∙◌}
use native.Mathlib.Omega.{arith}
use lib.Dec.{eqb}
use borrow.Author.Tests.{eqb-true, eqb-false}
use Rattle.refusals.specs.Refusals.{holds, Passes}
use Rattle.trustcache.specs.declared.launch.Launch.{Launch}
use Rattle.trustcache.specs.Rows.{highest_category}
use Rattle.trustcache.specs.Launch.{launch_type_asked, validation_asked, flag, self_fails, parent_fails, launch_rows, SelfPlainly, ParentPlainly}
use Rattle.trustcache.specs.Rules.{Allowed}

-- THE PAPER'S SENTENCES

flag_off : (b : Bool) → eqb (flag b) 0 ≡ not b
unfolding flag
flag_off true = refl
flag_off false = refl

not_or : (a s : Bool) → (not a && not s) ≡ not (a || s)
not_or true s = refl
not_or false s = refl

not_and : (a b d : Bool) → (not a || (not b || not d)) ≡ not (a && (b && d))
not_and true true d = refl
not_and true false d = refl
not_and false b d = refl

pub self_plainly : SelfPlainly
unfolding holds self_fails
self_plainly facts =
    rw (flag_off facts.on_authorized_volume, flag_off facts.on_system_volume, not_or facts.on_authorized_volume facts.on_system_volume)
    (not_and (facts.on_authorized_volume || facts.on_system_volume) (eqb facts.launch_type launch_type_asked) (eqb facts.validation_category validation_asked))

pub parent_plainly : ParentPlainly
unfolding holds parent_fails
parent_plainly facts = flag_off facts.parent_is_init

-- a flag as the code tests it
pub unset : (b : Bool) → not b ≡ true → flag b ≡ 0
unset b e = eqb-true _ _ (flag_off b ∙ e)

pub set : (b : Bool) → not b ≡ false → 0 < flag b
set b e = let h = eqb-false _ _ (flag_off b ∙ e) in omega arith

-- THE RULE

-- of two flags one is set exactly where not both are off
one_set : (a b : Bool) → (flag a ≡ 0 → flag b ≡ 0 → ⊥) → (a || b) ≡ true
unfolding flag
one_set true b h = refl
one_set false true h = refl
one_set false false h = absurd (h refl refl)

not_both_off : (a b : Bool) → (a || b) ≡ true → flag a ≡ 0 → flag b ≡ 0 → ⊥
unfolding flag
not_both_off true b e p q = absurd (omega arith)
not_both_off false true e p q = absurd (omega arith)
not_both_off false false e p q = false≢true e

-- a flag is set exactly where it is not off
is_set : (a : Bool) → (flag a ≡ 0 → ⊥) → a ≡ true
unfolding flag
is_set true h = refl
is_set false h = absurd (h refl)

not_off : (a : Bool) → a ≡ true → flag a ≡ 0 → ⊥
unfolding flag
not_off true e p = absurd (omega arith)
not_off false e p = false≢true e

pub allowed : (category : ℕ) (facts : Launch) → category ≤ highest_category → Passes (launch_rows category facts) → Allowed category facts
unfolding launch_rows self_fails parent_fails
allowed zero facts l p = inl refl
allowed (suc zero) facts l p =
    let self = p.0 refl in
    inr (
      refl,
      record {
        volume = one_set _ _ self.0;
        launch_type = self.1.0;
        validation = self.1.1;
        parent = is_set _ (p.1.0 refl);
      },
    )
allowed (suc (suc n)) facts l p = absurd (omega arith)

pub allowed_passes : (category : ℕ) (facts : Launch) → Allowed category facts → (category ≤ highest_category) × Passes (launch_rows category facts)
unfolding launch_rows self_fails parent_fails
allowed_passes category facts (inl e) = (omega arith, ((λ q. absurd (omega arith)), ((λ q. absurd (omega arith)), tt)))
allowed_passes category facts (inr (e, c)) = (
  omega arith,
  ((λ q. (not_both_off _ _ c.volume, (c.launch_type, c.validation))), ((λ q. not_off _ c.parent), tt)),
)
