-- One table after another: a refusal of the first stands, and where it passes the next decides.
use Prim.Native.Nat.{ℕ}
use mathlib.Core.List.{List}
use mathlib.Core.Path.{◌≡◌, refl, sym, ap, ◌∙◌}
use Rattle.layout.specs.TrustCache.{category_at}
use Rattle.refusals.specs.declared.Answer.{Answer}
use Rattle.refusals.specs.Refusals.{refuse, accepted, first, Passes}
use Rattle.refusals.proofs.Exact.{Unused, passes}
use Rattle.trustcache.specs.declared.launch.Launch.{Launch}
use Rattle.trustcache.specs.Rows.{form_rows, entry_of, lookup_rows}
use Rattle.trustcache.specs.Launch.{launch_rows}
use Rattle.trustcache.specs.Table.{cache_rows, cache_answer}
use Rattle.refusals.proofs.Joined.{stops_at, stops_alone, passed_at, goes_on}
use Rattle.std.proofs.lemmas.Result.{err_from_is_err_and}
use Rattle.refusals.proofs.Results.{refused, err_stops, ok_passes}
use Rattle.trustcache.proofs.tested.Goals as goal

-- no row gives 0
form_unused : (c : List ℕ) → Unused (form_rows c) 0
unfolding form_rows
form_unused c = tt

lookup_unused : (c : List ℕ) (kind : ℕ) (h : List ℕ) → Unused (lookup_rows c kind h) 0
unfolding lookup_rows
lookup_unused c kind h = tt

launch_unused : (category : ℕ) (facts : Launch) → Unused (launch_rows category facts) 0
unfolding launch_rows
launch_unused category facts = tt

-- where 24 and 25 pass, and 26 to 28 answer `found`
module _ (c : List ℕ) (kind : ℕ) (h : List ℕ) (facts : Launch) (found : Answer) (e : accepted ≡ first (form_rows c) accepted)
    (f : Passes (form_rows c) → found ≡ first (lookup_rows c kind h) (refuse 0 (entry_of c h))) where
  form-passes : Passes (form_rows c)
  form-passes = ok_passes (form_rows c) (form_unused c) e

  found-stops : (found.number ≡ 0 → ⊥) → found ≡ cache_answer c kind h facts
  unfolding cache_rows
  found-stops ne =
      goes_on (form_rows c) _ _ found form-passes (stops_at (lookup_rows c kind h) _ (refuse 0 (entry_of c h)) _ found refl (f form-passes) ne)

  module _ (y : found.number ≡ 0) where
    found_passes : Passes (lookup_rows c kind h)
    found_passes = passed_at (lookup_rows c kind h) (refuse 0 (entry_of c h)) found (lookup_unused c kind h) (f form-passes) y

    found-is : found ≡ refuse 0 (entry_of c h)
    found-is = f form-passes ∙ sym (passes (lookup_rows c kind h) (refuse 0 (entry_of c h)) found_passes)

    go_on : (a : Answer) → a ≡ first (launch_rows (category_at c (entry_of c h)) facts) (refuse 0 (entry_of c h)) → a ≡ cache_answer c kind h facts
    unfolding cache_rows
    go_on a q = goes_on (form_rows c) _ _ a form-passes (goes_on (lookup_rows c kind h) _ _ a found_passes q)

    module _ (launch : Answer) (category : ℕ) (g : category ≡ category_at c found.place) (l : launch ≡ first (launch_rows category facts) accepted) where
      launch-is : launch ≡ first (launch_rows (category_at c (entry_of c h)) facts) accepted
      launch-is =
          l ∙ ap (λ (n : ℕ). first (launch_rows n facts) accepted) (g ∙ ap (λ (a : Answer). category_at c a.place) found-is)

      launch-stops : (launch.number ≡ 0 → ⊥) → launch ≡ cache_answer c kind h facts
      launch-stops ne = go_on launch (stops_alone (launch_rows (category_at c (entry_of c h)) facts) accepted _ launch refl launch-is ne)

      launch-passes : launch.number ≡ 0 → found ≡ cache_answer c kind h facts
      launch-passes x =
          go_on found
          (found-is ∙ passes (launch_rows (category_at c (entry_of c h)) facts) (refuse 0 (entry_of c h))
          (passed_at (launch_rows (category_at c (entry_of c h)) facts) accepted launch (launch_unused _ facts) launch-is x))

pub returns-in_err-form_tested : goal.returns-in_err-form_tested
unfolding cache_rows
returns-in_err-form_tested c =
    let p = err_from_is_err_and c.from_residual.result c.from_residual.ensures.1 in
    rw (p.1, p.2) (err_stops (form_rows _) _ _ _ c.in_err-form_tested.ensures)

pub returns-in_err-found : goal.returns-in_err-found
returns-in_err-found c =
    let p = err_from_is_err_and c.from_residual-in_err-found.result c.from_residual-in_err-found.ensures.1 in
    rw (p.1, p.2) (found-stops _ _ _ _ _ c.in_ok-form_tested.ensures c.in_err-found.ensures.answer_is (refused _))

pub returns-in_err-launch_tested : goal.returns-in_err-launch_tested
returns-in_err-launch_tested c =
    let p = err_from_is_err_and c.from_residual-in_err-launch_tested.result c.from_residual-in_err-launch_tested.ensures.1 in
    rw (p.1, p.2) (launch-stops _ _ _ _ _ c.in_ok-form_tested.ensures c.in_ok-found.ensures.answer_is refl _ _ c.read.ensures.category_is c.in_err-launch_tested.ensures (refused _))

pub returns : goal.returns
returns c = launch-passes _ _ _ _ _ c.in_ok-form_tested.ensures c.in_ok-found.ensures.answer_is refl _ _ c.read.ensures.category_is c.in_ok-launch_tested.ensures refl
