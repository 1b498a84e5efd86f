-- Where the cache passes 24 and 25 the entry found is `entry_of`; each refusal is then its own row, with no row before it.
use native.Mathlib.Omega.{arith}
use mathlib.Core.Logic.{inl, inr}
use mathlib.Core.Path.{refl, ap, ◌∙◌}
use Rattle.layout.specs.TrustCache.{hash_type_at, category_at}
use Rattle.refusals.specs.Refusals.{refuse}
use Rattle.refusals.proofs.Exact.{decides, passes}
use Rattle.trustcache.specs.Rows.{entry_of, lookup_rows}
use Rattle.trustcache.proofs.search.lookup_tested.Goals as goal

pub returns-in_default : goal.returns-in_default
unfolding lookup_rows
returns-in_default c =
    record { answer_is = λ p. let at = c.in_default.ensures.found.found p in decides _ (refuse 0 (entry_of _ _)) _ _ (omega arith); number_known = inr (inl refl) }

pub returns-then-entry-kind : goal.returns-then-entry-kind
unfolding lookup_rows
returns-then-entry-kind c =
    record {
      answer_is =
          λ p.
          let at = c.in-Some.ensures.found.found p in
          let type = c.read-entry.ensures.hash_type_is ∙ ap (hash_type_at _) at in
          decides _ (refuse 0 (entry_of _ _)) _ _ (omega (arith, c.in-Some.ensures.within));
      number_known = inr (inr (inl refl));
    }

pub returns-then-entry-gt-HIGHEST_CATEGORY : goal.returns-then-entry-gt-HIGHEST_CATEGORY
unfolding lookup_rows
returns-then-entry-gt-HIGHEST_CATEGORY c =
    record {
      answer_is =
          λ p.
          let at = c.in-Some.ensures.found.found p in
          let type = c.read-entry.ensures.hash_type_is ∙ ap (hash_type_at _) at in
          let category = c.read-entry.ensures.category_is ∙ ap (category_at _) at in
          decides _ (refuse 0 (entry_of _ _)) _ _ (omega (arith, c.in-Some.ensures.within));
      number_known = inr (inr (inr refl));
    }

pub returns : goal.returns
unfolding lookup_rows
returns c =
    record {
      answer_is =
          λ p.
          let at = c.in-Some.ensures.found.found p in
          let type = c.read-entry.ensures.hash_type_is ∙ ap (hash_type_at _) at in
          let category = c.read-entry.ensures.category_is ∙ ap (category_at _) at in
          ap (refuse 0) at ∙ passes _ (refuse 0 (entry_of _ _)) (omega (arith, c.in-Some.ensures.within));
      number_known = inl refl;
    }
