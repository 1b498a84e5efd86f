-- Tests 24 to 30 in order.
use Rattle.std.specs.Prelude.{ℕ, List, ◌++◌}
use Rattle.layout.specs.TrustCache.{category_at}
use Rattle.refusals.specs.declared.Answer.{Answer}
use Rattle.refusals.specs.Refusals.{Row, refuse, first}
use Rattle.trustcache.specs.declared.launch.Launch.{Launch}
use Rattle.trustcache.specs.Rows.{form_rows, entry_of, lookup_rows}
use Rattle.trustcache.specs.Launch.{launch_rows}

-- the cache's form, the directory's entry, and the constraints of that entry's category
unfoldable pub cache_rows : List ℕ → ℕ → List ℕ → Launch → List Row
cache_rows c kind h facts = form_rows c ++ (lookup_rows c kind h ++ launch_rows (category_at c (entry_of c h)) facts)

-- the answer: the place of a 0 is the entry
abbrev pub cache_answer : List ℕ → ℕ → List ℕ → Launch → Answer
cache_answer c kind h facts = first (cache_rows c kind h facts) (refuse 0 (entry_of c h))
