-- What the search for a directory's entry and the lookup promise. In a cache that 24 or 25 refuses, which entry is found is left open.
use Rattle.std.specs.Prelude.{ℕ, ◌≤◌, List, ◌⊎◌, ◌≡◌}
use Rattle.layout.specs.TrustCache.{entry_count}
use Rattle.refusals.specs.declared.Answer.{Answer}
use Rattle.refusals.specs.Refusals.{refuse, first, Passes}
use Rattle.trustcache.specs.Rows.{form_rows, entry_of, lookup_rows}

-- of the entry r that the search finds
pub record EntryFound (c h : List ℕ) (r : ℕ) : Type 0 where
  pub found : Passes (form_rows c) → r ≡ entry_of c h
  -- in any cache
  pub within : r ≤ entry_count c

-- of the answer a of tests 26 to 28
pub record LookupAnswer (c : List ℕ) (kind : ℕ) (h : List ℕ) (a : Answer) : Type 0 where
  pub answer_is : Passes (form_rows c) → a ≡ first (lookup_rows c kind h) (refuse 0 (entry_of c h))
  -- in any cache
  pub number_known : (a.number ≡ 0) ⊎ ((a.number ≡ 26) ⊎ ((a.number ≡ 27) ⊎ (a.number ≡ 28)))
