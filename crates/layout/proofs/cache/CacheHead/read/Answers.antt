-- Each field is what `le32` reads at its offset.
use Rattle.layout.specs.TrustCache.{cache_version, entry_count}
use borrow.Author.Rules.{rules}
use Rattle.layout.proofs.cache.CacheHead.read.Goals as goal

pub returns : goal.returns
unfolding cache_version entry_count
returns c = search rules
