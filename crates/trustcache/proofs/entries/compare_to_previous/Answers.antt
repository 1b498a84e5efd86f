-- Whole entries are compared in place; of others `compare` says of the two hashes that it is lent what it says of the entries.
-- Assumes nothing.
use Rattle.trustcache.proofs.Order.{compared}
use Rattle.trustcache.proofs.entries.compare_to_previous.Goals as goal

pub returns : goal.returns
returns c = compared _ _ _ _ _ _ c.hash_of.ensures c.hash_of-2.ensures c.compare.ensures
