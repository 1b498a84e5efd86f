-- The digest is the bytes of the first six words (`written`). Assumes nothing.
use Rattle.std.proofs.Common.{refl, rules}
use Rattle.sha.proofs.Digests.{written}
use Rattle.sha64.proofs.Sha384HashFunction.write.Goals as goal

pub returns : goal.returns
returns c = written 8 6 2 48 c.args.h _ _ refl (search rules) refl c.write_words.ensures
