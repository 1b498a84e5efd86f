-- The digest is the bytes of all words (`written`). Assumes nothing.
use Rattle.std.proofs.Common.{refl, sym, ◌∙◌, take_all, rules}
use Rattle.sha.proofs.Digests.{written}
use Rattle.sha32.proofs.sha256.Sha256HashFunction.write.Goals as goal

pub returns : goal.returns
returns c = written 4 8 0 32 c.args.h c.wide.result _ (c.wide.ensures ∙ sym (take_all 8 c.args.h (search rules))) (search rules) refl c.write_words.ensures
