-- Each field is what `be32`, `be64` or `byte` reads at its offset.
use Rattle.layout.specs.CodeDirectory.{version, flags, hash_offset, ident_offset, n_special_slots, n_code_slots, code_limit32, hash_size, hash_type, platform, page_size, scatter_offset, code_limit64}
use borrow.Author.Rules.{rules}
use Rattle.layout.proofs.directory.CodeDirectory.read.Goals as goal

pub returns : goal.returns
unfolding version flags hash_offset ident_offset n_special_slots n_code_slots code_limit32 hash_size hash_type platform page_size scatter_offset code_limit64
returns c = search rules
