use Rattle.std.proofs.Common.{ℕ, ◌*◌, ◌%◌, sym}
use Rattle.md5_digest.specs.Rfc1321.{words}
use Rattle.md5_digest.proofs.Operations.{get_or-words}
use Rattle.md5_digest.proofs.block.IRound.word_of.Goals as goal

pub returns-clause-is : goal.returns-clause-is
unfolding words
returns-clause-is c = sym (get_or-words 48 (λ (n : ℕ). 7 * n % 16) tt c.args.n c.requires)
