use Rattle.std.proofs.Common.{arith}
use Rattle.md5_digest.proofs.bytes_of.Goals as goal

pub returns : goal.returns
returns c = grind arith
