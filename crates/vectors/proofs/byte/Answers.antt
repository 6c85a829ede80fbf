use Rattle.std.proofs.Common.{arith}
use Rattle.vectors.proofs.byte.Goals as goal

pub returns : goal.returns
returns c = omega arith
