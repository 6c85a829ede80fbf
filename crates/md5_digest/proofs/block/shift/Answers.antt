use Rattle.std.proofs.Common.{refl}
use Rattle.md5_digest.specs.Rfc1321.{shifts}
use Rattle.md5_digest.proofs.Operations.{shift-range}
use Rattle.md5_digest.proofs.block.shift.Goals as goal

pub returns-clause-is : goal.returns-clause-is
unfolding shifts
returns-clause-is c = refl

pub returns-clause-within : goal.returns-clause-within
unfolding shifts
returns-clause-within c = shift-range c.args.i c.requires
