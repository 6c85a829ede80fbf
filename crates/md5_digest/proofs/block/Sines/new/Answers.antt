use Rattle.std.proofs.Common.{refl}
use Rattle.md5_digest.specs.Rfc1321.{sines}
use Rattle.md5_digest.proofs.block.Sines.new.Goals as goal

pub invariant_of-result : goal.invariant_of-result
unfolding sines
invariant_of-result c = record { exact = refl }
