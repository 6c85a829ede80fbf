use Rattle.std.proofs.Common.{arith}
use Rattle.md5_digest.proofs.Operations.{sum-made, mix_i_lem}
use Rattle.md5_digest.proofs.block.IRound.sum.Goals as goal

pub returns : goal.returns
returns c = sum-made 48 c.args.q c.args.x (λ n h. mix_i_lem n _ _ _ h) (omega arith)
