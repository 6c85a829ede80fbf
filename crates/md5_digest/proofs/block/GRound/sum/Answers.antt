use Rattle.std.proofs.Common.{arith, get_or}
use Rattle.md5_digest.proofs.Operations.{sum-made, sum-g, mix_g_lem}
use Rattle.md5_digest.proofs.block.GRound.sum.Goals as goal

pub returns : goal.returns
returns v =
    let q = v.args.q in
    sum-made 16 q v.args.x (λ n h. mix_g_lem n _ _ _ h) (omega (arith, sum-g (get_or q 0 0) (get_or q 1 0) (get_or q 2 0) (get_or q 3 0) v.args.x 0))
