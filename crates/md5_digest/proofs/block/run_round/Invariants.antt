use Rattle.std.proofs.Common.{◌≡◌}
use Rattle.md5_digest.specs.Rfc1321.{steps_of}
use Rattle.md5_digest.proofs.block.run_round.Given as goal

abbrev pub invariant-loop-n : goal.invariant-loop-n
invariant-loop-n g l = l.q ≡ steps_of l.p g.R.Round.FIRST l.n l.initial.q
