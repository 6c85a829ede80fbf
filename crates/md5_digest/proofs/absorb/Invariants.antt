use Rattle.std.proofs.Common.{◌≡◌, take, fold}
use Rattle.md5_digest.specs.Rfc1321.{block_of}
use Rattle.md5_digest.proofs.absorb.Given as goal

abbrev pub invariant-loop-b : goal.invariant-loop-b
invariant-loop-b l = l.q ≡ fold (λ q b. block_of b q) l.initial.q (take l.b-index l.blocks)
