use Rattle.std.proofs.Common.{ℕ, ap}
use Rattle.crc32.specs.Crc.{feed}
use Rattle.crc32.proofs.Crc32.update.Goals as goal

pub returns : goal.returns
unfolding feed
returns c = ap (λ (r : ℕ). record { register = r }) c.sixteens.ensures
