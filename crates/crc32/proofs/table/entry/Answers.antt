-- antt computes the rows
use Rattle.std.proofs.Common.{arith, ap, ◌∙◌, ◌*◌, ◌+◌}
use Rattle.std.proofs.Common.{refl}
use Rattle.crc32.specs.Crc.{steps, bit_step}
use Rattle.crc32.proofs.Lists.{firsts}
use Rattle.crc32.proofs.Rows.{powers, sums, rows, sliced}
use Rattle.crc32.proofs.table.entry.Goals as goal

pub returns : goal.returns
unfolding powers sums rows firsts steps bit_step
returns c = ((sliced 8 16 refl).row _ c.requires).entry _ (omega arith) ∙ ap (steps (8 * (c.args.k + 1))) c.from.ensures
