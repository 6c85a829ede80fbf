use Rattle.std.proofs.Common.{◌∙◌, sym, arith}
use Rattle.crc32.proofs.Message.{crc-word, crc-end}
use Rattle.crc32.proofs.four_bytes.Goals as goal

pub returns : goal.returns
returns c =
    sym (crc-end c.args.s.now 4 _ (omega arith))
    ∙ crc-word c.args.s.now 0 _ (omega arith) c.fits-s (omega (arith, c.from_le_bytes.ensures)) c.four.ensures
