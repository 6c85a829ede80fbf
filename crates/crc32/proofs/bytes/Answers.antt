use Rattle.std.proofs.Common.{rules}
use Rattle.crc32.proofs.Message.{crc-bytes}
use Rattle.crc32.proofs.bytes.Goals as goal

pub returns : goal.returns
returns c = crc-bytes _ c.args.s.now (search rules)
