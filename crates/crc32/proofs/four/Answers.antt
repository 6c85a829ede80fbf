use Rattle.std.proofs.Common.{arith}
use Rattle.crc32.proofs.Message.{bytes-law}
use Rattle.crc32.proofs.four.Goals as goal

pub returns : goal.returns
returns c = bytes-law _ c.args.x c.to_be_bytes.result (omega arith) c.to_be_bytes.ensures c.entry.ensures c.entry-2.ensures c.entry-3.ensures c.entry-4.ensures
