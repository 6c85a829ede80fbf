use Rattle.std.proofs.Common.{rules}
use Rattle.crc32.proofs.Message.{crc-chunks}
use Rattle.crc32.proofs.words.Goals as goal

pub returns : goal.returns
returns c = crc-chunks 4 _ _ _ c.as_chunks.ensures.front c.as_chunks.ensures.back c.bytes.ensures (search rules)
