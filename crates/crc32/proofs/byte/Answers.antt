use Rattle.std.proofs.Common.{◌∙◌, ap, get_or, List, ℕ}
use Rattle.crc32.specs.Crc.{steps}
use Rattle.crc32.proofs.Message.{byte-law}
use Rattle.crc32.proofs.byte.Goals as goal

pub returns : goal.returns
returns c =
    rw (← c.from.ensures)
    (byte-law _ (c.entry.ensures ∙ ap (λ (l : List ℕ). steps 8 (get_or l 0 0)) c.to_le_bytes.ensures))
