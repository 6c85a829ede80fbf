-- That the definition is the CRC-32 in use: the check value of "123456789" and the checksum of no bytes, which antt computes. Assumes nothing.
use mathlib.Core.Path.{◌≡◌, refl}
use mathlib.Core.List.{[], ◌∷◌}
use Rattle.crc32.specs.Crc.{bit_step, steps, crc_of, crc32}

pub check-value : crc32 (0x31 ∷ 0x32 ∷ 0x33 ∷ 0x34 ∷ 0x35 ∷ 0x36 ∷ 0x37 ∷ 0x38 ∷ 0x39 ∷ []) ≡ 0xcbf4_3926
unfolding crc32 crc_of steps bit_step
check-value = refl

pub empty : crc32 [] ≡ 0
unfolding crc32 crc_of
empty = refl
