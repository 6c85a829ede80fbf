-- CRC-32 of IEEE 802.3, bit by bit, and what a `Crc32` of src/ does with bytes that come in parts.
-- A register is a number below 2 ^ 32, a byte one below 256.
use Rattle.std.specs.Prelude.{List, [], ◌∷◌, ℕ, zero, suc, ◌*◌, ◌/◌, ◌%◌}
use Rattle.std.specs.Int.Bits.{bit_xor}
use Rattle.crc32.specs.declared.Crc32.{Crc32}

-- the generator polynomial, reflected: the coefficient of x ^ 31 is the lowest bit
abbrev pub polynomial : ℕ
polynomial = 0xedb88320

-- the register before the first byte, and what the last is xored with
abbrev pub all_ones : ℕ
all_ones = 0xffff_ffff

-- one bit: the register moves down, and where a 1 went out the polynomial is added
unfoldable pub bit_step : ℕ → ℕ
bit_step r = bit_xor (r / 2) (r % 2 * polynomial)

-- n bits
unfoldable pub steps : ℕ → ℕ → ℕ
steps zero r = r
steps (suc n) r = steps n (bit_step r)

-- the register after the bytes of a message: each is added at the low end, and its eight bits go out
unfoldable pub crc_of : ℕ → List ℕ → ℕ
crc_of r [] = r
crc_of r (b ∷ bs) = crc_of (steps 8 (bit_xor r b)) bs

-- the checksum of a message
unfoldable pub crc32 : List ℕ → ℕ
crc32 a = bit_xor (crc_of all_ones a) all_ones

-- a checksum under way: before the first byte, after the bytes of a, and the checksum of all that was fed
unfoldable pub fresh : Crc32
fresh = record { register = all_ones }

unfoldable pub feed : Crc32 → List ℕ → Crc32
feed c a = record { register = crc_of c.register a }

unfoldable pub finish_of : Crc32 → ℕ
finish_of c = bit_xor c.register all_ones
