-- The laws of a checksum under way, and no definition. They stand here since an `impl` may cite the specs/ of its crate, and not the proofs/.
-- Assumes nothing.
use Rattle.std.proofs.Common.{◌≡◌, List, [], ◌∷◌, ℕ, ◌++◌, refl, sym, ap}
use Rattle.std.specs.Int.Bits.{bit_xor}
use Rattle.crc32.specs.declared.Crc32.{Crc32}
use Rattle.crc32.specs.Crc.{steps, crc_of, crc32, fresh, feed, finish_of}

-- Bytes joined are taken one after the other.
pub crc-append : (r : ℕ) (a b : List ℕ) → crc_of r (a ++ b) ≡ crc_of (crc_of r a) b
unfolding crc_of
crc-append r [] b = refl
crc-append r (x ∷ a) b = crc-append (steps 8 (bit_xor r x)) a b

-- To feed nothing changes nothing.
pub feed-none : feed fresh [] ≡ fresh
unfolding fresh feed crc_of
feed-none = refl

-- Bytes fed in two parts are the bytes fed at once.
pub feed-feed : (c : Crc32) (a b : List ℕ) → feed (feed c a) b ≡ feed c (a ++ b)
unfolding feed
feed-feed c a b = ap (λ (r : ℕ). record { register = r }) (sym (crc-append c.register a b))

-- A fresh checksum that is fed a message ends in the message's CRC-32.
pub fresh-fed : (a : List ℕ) → finish_of (feed fresh a) ≡ crc32 a
unfolding fresh feed finish_of crc32
fresh-fed a = refl
