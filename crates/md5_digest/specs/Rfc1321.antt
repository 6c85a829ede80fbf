-- RFC 1321, "The MD5 Message-Digest Algorithm", as a definition, in the RFC's order.
use Rattle.std.specs.Prelude.{ℕ, zero, suc, ◌+◌, ◌-◌, ◌*◌, ◌/◌, ◌%◌, ◌^◌, cond, List, [], ◌∷◌, ◌++◌, length, take, drop, replicate, bit_and, bit_or, bit_xor, nat_lt, slice_index}

-- ---- 2. Terminology and notation
-- A byte is a number below 256 and a word one below 2 ^ 32. X v Y is bit_or, X xor Y is bit_xor, XY is bit_and.

-- a word is four bytes, the low-order byte first
abbrev pub word_bytes : ℕ → List ℕ
word_bytes x = x % 256 ∷ x / 2 ^ 8 % 256 ∷ x / 2 ^ 16 % 256 ∷ x / 2 ^ 24 % 256 ∷ []

-- the word whose low-order byte is the byte i of p
abbrev pub word_at : List ℕ → ℕ → ℕ
word_at p i = slice_index p i + slice_index p (i + 1) * 0x100 + slice_index p (i + 2) * 0x1_0000 + slice_index p (i + 3) * 0x100_0000

-- not(X)
abbrev pub not32 : ℕ → ℕ
not32 x = 2 ^ 32 - 1 - x

-- X <<< s, 0 < s < 32
abbrev pub rotl : ℕ → ℕ → ℕ
rotl x s = bit_or (x * 2 ^ s % 2 ^ 32) (x / 2 ^ (32 - s))

-- ---- 3.1 Append padding bits, to a message of n bytes
-- a bit 1, then bits 0 until the length is 448 modulo 512 bits: 56 modulo 64 bytes
unfoldable pub padding_bits : ℕ → List ℕ
padding_bits n = 0x80 ∷ replicate ((119 - n % 64) % 64) 0

-- ---- 3.2 Append length
-- b, the number of bits before the padding, of which the low-order 64 bits are used
abbrev pub bits : ℕ → ℕ
bits n = n * 8 % 2 ^ 64

-- as two words, the low-order word first
unfoldable pub length_bytes : ℕ → List ℕ
length_bytes n = word_bytes (bits n % 2 ^ 32) ++ word_bytes (bits n / 2 ^ 32)

unfoldable pub padding : ℕ → List ℕ
padding n = padding_bits n ++ length_bytes n

-- ---- 3.3 Initialize MD buffer
-- the words A, B, C and D, which the RFC gives by their bytes: 01 23 45 67, 89 ab cd ef, fe dc ba 98, 76 54 32 10
abbrev pub start : List ℕ
start = 0x67452301 ∷ 0xefcdab89 ∷ 0x98badcfe ∷ 0x10325476 ∷ []

-- ---- 3.4 Process message in 16-word blocks
-- F(X,Y,Z) = XY v not(X) Z
abbrev pub mix_f : ℕ → ℕ → ℕ → ℕ
mix_f x y z = bit_or (bit_and x y) (bit_and (not32 x) z)

-- G(X,Y,Z) = XZ v Y not(Z)
abbrev pub mix_g : ℕ → ℕ → ℕ → ℕ
mix_g x y z = bit_or (bit_and x z) (bit_and y (not32 z))

-- H(X,Y,Z) = X xor Y xor Z
abbrev pub mix_h : ℕ → ℕ → ℕ → ℕ
mix_h x y z = bit_xor (bit_xor x y) z

-- I(X,Y,Z) = Y xor (X v not(Z))
abbrev pub mix_i : ℕ → ℕ → ℕ → ℕ
mix_i x y z = bit_xor y (bit_or x (not32 z))

-- T[1 .. 64]: T[i] is the whole part of 4294967296 times abs(sin(i)), i in radians
unfoldable pub sines : List ℕ
sines =
    0xd76aa478 ∷ 0xe8c7b756 ∷ 0x242070db ∷ 0xc1bdceee
    ∷ 0xf57c0faf ∷ 0x4787c62a ∷ 0xa8304613 ∷ 0xfd469501
    ∷ 0x698098d8 ∷ 0x8b44f7af ∷ 0xffff5bb1 ∷ 0x895cd7be
    ∷ 0x6b901122 ∷ 0xfd987193 ∷ 0xa679438e ∷ 0x49b40821
    ∷ 0xf61e2562 ∷ 0xc040b340 ∷ 0x265e5a51 ∷ 0xe9b6c7aa
    ∷ 0xd62f105d ∷ 0x02441453 ∷ 0xd8a1e681 ∷ 0xe7d3fbc8
    ∷ 0x21e1cde6 ∷ 0xc33707d6 ∷ 0xf4d50d87 ∷ 0x455a14ed
    ∷ 0xa9e3e905 ∷ 0xfcefa3f8 ∷ 0x676f02d9 ∷ 0x8d2a4c8a
    ∷ 0xfffa3942 ∷ 0x8771f681 ∷ 0x6d9d6122 ∷ 0xfde5380c
    ∷ 0xa4beea44 ∷ 0x4bdecfa9 ∷ 0xf6bb4b60 ∷ 0xbebfbc70
    ∷ 0x289b7ec6 ∷ 0xeaa127fa ∷ 0xd4ef3085 ∷ 0x04881d05
    ∷ 0xd9d4d039 ∷ 0xe6db99e5 ∷ 0x1fa27cf8 ∷ 0xc4ac5665
    ∷ 0xf4292244 ∷ 0x432aff97 ∷ 0xab9423a7 ∷ 0xfc93a039
    ∷ 0x655b59c3 ∷ 0x8f0ccc92 ∷ 0xffeff47d ∷ 0x85845dd1
    ∷ 0x6fa87e4f ∷ 0xfe2ce6e0 ∷ 0xa3014314 ∷ 0x4e0811a1
    ∷ 0xf7537e82 ∷ 0xbd3af235 ∷ 0x2ad7d2bb ∷ 0xeb86d391 ∷ []

-- The operations of the four rounds, [abcd k s i] with i from 1 to 64, in the RFC's lines of four: k, the word of the block,
unfoldable pub words : List ℕ
words =
    0 ∷ 1 ∷ 2 ∷ 3
    ∷ 4 ∷ 5 ∷ 6 ∷ 7
    ∷ 8 ∷ 9 ∷ 10 ∷ 11
    ∷ 12 ∷ 13 ∷ 14 ∷ 15
    ∷ 1 ∷ 6 ∷ 11 ∷ 0
    ∷ 5 ∷ 10 ∷ 15 ∷ 4
    ∷ 9 ∷ 14 ∷ 3 ∷ 8
    ∷ 13 ∷ 2 ∷ 7 ∷ 12
    ∷ 5 ∷ 8 ∷ 11 ∷ 14
    ∷ 1 ∷ 4 ∷ 7 ∷ 10
    ∷ 13 ∷ 0 ∷ 3 ∷ 6
    ∷ 9 ∷ 12 ∷ 15 ∷ 2
    ∷ 0 ∷ 7 ∷ 14 ∷ 5
    ∷ 12 ∷ 3 ∷ 10 ∷ 1
    ∷ 8 ∷ 15 ∷ 6 ∷ 13
    ∷ 4 ∷ 11 ∷ 2 ∷ 9 ∷ []

-- and s, the shift amount
unfoldable pub shifts : List ℕ
shifts =
    7 ∷ 12 ∷ 17 ∷ 22
    ∷ 7 ∷ 12 ∷ 17 ∷ 22
    ∷ 7 ∷ 12 ∷ 17 ∷ 22
    ∷ 7 ∷ 12 ∷ 17 ∷ 22
    ∷ 5 ∷ 9 ∷ 14 ∷ 20
    ∷ 5 ∷ 9 ∷ 14 ∷ 20
    ∷ 5 ∷ 9 ∷ 14 ∷ 20
    ∷ 5 ∷ 9 ∷ 14 ∷ 20
    ∷ 4 ∷ 11 ∷ 16 ∷ 23
    ∷ 4 ∷ 11 ∷ 16 ∷ 23
    ∷ 4 ∷ 11 ∷ 16 ∷ 23
    ∷ 4 ∷ 11 ∷ 16 ∷ 23
    ∷ 6 ∷ 10 ∷ 15 ∷ 21
    ∷ 6 ∷ 10 ∷ 15 ∷ 21
    ∷ 6 ∷ 10 ∷ 15 ∷ 21
    ∷ 6 ∷ 10 ∷ 15 ∷ 21 ∷ []

-- the function of operation i + 1: F in round 1, G in round 2, H in round 3, I in round 4
unfoldable pub mix_of : ℕ → ℕ → ℕ → ℕ → ℕ
mix_of i x y z = cond (nat_lt i 16) (mix_f x y z) (cond (nat_lt i 32) (mix_g x y z) (cond (nat_lt i 48) (mix_h x y z) (mix_i x y z)))

-- a = b + ((a + f + x + t) <<< s), words added modulo 2 ^ 32. The state q has the words in the order in which the operation names
-- them, and the answer has them in the order of the next: [ABCD ..] [DABC ..] [CDAB ..] [BCDA ..]
unfoldable pub step_with : ℕ → ℕ → ℕ → ℕ → List ℕ → List ℕ
step_with f x t s q =
    slice_index q 3
    ∷ (slice_index q 1 + rotl ((slice_index q 0 + f + x + t) % 2 ^ 32) s) % 2 ^ 32
    ∷ slice_index q 1
    ∷ slice_index q 2
    ∷ []

-- operation i + 1 on the block p: f is of b, c and d, x is X[k], t is T[i + 1]
unfoldable pub step_of : List ℕ → ℕ → List ℕ → List ℕ
step_of p i q =
    step_with (mix_of i (slice_index q 1) (slice_index q 2) (slice_index q 3)) (word_at p (4 * slice_index words i)) (slice_index sines i) (slice_index shifts i) q

-- n operations, after the first i
unfoldable pub steps_of : List ℕ → ℕ → ℕ → List ℕ → List ℕ
steps_of p i zero q = q
steps_of p i (suc n) q = step_of p (i + n) (steps_of p i n q)

-- each of the four words is incremented by the value it had before the block
abbrev pub add_words : List ℕ → List ℕ → List ℕ
add_words u v =
    (slice_index u 0 + slice_index v 0) % 2 ^ 32
    ∷ (slice_index u 1 + slice_index v 1) % 2 ^ 32
    ∷ (slice_index u 2 + slice_index v 2) % 2 ^ 32
    ∷ (slice_index u 3 + slice_index v 3) % 2 ^ 32
    ∷ []

-- the block of 64 bytes that p begins with: rounds 1 to 4, of 16 operations each
unfoldable pub block_of : List ℕ → List ℕ → List ℕ
block_of p st = add_words st (steps_of p 48 16 (steps_of p 32 16 (steps_of p 16 16 (steps_of p 0 16 st))))

-- the first k blocks of w, one after the other, and all whole blocks of w
unfoldable pub blocks : ℕ → List ℕ → List ℕ → List ℕ
blocks zero w st = st
blocks (suc k) w st = blocks k (drop 64 w) (block_of (take 64 w) st)

unfoldable pub run : List ℕ → List ℕ → List ℕ
run w st = blocks (length w / 64) w st

-- ---- 3.5 Output: from the low-order byte of A to the high-order byte of D
unfoldable pub output : List ℕ → List ℕ
output st = word_bytes (slice_index st 0) ++ word_bytes (slice_index st 1) ++ word_bytes (slice_index st 2) ++ word_bytes (slice_index st 3)

-- the message digest of a message
unfoldable pub md5 : List ℕ → List ℕ
md5 a = output (run (a ++ padding (length a)) start)
