-- Document 01, "Packet layout": the fixed byte strings, the fields of the packet that starts a run of bytes, and which lengths are usable.
use Rattle.std.specs.Prelude.{Bool, ◌&&◌, List, [], ◌∷◌, ℕ, ◌-◌, ◌%◌, eqb, leb, take}
use Rattle.format.specs.Bytes.{part, little}

-- ---- the fixed byte strings

-- `PAR2`, 0, `PKT`
unfoldable pub magic : List ℕ
magic = 0x50 ∷ 0x41 ∷ 0x52 ∷ 0x32 ∷ 0 ∷ 0x50 ∷ 0x4b ∷ 0x54 ∷ []

-- each type name starts `PAR 2.0`, 0,
abbrev pub named : List ℕ → List ℕ
named name = 0x50 ∷ 0x41 ∷ 0x52 ∷ 0x20 ∷ 0x32 ∷ 0x2e ∷ 0x30 ∷ 0 ∷ name

-- then `Main` and four zeros;
unfoldable pub main_type : List ℕ
main_type = named (0x4d ∷ 0x61 ∷ 0x69 ∷ 0x6e ∷ 0 ∷ 0 ∷ 0 ∷ 0 ∷ [])

-- `FileDesc`;
unfoldable pub file_desc_type : List ℕ
file_desc_type = named (0x46 ∷ 0x69 ∷ 0x6c ∷ 0x65 ∷ 0x44 ∷ 0x65 ∷ 0x73 ∷ 0x63 ∷ [])

-- `IFSC` and four zeros;
unfoldable pub ifsc_type : List ℕ
ifsc_type = named (0x49 ∷ 0x46 ∷ 0x53 ∷ 0x43 ∷ 0 ∷ 0 ∷ 0 ∷ 0 ∷ [])

-- `RecvSlic`;
unfoldable pub recovery_type : List ℕ
recovery_type = named (0x52 ∷ 0x65 ∷ 0x63 ∷ 0x76 ∷ 0x53 ∷ 0x6c ∷ 0x69 ∷ 0x63 ∷ [])

-- `Creator` and one zero
unfoldable pub creator_type : List ℕ
creator_type = named (0x43 ∷ 0x72 ∷ 0x65 ∷ 0x61 ∷ 0x74 ∷ 0x6f ∷ 0x72 ∷ 0 ∷ [])

-- ---- the fields of a packet

-- the magic at 0
abbrev pub magic_of : List ℕ → List ℕ
magic_of bs = take 8 bs

-- length u64 at 8, header included
abbrev pub length_of : List ℕ → ℕ
length_of bs = little (part 8 8 bs)

-- MD5 at 16,
abbrev pub digest_of : List ℕ → List ℕ
digest_of bs = part 16 16 bs

-- of bytes 32 to the end of a packet of length len
abbrev pub hashed_of : ℕ → List ℕ → List ℕ
hashed_of len bs = part 32 (len - 32) bs

-- set id at 32
abbrev pub set_of : List ℕ → List ℕ
set_of bs = part 32 16 bs

-- type at 48; the body is at 64
abbrev pub type_of : List ℕ → List ℕ
type_of bs = part 48 16 bs

-- a usable length: at least 64, a multiple of 4
unfoldable pub usable_length : ℕ → Bool
usable_length len = leb 64 len && eqb (len % 4) 0
